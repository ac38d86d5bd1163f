-- Stores that hold contents, and what a put makes of them.
use Rattle.std.specs.Prelude.{ℕ, zero, suc, ◌+◌, ◌≤◌, ◌<◌, Bool, true, cond, ◌&&◌, List, ◌≡◌, Option, Some, None, eqb, ltb, get_or, length, replicate}
use Rattle.cells.specs.declared.chains.Cell.{Cell}
use Rattle.cells.specs.declared.stores.Stores.{Stores}
use Rattle.cells.specs.Rows.{cell_at, is_at, no_cell, most_cells}
use Rattle.cells.specs.Chains.{last, bucket_of, in_bucket, bucket_at, most_buckets}

-- what each store holds at each key
abbrev pub Contents : Type 0
Contents = (object key : ℕ) → Option ℕ

-- contents with a key put
abbrev pub put_in : Contents → (object key value : ℕ) → Contents
put_in c object key value o k = cond (eqb object o && eqb key k) (Some value) (c o k)

-- what stands at a place
abbrev pub cell_in : List Cell → ℕ → Option ℕ
cell_in cells zero = None
cell_in cells (suc i) = Some (cell_at cells i).value

-- the place of a key among the first n cells
abbrev pub place_of : List Cell → (n object key : ℕ) → ℕ
place_of cells n object key = last (is_at cells object key) n

-- the place of the newest cell of a key's bucket
abbrev pub head_of : Stores → (object key : ℕ) → ℕ
head_of s object key = get_or s.heads (bucket_of object key) 0

-- stores before the first put
abbrev pub no_stores : Stores
no_stores = record { cells = replicate most_cells no_cell; heads = replicate most_buckets 0; used = 0 }

-- The first `used` cells hold the contents c. Each bucket's head is its last cell, and each cell's link the last one of its bucket below it.
pub record Holds (s : Stores) (c : Contents) : Type 0 where
  pub cells_room : length s.cells ≡ most_cells
  pub heads_room : length s.heads ≡ most_buckets
  pub few : s.used ≤ most_cells
  pub head : (b : ℕ) → b < most_buckets → get_or s.heads b 0 ≡ last (in_bucket s.cells b) s.used
  pub link : (i : ℕ) → i < s.used → (cell_at s.cells i).link ≡ last (in_bucket s.cells (bucket_at s.cells i)) i
  pub cells : (object key : ℕ) → c object key ≡ cell_in s.cells (place_of s.cells s.used object key)

-- a put of a key that holds this: whether it can be done, where `used` cells are used, and how many it adds
abbrev pub fits : (used : ℕ) → Option ℕ → Bool
fits used None = ltb used most_cells
fits used (Some v) = true

abbrev pub added : (used : ℕ) → Option ℕ → ℕ
added used None = cond (ltb used most_cells) 1 0
added used (Some v) = 0

-- a put into stores that hold c, of which `used` cells are used; where it cannot be done, nothing changes
pub record PutsInto (used : ℕ) (c : Contents) (object key value : ℕ) (s' : Stores) : Type 0 where
  pub count : s'.used ≡ used + added used (c object key)
  pub holds : Holds s' (cond (fits used (c object key)) (put_in c object key value) c)

-- a put into any stores
abbrev pub Puts : Stores → (object key value : ℕ) → Stores → Type 0
Puts s object key value s' = (c : Contents) → Holds s c → PutsInto s.used c object key value s'
