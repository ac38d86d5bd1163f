-- The chains of cells. A place is a cell counted from 1, and 0 is none.
use Rattle.std.specs.Prelude.{ℕ, zero, suc, ◌+◌, ◌*◌, ◌%◌, Bool, cond, List, Option, Some, None, eqb}
use Rattle.cells.specs.declared.chains.Cell.{Cell}
use Rattle.cells.specs.Rows.{cell_at, is_at, most_cells}

-- the last place among the first n where a test holds
unfoldable pub last : (ℕ → Bool) → ℕ → ℕ
last P zero = 0
last P (suc n) = cond (P n) (suc n) (last P n)

-- the buckets of one store's keys, the stores, and all buckets
abbrev pub key_buckets : ℕ
key_buckets = 127

abbrev pub most_stores : ℕ
most_stores = 8

abbrev pub most_buckets : ℕ
most_buckets = key_buckets * most_stores

-- the bucket of a store's key
abbrev pub bucket_of : (object key : ℕ) → ℕ
bucket_of object key = key % key_buckets * most_stores + object % most_stores

abbrev pub bucket_at : List Cell → ℕ → ℕ
bucket_at cells i = bucket_of (cell_at cells i).object (cell_at cells i).key

abbrev pub in_bucket : List Cell → (bucket : ℕ) → ℕ → Bool
in_bucket cells b i = eqb (bucket_at cells i) b

-- the place of a key on a chain from place j on, within k steps
unfoldable pub walk : List Cell → (object key k j : ℕ) → ℕ
walk cells object key zero j = 0
walk cells object key (suc k) zero = 0
walk cells object key (suc k) (suc j) =
    cond (is_at cells object key (j % most_cells)) (suc j) (walk cells object key k (cell_at cells (j % most_cells)).link)

-- the cell at a place
abbrev pub cell_of : ℕ → Option ℕ
cell_of zero = None
cell_of (suc j) = Some (j % most_cells)
