-- The objects as they are now: the registers' values, and the stores. What is said of an operation is said by `apply` alone, from any
-- contents.
use Rattle.std.specs.Prelude.{◌≡◌, ℕ, ◌+◌, ◌<◌, ◌≤◌, cond, List, Option, None, length, replicate, ◌==◌, slice_index}
use Rattle.std.proofs.lemmas.List.Edits.{sets}
use Rattle.text.specs.declared.report.Entry.{Entry}
use Rattle.text.specs.declared.report.Op.{Op}
use Rattle.cells.specs.declared.stores.Stores.{Stores}
use Rattle.cells.specs.Rows.{most_cells}
use Rattle.cells.specs.Stores.{Contents, Holds, no_stores}
use Rattle.machine.specs.Limits.{first_store}
use Rattle.machine.specs.Objects.{Content, register, store, reads, apply}
use Rattle.machine.specs.Logs.{after, after_all, answers_from}
use Rattle.machine.specs.declared.objects.Objects.{Objects}

-- the objects before the first operation
abbrev pub no_objects : Objects
no_objects = record { registers = replicate first_store 0; stores = no_stores }

-- the cells of a content; a register has none
abbrev pub cells_of : Content → ℕ → Option ℕ
cells_of (register v) key = None
cells_of (store cells) key = cells key

-- these hold the objects cs
pub record ObjectsHeld (h : Objects) (cs : ℕ → Content) : Type 0 where
  pub room : length h.registers ≡ first_store
  pub values : (object : ℕ) → object < first_store → cs object ≡ register (slice_index h.registers object)
  pub stores : (object : ℕ) → first_store ≤ object → cs object ≡ store (cells_of (cs object))
  pub contents : Holds h.stores (λ object. cells_of (cs object))

-- what an operation leaves in a register that holds v
abbrev pub register_left : Op → ℕ → ℕ
register_left x v = reads x (apply x (register v)).1

-- what it leaves in the stores that hold c, where it is one on a store
abbrev pub stores_left : Op → Contents → Contents
stores_left x c object = cond (x.object == object) (cells_of (apply x (store (c x.object))).1) (c object)

-- an operation on the objects cs: its answer, and the objects behind it; it takes one cell more at most
pub record PerformedIs (h : Objects) (cs : ℕ → Content) (x : Op) (h' : Objects) (v : ℕ) : Type 0 where
  pub answer : v ≡ (apply x (cs x.object)).0
  pub held : ObjectsHeld h' (after cs x)
  pub few : h'.stores.used ≤ h.stores.used + 1

-- whatever the objects are, where there is room for a cell
abbrev pub Performs : Objects → Op → Objects → (answer : ℕ) → Type 0
Performs h x h' v = (cs : ℕ → Content) → ObjectsHeld h cs → h.stores.used < most_cells → PerformedIs h cs x h' v

-- the operations of lines, one after the other: their answers to the front of an array, and the objects behind them
pub record AnsweredIs (h : Objects) (cs : ℕ → Content) (ls : List Entry) (out : List ℕ) (h' : Objects) (out' : List ℕ) : Type 0 where
  pub answers : out' ≡ sets out 0 (answers_from cs ls)
  pub held : ObjectsHeld h' (after_all cs ls)
  pub few : h'.stores.used ≤ h.stores.used + length ls

-- where there is room for a cell of each
abbrev pub AnswersAll : Objects → List Entry → (out : List ℕ) → Objects → (out' : List ℕ) → Type 0
AnswersAll h ls out h' out' =
    (cs : ℕ → Content) → ObjectsHeld h cs → h.stores.used + length ls ≤ most_cells → AnsweredIs h cs ls out h' out'

-- ── an operation on a store ──
pub record StoreIs (s : Stores) (c : Contents) (x : Op) (s' : Stores) (v : ℕ) : Type 0 where
  pub answer : v ≡ (apply x (store (c x.object))).0
  pub held : Holds s' (stores_left x c)
  pub few : s'.used ≤ s.used + 1

abbrev pub OnStore : Stores → Op → Stores → (answer : ℕ) → Type 0
OnStore s x s' v = (c : Contents) → Holds s c → s.used < most_cells → StoreIs s c x s' v
