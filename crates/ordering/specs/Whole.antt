-- What the theorems ask of the items of a batch.
use Rattle.std.specs.Prelude.{◌≡◌, Bool, ◌&&◌, ℕ, suc, ◌≤◌, eqb}
use mathlib.Core.List.{List, Memᴰ}
use Rattle.basics.specs.Lists.{Later}
use Rattle.basics.specs.Count.{count}
use Rattle.ordering.specs.Order.{on_lane}
use Rattle.ordering.specs.Before.{Follows}

module _ {A : Type 0} (rid num : A → ℕ) where
  -- the item with number k of request r
  abbrev pub keyed : ℕ → ℕ → A → Bool
  keyed r k y = eqb (rid y) r && eqb (num y) k

module _ {A : Type 0} (lane rid num : A → ℕ) where
  pub record Whole (all : List A) : Type 0 where
    -- no number comes twice in a request, and each has the one before it
    pub once : (r k : ℕ) → count (keyed rid num r k) all ≤ 1
    pub down : (x : A) → Memᴰ x all → (k : ℕ) → num x ≡ suc k → (y : A) × Memᴰ y all × (rid y ≡ rid x) × (num y ≡ k)
    -- an item of the trace that has a next one in its request is the request itself
    pub opens : (y x : A) → Memᴰ y all → Memᴰ x all → lane y ≡ 0 → Follows rid num y x → num y ≡ 0
    -- and if the next one is in the trace too, it is a later event
    pub behind : (y x : A) → Memᴰ y all → Memᴰ x all → lane y ≡ 0 → lane x ≡ 0 → Follows rid num y x →
        Later (on_lane lane 0 all) y x
