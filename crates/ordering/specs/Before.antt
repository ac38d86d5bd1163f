-- "Comes before", among the items of a list. The rule T for the items of the trace is a parameter.
use Rattle.std.specs.Prelude.{◌≡◌, ◌≢◌, ℕ, suc}
use mathlib.Core.List.{List, Memᴰ}
use Rattle.basics.specs.Lists.{Neighbours, Later}
use Rattle.ordering.specs.Order.{on_lane}

module _ {A : Type 0} (rid num : A → ℕ) where
  -- x is the next of y in their request
  abbrev pub Follows : A → A → Type 0
  Follows y x = (rid y ≡ rid x) × (suc (num y) ≡ num x)

module _ {A : Type 0} (lane rid num : A → ℕ) (T : List A → A → A → Type 0) where
  pub data Before (all : List A) : A → A → Type 0 where
    -- two items of the trace
    events : {y x : A} → T (on_lane lane 0 all) y x → Before all y x
    -- neighbours in one object's log
    logged : {y x : A} (o : ℕ) → Neighbours (on_lane lane (suc o) all) y x → Before all y x
    -- an item and the next of its request, not both in the trace: a request and its operation 1, operation k and k + 1, the last operation
    -- and the response
    next : {y x : A} → Memᴰ y all → Memᴰ x all → Follows rid num y x → (lane y ≡ 0 → lane x ≡ 0 → ⊥) → Before all y x

module _ {A : Type 0} (num : A → ℕ) where
  -- the weaker rule for the trace: a response and each later request
  pub record Answered (trace : List A) (y x : A) : Type 0 where
    pub response : num y ≢ 0
    pub request : num x ≡ 0
    pub later : Later trace y x

module _ {A : Type 0} (lane rid num : A → ℕ) where
  -- the relation of the audit: each trace event and the next
  abbrev pub ComesBefore : List A → A → A → Type 0
  ComesBefore = Before lane rid num Neighbours

  abbrev pub WeaklyBefore : List A → A → A → Type 0
  WeaklyBefore = Before lane rid num (Answered num)
