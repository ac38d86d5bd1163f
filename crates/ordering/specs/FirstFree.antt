-- The rule by which an order is made: at each step the first item of the list that waits for no item that is left.
use Rattle.std.specs.Prelude.{◌≡◌}
use mathlib.Core.List.{List, [], ◌∷◌, ◌++◌, Memᴰ}
use Rattle.basics.specs.Lists.{All}

module _ {A : Type 0} (R : A → A → Type 0) where
  -- an item that R puts before z is left
  abbrev pub Waits : List A → A → Type 0
  Waits left z = (y : A) × Memᴰ y left × R y z

  -- x is the first item of `left` that does not wait; `others` are left behind it
  pub record FirstFree (left : List A) (x : A) (others : List A) : Type 0 where
    pub front : List A
    pub back : List A
    pub split : left ≡ front ++ x ∷ back
    pub without : others ≡ front ++ back
    pub free : Waits left x → ⊥
    pub waits : All (Waits left) front

  -- the order takes the first free item again and again, and `rest` is left
  abbrev pub Takes : List A → List A → List A → Type 0
  Takes left [] rest = left ≡ rest
  Takes left (x ∷ xs) rest = (others : List A) × FirstFree left x others × Takes others xs rest

  -- until nothing is left
  abbrev pub Greedy : List A → List A → Type 0
  Greedy left order = Takes left order []
