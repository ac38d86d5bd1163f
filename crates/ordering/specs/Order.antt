-- Orders of items that stand in lanes and in requests, as the merge takes them: each lane keeps its sequence, each request its numbers.
use Rattle.std.specs.Prelude.{◌≡◌, cond, List, [], ◌∷◌, ℕ, eqb}
use Rattle.ordering.specs.Merge.{bump}

module _ {A : Type 0} (lane : A → ℕ) where
  -- the items of one lane
  abbrev pub on_lane : ℕ → List A → List A
  on_lane l [] = []
  on_lane l (x ∷ xs) = cond (eqb (lane x) l) (x ∷ on_lane l xs) (on_lane l xs)

module _ {A : Type 0} (rid num : A → ℕ) where
  -- each item has the number that is next in its request
  abbrev pub Numbered : (ℕ → ℕ) → List A → Type 0
  Numbered stage [] = Unit {0}
  Numbered stage (x ∷ xs) = (num x ≡ stage (rid x)) × Numbered (bump stage (rid x)) xs

module _ {A : Type 0} (lane rid num : A → ℕ) where
  -- an order of `rest`: each lane keeps its sequence, each item comes when its number is next in its request
  pub record IsOrder (stage : ℕ → ℕ) (rest order : List A) : Type 0 where
    pub lanes : (l : ℕ) → on_lane lane l order ≡ on_lane lane l rest
    pub numbered : Numbered rid num stage order
