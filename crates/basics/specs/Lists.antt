-- What is said of lists of any items.
use Rattle.std.specs.Prelude.{◌≡◌, List, [], ◌∷◌, ◌++◌}

module _ {A : Type 0} where
  -- P holds of each item
  abbrev pub All : (A → Type 0) → List A → Type 0
  All P [] = Unit {0}
  All P (x ∷ xs) = P x × All P xs

  -- an item and the next
  pub record Neighbours (xs : List A) (y x : A) : Type 0 where
    pub front : List A
    pub back : List A
    pub split : xs ≡ front ++ y ∷ x ∷ back

  -- an item and a later one
  pub record Later (xs : List A) (y x : A) : Type 0 where
    pub front : List A
    pub between : List A
    pub back : List A
    pub split : xs ≡ front ++ y ∷ (between ++ x ∷ back)
