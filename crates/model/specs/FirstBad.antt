-- The first line that breaks a rule, read downward: n is the number of the next line, `past` are the lines above it, latest first.
use Rattle.std.specs.Prelude.{Bool, cond, List, [], ◌∷◌, ℕ, suc}
use Rattle.std.proofs.Math.Option.{Option, none, some}

module _ {A : Type 0} (bad : List A → A → Bool) where
  abbrev pub first_bad : ℕ → List A → List A → Option ℕ
  first_bad n past [] = none
  first_bad n past (x ∷ xs) = cond (bad past x) (some n) (first_bad (suc n) (x ∷ past) xs)
