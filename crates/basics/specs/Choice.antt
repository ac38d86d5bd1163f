-- A choice that computes only the side it takes.
use Rattle.std.specs.Prelude.{Bool, true, false}

abbrev pub choose {ℓ} : {X : Type ℓ} → Bool → X → (Unit {0} → X) → X
choose true x f = x
choose false x f = f tt
