-- Maps from numbers.
use Rattle.std.specs.Prelude.{ℕ, eqb}
use Rattle.basics.specs.Choice.{choose}

-- a map with another value at k
unfoldable pub upd {ℓ} : {X : Type ℓ} → (ℕ → X) → ℕ → X → ℕ → X
upd f k x j = choose (eqb k j) x (λ _. f j)
