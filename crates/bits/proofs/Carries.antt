-- How the carry of a sum compares two numbers.
use Prim.Native.Nat.{ℕ, ◌+◌, ◌-◌, ◌/◌, ◌^◌, ◌<◌}
use mathlib.Core.Path.{◌≡◌, ◌∙◌}
use mathlib.Core.Bool.{cond}
use native.Mathlib.Omega.{arith}
use lib.Pow.{pow-add}
use lib.Dec.{ltb}
use borrow.Author.Tests.{ltb-true, ltb-false, lt-ltb, le-ltb}
use Rattle.basics.proofs.Tests.{by_bool}
use Rattle.bits.proofs.Places.{highest}

-- of two numbers of 1 + k bits, x is below y exactly when `!x + y` does not fit: the highest bit of half of it
pub carry-below : (k x y : ℕ) → x < 2 ^ (1 + k) → y < 2 ^ (1 + k) → (2 ^ (1 + k) - 1 - x + y) / 2 / 2 ^ k ≡ cond (ltb x y) 1 0
carry-below k x y h l =
    let twice = pow-add 2 1 k in
    let half = (2 ^ (1 + k) - 1 - x + y) / 2 in
    highest half k (omega (arith, twice))
    ∙ by_bool (ltb x y)
    (λ e. rw (e, le-ltb half (2 ^ k) (omega (arith, twice, ltb-true x y e))))
    (λ e. rw (e, lt-ltb half (2 ^ k) (omega (arith, twice, ltb-false x y e))))
