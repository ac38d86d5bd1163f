-- Laws of bits, each for every place.
use Prim.Native.Nat.{ℕ, zero, suc, ◌+◌, ◌-◌, ◌*◌, ◌/◌, ◌^◌, ◌<◌, min, max}
use mathlib.Core.Path.{◌≡◌, ap, ◌∙◌}
use mathlib.Core.Bool.{cond}
use native.Mathlib.Omega.{arith}
use native.Mathlib.Nat.{div-eq_of_lt, pow-suc}
use lib.Dec.{ltb}
use lib.Pow.{high, shr_mod, pow-add}
use lib.Bits.{bit_and, bit_or}
use borrow.Author.Tests.{ltb-true, ltb-false}
use Rattle.std.proofs.lemmas.Nat.Bits.{bit_at_and, bit_at_or, bit_at-suc}
use Rattle.basics.proofs.Tests.{by_bool}
use Rattle.bits.specs.Bits.{bit_at}

-- the highest bit of a number of 1 + k bits, by a shift and as a bit: whether the number is at least 2 ^ k
pub highest : (x k : ℕ) → x < 2 ^ (1 + k) → x / 2 ^ k ≡ cond (ltb x (2 ^ k)) 0 1
highest x k h =
    by_bool (ltb x (2 ^ k)) (λ e. rw e (div-eq_of_lt (ltb-true x (2 ^ k) e)))
    (λ e. let l = ltb-false x (2 ^ k) e in
    let parts : x ≡ 1 * 2 ^ k + (x - 2 ^ k) = omega arith in
    rw e (ap (λ (z : ℕ). z / 2 ^ k) parts ∙ high 1 k (omega (arith, pow-add 2 1 k))))

pub highest-at : (x k : ℕ) → x < 2 ^ (1 + k) → bit_at x k ≡ cond (ltb x (2 ^ k)) 0 1
highest-at x k h = shr_mod 1 k h ∙ highest x k h

-- the bits of `x & y` and of `x | y`
pub and_at : (x y k : ℕ) → bit_at (bit_and x y) k ≡ min (bit_at x k) (bit_at y k)
and_at = bit_at_and

pub or_at : (x y k : ℕ) → bit_at (bit_or x y) k ≡ max (bit_at x k) (bit_at y k)
or_at = bit_at_or

-- the bits of `!x`, of a number of n bits
pub not_at : (n x k : ℕ) → x < 2 ^ n → k < n → bit_at (2 ^ n - 1 - x) k ≡ 1 - bit_at x k
not_at zero x k h l = absurd (omega arith)
not_at (suc n) x zero h l = omega (arith, pow-suc 2 n)
not_at (suc n) x (suc k) h l =
    let twice = pow-suc 2 n in
    let half : (2 ^ suc n - 1 - x) / 2 ≡ 2 ^ n - 1 - x / 2 = omega (arith, twice) in
    rw (bit_at-suc (2 ^ suc n - 1 - x) k, half, bit_at-suc x k) (not_at n (x / 2) k (omega (arith, twice)) (omega arith))
