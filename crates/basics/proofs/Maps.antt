-- Laws of a map with another value at a place.
use mathlib.Core.Path.{◌≡◌, refl, fun_ext}
use mathlib.Core.Logic.{◌≢◌}
use Prim.Native.Nat.{ℕ}
use native.Mathlib.Omega.{arith}
use Rattle.basics.specs.Maps.{upd}
use Rattle.basics.proofs.Tests.{eqb_yes, eqb_no, by_eq}

pub upd_same {ℓ} : {X : Type ℓ} (f : ℕ → X) (k : ℕ) (x : X) → upd f k x k ≡ x
unfolding upd
upd_same f k x = rw (eqb_yes {a = k} refl)

pub upd-at {ℓ} : {X : Type ℓ} (f : ℕ → X) {k j : ℕ} (x : X) → k ≡ j → upd f k x j ≡ x
unfolding upd
upd-at f x p = rw (eqb_yes p)

pub upd_other {ℓ} : {X : Type ℓ} (f : ℕ → X) {k j : ℕ} (x : X) → k ≢ j → upd f k x j ≡ f j
unfolding upd
upd_other f x n = rw (eqb_no n)

pub upd-swap {ℓ} : {X : Type ℓ} (f : ℕ → X) {k j : ℕ} (x y : X) → k ≢ j → upd (upd f k x) j y ≡ upd (upd f j y) k x
unfolding upd
upd-swap f {k} {j} x y n = fun_ext λ i. by_eq k i
    (λ p e. by_eq j i (λ q d. absurd (n (omega arith))) (λ m d. rw (e, d)))
    (λ m e. rw e)
