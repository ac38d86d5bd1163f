-- Laws of the last place where a test holds.
use Prim.Native.Nat.{ℕ, zero, suc, ◌+◌, ◌-◌, ◌≤◌, ◌<◌}
use mathlib.Core.Path.{◌≡◌, refl, subst}
use mathlib.Core.Bool.{Bool, true, false, cond}
use native.Mathlib.Omega.{arith}
use native.Mathlib.Numerals.{add-one}
use Rattle.basics.proofs.Tests.{by_bool}
use Rattle.cells.specs.Chains.{last}

module _ (P : ℕ → Bool) where
  pub last-next : (n : ℕ) → last P (n + 1) ≡ cond (P n) (n + 1) (last P n)
  unfolding last
  last-next n = rw add-one

  pub last-le : (n : ℕ) → last P n ≤ n
  unfolding last
  last-le zero = omega arith
  last-le (suc n) = by_bool (P n) (λ t. rw t (omega arith)) (λ t. rw t (let i = last-le n in omega arith))

  -- the test holds there
  pub last-true : (n : ℕ) → 0 < last P n → P (last P n - 1) ≡ true
  unfolding last
  last-true zero = λ h. absurd (omega arith)
  last-true (suc n) =
      by_bool (P n) (λ t. rw t (λ h. let e : n ≡ suc n - 1 = omega arith in subst (λ m. P m ≡ true) e t)) (λ t. rw t (last-true n))

-- tests that agree have one last place
module _ (P Q : ℕ → Bool) where
  pub last-same : (n : ℕ) → ((i : ℕ) → i < n → P i ≡ Q i) → last P n ≡ last Q n
  unfolding last
  last-same zero h = refl
  last-same (suc n) h =
      let e = h n (omega arith) in
      let d = last-same n (λ (i : ℕ). λ (k : i < n). h i (omega (arith, k))) in
      λ i. cond (e i) (suc n) (d i)

  -- what a wider test passes by holds none of the narrower
  pub last-through : (n : ℕ) → ((i : ℕ) → P i ≡ true → Q i ≡ true) → last P n ≡ last P (last Q n)
  unfolding last
  last-through zero h = refl
  last-through (suc n) h =
      by_bool (Q n) (λ t. rw t)
      (λ t. let f : P n ≡ false = by_bool (P n) (λ p. cc (h n p)) (λ p. p) in rw (t, f) (last-through n h))
