-- Bool tests with their readings.
use mathlib.Core.Path.{◌≡◌, refl, sym, subst}
use mathlib.Core.Logic.{◌≢◌}
use mathlib.Core.Bool.{Bool, true, false, ◌&&◌, ◌||◌, not}
use Prim.Native.Nat.{ℕ}
use lib.Dec.{T, eqb}
use borrow.Author.Tests.{eqb-true, eqb-false, eq-eqb, ne_eqb, not-true as not-is-true}
use native.Mathlib.Omega.{arith}

-- anything from equal constructors that differ: `clash (cc)`
pub clash {ℓ} : {P : Type ℓ} → ◌≡◌ {A = ℕ} 0 1 → P
clash e = absurd (omega arith)

-- by cases on a test, with its equation
pub by_bool {ℓ} : {P : Type ℓ} (b : Bool) → (b ≡ true → P) → (b ≡ false → P) → P
by_bool true f g = f refl
by_bool false f g = g refl

-- the test of two numbers, with the numbers found from the equation
pub eqb_yes : {a b : ℕ} → a ≡ b → eqb a b ≡ true
eqb_yes {a} {b} = eq-eqb a b

pub eqb_no : {a b : ℕ} → a ≢ b → eqb a b ≡ false
eqb_no {a} {b} = ne_eqb a b

pub yes_eqb : {a b : ℕ} → eqb a b ≡ true → a ≡ b
yes_eqb {a} {b} = eqb-true a b

pub no_eqb : {a b : ℕ} → eqb a b ≡ false → a ≢ b
no_eqb {a} {b} = eqb-false a b

-- by cases on whether two numbers are equal, with the test's value
pub by_eq {ℓ} : {P : Type ℓ} (a b : ℕ) → (a ≡ b → eqb a b ≡ true → P) → (a ≢ b → eqb a b ≡ false → P) → P
by_eq a b f g = by_bool (eqb a b) (λ e. f (yes_eqb e) e) (λ e. g (no_eqb e) e)

-- a fact of b: it holds of a, and it holds of b if the two differ
pub same_or {ℓ} : (P : ℕ → Type ℓ) (a b : ℕ) → P a → (a ≢ b → eqb a b ≡ false → P b) → P b
same_or P a b h k = by_eq a b (λ p _. subst P p h) k

pub eqb-self : (a : ℕ) → eqb a a ≡ true
eqb-self a = eqb_yes {a = a} refl

pub not-true : {b : Bool} → not b ≡ true → b ≡ false
not-true {b} = not-is-true b

pub and-true : (a b : Bool) → (a && b) ≡ true → (a ≡ true) × (b ≡ true)
and-true true true e = (refl, refl)
and-true true false e = absurd (subst T (sym e) tt)
and-true false true e = absurd (subst T (sym e) tt)
and-true false false e = absurd (subst T (sym e) tt)

pub not-false : (b : Bool) → not b ≡ false → b ≡ true
not-false true e = refl
not-false false e = clash (cc)

pub false-or : (a b : Bool) → (a || b) ≡ false → (a ≡ false) × (b ≡ false)
false-or true b e = clash (cc)
false-or false b e = (refl, e)

pub or-true : (a : Bool) → (a || true) ≡ true
or-true true = refl
or-true false = refl
