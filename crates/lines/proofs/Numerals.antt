-- Laws of the digits of a number.
use Rattle.std.proofs.Common.{◌≡◌, ℕ, ◌+◌, ◌-◌, ◌*◌, ◌^◌, ◌<◌, ◌≤◌, Bool, true, false, ◌&&◌, ltb, leb, List, [], ◌∷◌, ◌++◌, length, get_or, refl, ap, ◌∙◌, arith, le-ltb, lt-ltb, eq-eqb, ne_eqb, le-leb, leb-true, Option, Some, None}
use borrow.Author.Tests.{lt-leb}
use Rattle.lines.specs.Number.{push_of, digits_of, number_of}

push-is : (v b : ℕ) → 48 ≤ b → b ≤ 57 → v * 10 + (b - 48) < 2 ^ 64 → Some (v * 10 + (b - 48)) ≡ push_of v b
unfolding push_of
push-is v b p q r = simp (le-leb 48 b p, le-leb b 57 q, lt-ltb _ _ r, push_of)

push-over : (v b : ℕ) → 48 ≤ b → b ≤ 57 → 2 ^ 64 ≤ v * 10 + (b - 48) → None ≡ push_of v b
unfolding push_of
push-over v b p q r = simp (le-leb 48 b p, le-leb b 57 q, le-ltb _ _ r, push_of)

-- b is no digit
pub push-none : (v b : ℕ) → (48 ≤ b → 57 < b) → None ≡ push_of v b
unfolding push_of
push-none v b h = go (leb 48 b) refl
  where
    go : (x : Bool) → leb 48 b ≡ x →
        ◌≡◌ {A = Option ℕ} None (elim (x && leb b 57 && ltb (v * 10 + (b - 48)) (2 ^ 64)) [ true ↦ Some (v * 10 + (b - 48)) | false ↦ None ])
    go true e = simp (lt-leb b 57 (h (leb-true 48 b e)))
    go false e = refl

-- b is the digit of value d
module _ (v b d : ℕ) (h : d + 48 ≡ b) (k : d ≤ 9) where
  pub push-value : (w : ℕ) → w ≡ v * 10 + d → w < 2 ^ 64 → Some w ≡ push_of v b
  push-value w e l = ap Some q ∙ push-is v b (omega arith) (omega arith) (omega (arith, q))
    where
      q : w ≡ v * 10 + (b - 48)
      q = omega arith

  pub push-above : 2 ^ 64 ≤ v * 10 + d → None ≡ push_of v b
  push-above l = push-over v b (omega arith) (omega arith) (omega arith)

-- a number is 0, or digits that do not begin with 0
pub number-zero : (s : List ℕ) → get_or s 0 0 ≡ 48 → length s ≤ 1 → Some 0 ≡ number_of s
unfolding number_of
number-zero [] h k = absurd (omega arith)
number-zero (b ∷ s) h k = simp (eq-eqb b 48 h, eq-eqb (length s) 0 (omega arith), number_of)

pub number_digits : (s : List ℕ) → 0 < length s → (get_or s 0 0 ≡ 48 → ⊥) → digits_of 0 s ≡ number_of s
unfolding number_of
number_digits [] h k = absurd (omega arith)
number_digits (b ∷ s) h k = simp (ne_eqb b 48 k, number_of)

-- one digit more
pub digits_more : (u : ℕ) (s : List ℕ) (w b : ℕ) → digits_of u s ≡ Some w → digits_of u (s ++ b ∷ []) ≡ push_of w b
unfolding digits_of
digits_more u [] w b e = let h : u ≡ w = cc in rw h (same (push_of w b))
  where
    same : (p : Option ℕ) → elim p [ Some y ↦ Some y | None ↦ None ] ≡ p
    same (Some y) = refl
    same None = refl
digits_more u (x ∷ s) w b e = go (push_of u x) e (λ y. digits_more y s w b)
  where
    go : (p : Option ℕ) → elim p [ Some y ↦ digits_of y s | None ↦ None ] ≡ Some w →
        ((y : ℕ) → digits_of y s ≡ Some w → digits_of y (s ++ b ∷ []) ≡ push_of w b) →
        elim p [ Some y ↦ digits_of y (s ++ b ∷ []) | None ↦ None ] ≡ push_of w b
    go (Some y) h ih = ih y h
    go None h ih = cc

-- a digit behind a number, case by case
pub ruleset digit_cases = (push-none, push-value, push-above)
