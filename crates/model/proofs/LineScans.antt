-- A scan down the first t lines of a sequence: what one line does to `first_bad`.
use mathlib.Core.Bool.{Bool, true, false}
use mathlib.Core.List.{List, [], ◌∷◌, ◌++◌}
use mathlib.Core.Option.{none, some}
use mathlib.Core.Path.{◌≡◌, refl, sym, ap, ◌∙◌}
use Prim.Native.Nat.{ℕ, zero, suc, ◌+◌, ◌-◌, ◌<◌, ◌≤◌}
use native.Mathlib.Numerals.{add-one}
use native.Mathlib.Omega.{arith}
use Rattle.basics.specs.Firsts.{firsts}
use Rattle.model.specs.FirstBad.{first_bad}

module _ {A : Type 0} (f : ℕ → A) where
  -- the lines above line i, latest first
  abbrev pub above : ℕ → List A
  above zero = []
  above (suc i) = f i ∷ above i

  -- k lines from line i on
  abbrev pub from : (i k : ℕ) → List A
  from i zero = []
  from i (suc k) = f i ∷ from (suc i) k

  from_more : (i k : ℕ) → from i (suc k) ≡ from i k ++ f (i + k) ∷ []
  from_more i zero = ap (λ n. f n ∷ []) (omega arith)
  from_more i (suc k) =
      let z : suc i + k ≡ i + suc k = omega arith in
      ap (λ xs. f i ∷ xs) (from_more (suc i) k ∙ ap (λ n. from (suc i) k ++ f n ∷ []) z)

  pub firsts-from : (n : ℕ) → firsts f n ≡ from 0 n
  unfolding firsts
  firsts-from zero = refl
  firsts-from (suc n) =
      let z : n ≡ 0 + n = omega arith in
      (λ i. firsts-from n i ++ f (z i) ∷ []) ∙ sym (from_more 0 n)

  pub from_next : {i t : ℕ} → i < t → from i (t - i) ≡ f i ∷ from (i + 1) (t - (i + 1))
  from_next {i} {t} h =
      let z : t - i ≡ suc (t - (i + 1)) = omega arith in
      rw (z, add-one)

  pub from_end : {i t : ℕ} → t ≤ i → from i (t - i) ≡ []
  from_end {i} {t} h = let z : t - i ≡ 0 = omega arith in rw z

-- ── the first bad of t lines, which are numbered from n on ──
-- none of the first i is bad
pub record Scanned {A : Type 0} (bad : List A → A → Bool) (f : ℕ → A) (n t i : ℕ) : Type 0 where
  pub within : i ≤ t
  pub same : first_bad bad (n + i) (above f i) (from f i (t - i)) ≡ first_bad bad n [] (firsts f t)

module _ {A : Type 0} {bad : List A → A → Bool} {f : ℕ → A} {n t : ℕ} where
  pub scan-start : Scanned bad f n t 0
  scan-start =
      let z : n + 0 ≡ n = omega arith in
      let w : t - 0 ≡ t = omega arith in
      record { within = omega arith; same = rw (z, w, firsts-from f t) }

  module _ {i : ℕ} (s : Scanned bad f n t i) (h : i < t) where
    left : t - i ≡ suc (t - suc i)
    left = omega arith

    pub scan-on : bad (above f i) (f i) ≡ false → Scanned bad f n t (i + 1)
    scan-on e =
        let z : n + (i + 1) ≡ suc (n + i) = omega arith in
        record { within = omega arith; same = rw (z, add-one) (rw (left, e) at s.same) }

    pub scan-bad : (line : ℕ) → line ≡ n + i → bad (above f i) (f i) ≡ true → some line ≡ first_bad bad n [] (firsts f t)
    scan-bad line l e = ap some l ∙ rw (left, e) at s.same

  pub scan-end : {i : ℕ} → Scanned bad f n t i → t ≤ i → none ≡ first_bad bad n [] (firsts f t)
  scan-end {i} s h = let z : t - i ≡ 0 = omega arith in rw z at s.same
