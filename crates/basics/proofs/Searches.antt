-- What is looked up in a list by its structure is what stands at the place that a scan finds.
use mathlib.Core.Bool.{Bool, cond}
use mathlib.Core.List.{List, [], ◌∷◌}
use mathlib.Core.Path.{◌≡◌, refl}
use Prim.Native.Nat.{ℕ, zero, suc, ◌≤◌, ◌<◌}
use native.Mathlib.Omega.{arith}
use Rattle.basics.specs.Firsts.{firsts}
use Rattle.basics.specs.Scans.{FirstFrom}
use Rattle.basics.proofs.Firsts.{firsts-front}

-- the scan behind the first place
shift : (P : ℕ → Bool) (n s : ℕ) → FirstFrom P 0 (suc n) (suc s) → FirstFrom (λ i. P (suc i)) 0 n s
shift P n s f = record {
  skipped = λ k _ l h. f.skipped (suc k) (omega arith) (omega arith) (omega arith);
  found = λ h. (omega arith, (f.found (omega arith)).1);
}

-- what i items of a sequence, one after the other, make of a state
module _ {A S : Type 0} (next : S → A → S) where
  abbrev pub state_at : (ℕ → A) → S → ℕ → S
  state_at f c zero = c
  state_at f c (suc i) = state_at (λ j. f (suc j)) (next c (f 0)) i

-- h looks for the first item that P holds of, and makes `hit` of it; on the way it has a state
module _ {A S X : Type 0} (h : S → List A → X) (P : A → Bool) (hit : S → A → X) (next : S → A → S)
    (step : (c : S) (x : A) (xs : List A) → h c (x ∷ xs) ≡ cond (P x) (hit c x) (h (next c x) xs)) where
  pub search-hit : (n s : ℕ) (f : ℕ → A) (c : S) → FirstFrom (λ i. P (f i)) 0 n s → s < n →
      h c (firsts f n) ≡ hit (state_at next f c s) (f s)
  search-hit zero s f c g l = absurd (omega arith)
  search-hit (suc n) zero f c g l = rw (firsts-front f n, step, (g.found l).1)
  search-hit (suc n) (suc s) f c g l =
      rw (firsts-front f n, step, g.skipped 0 (omega arith) (omega arith) (omega arith))
      (search-hit n s (λ i. f (suc i)) (next c (f 0)) (shift (λ i. P (f i)) n s g) (omega arith))

  pub search-none : (n s : ℕ) (f : ℕ → A) (c : S) → FirstFrom (λ i. P (f i)) 0 n s → n ≤ s →
      h c (firsts f n) ≡ h (state_at next f c n) []
  unfolding firsts
  search-none zero s f c g l = refl
  search-none (suc n) zero f c g l = absurd (omega arith)
  search-none (suc n) (suc s) f c g l =
      rw (firsts-front f n, step, g.skipped 0 (omega arith) (omega arith) (omega arith))
      (search-none n s (λ i. f (suc i)) (next c (f 0)) (shift (λ i. P (f i)) n s g) (omega arith))
