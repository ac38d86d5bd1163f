-- A scan that finds nothing, and a list of checks none of which finds a fault.
use mathlib.Core.Bool.{Bool, false}
use mathlib.Core.List.{List, [], ◌∷◌, ◌++◌}
use mathlib.Core.Option.{Option, none, some}
use mathlib.Core.Path.{◌≡◌, refl}
use Prim.Native.Nat.{ℕ, suc}
use lib.Dec.{eqb}
use Rattle.basics.specs.Lists.{All}
use Rattle.basics.proofs.Tests.{clash, by_bool, no_eqb}
use Rattle.text.specs.Text.{Read, readable, unreadable}
use Rattle.model.specs.Checks.{Verdict, verdict, Check, check, fault_or, first_fault, bad_line, contents}
use Rattle.model.specs.FirstBad.{first_bad}

module _ {A : Type 0} (bad : List A → A → Bool) where
  -- no line is bad, each with the lines above it
  abbrev pub Clean : List A → List A → Type 0
  Clean past [] = Unit {0}
  Clean past (x ∷ xs) = (bad past x ≡ false) × Clean (x ∷ past) xs

  pub scan-clean : (n : ℕ) (past xs : List A) → first_bad bad n past xs ≡ none → Clean past xs
  scan-clean n past [] e = tt
  scan-clean n past (x ∷ xs) e = by_bool (bad past x)
      (λ d. let e' = rw d at e in clash (cc))
      (λ d. (d, scan-clean (suc n) (x ∷ past) xs (rw d at e)))

  pub clean-scan : (n : ℕ) (past xs : List A) → Clean past xs → first_bad bad n past xs ≡ none
  clean-scan n past [] h = refl
  clean-scan n past (x ∷ xs) h = rw h.0 (clean-scan (suc n) (x ∷ past) xs h.1)

-- a check that finds no fault, and a check of another row than n
abbrev pub Clear : Check → Type 0
Clear (check k o) = o ≡ none

abbrev pub NotRow : ℕ → Check → Type 0
NotRow n (check k o) = eqb k n ≡ false

-- ── one row, and what the rows behind it come to ──
module _ {A : Type 0} (said : (row line : ℕ) → A) (k : ℕ) (o : Option ℕ) (behind : A) where
  -- a row that holds is what is said,
  pub holds : (n : ℕ) → o ≡ some n → said k n ≡ fault_or said k o behind
  holds n e = rw e refl

  -- and one that does not leaves it to the rows behind
  pub passes : o ≡ none → behind ≡ fault_or said k o behind
  passes e = rw e refl

-- where the verdict has another number than the row, the row did not hold
pub passed : (k : ℕ) (o : Option ℕ) (behind : Verdict) (n : ℕ) → eqb k n ≡ false → (fault_or verdict k o behind).number ≡ n →
    (o ≡ none) × (behind.number ≡ n)
passed k none behind n d e = (refl, e)
passed k (some l) behind n d e = absurd (no_eqb d e)

-- a text with no bad line was read
pub read-fine : {S : Type 0} (empty : S) (x : Read S) → bad_line x ≡ none → x ≡ readable (contents empty x)
read-fine empty (readable x) e = refl
read-fine empty (unreadable n) e = clash (cc)

-- ── several rows ──
pub clear-fault : (cs ds : List Check) → All Clear cs → first_fault (cs ++ ds) ≡ first_fault ds
clear-fault [] ds h = refl
clear-fault (check k none ∷ cs) ds h = clear-fault cs ds h.1
clear-fault (check k (some n) ∷ cs) ds h = clash (let e = h.0 in cc)

-- checks of other rows that stand before the verdict n found no fault
pub fault-clear : (n : ℕ) (cs ds : List Check) → All (NotRow n) cs → (first_fault (cs ++ ds)).number ≡ n →
    All Clear cs × ((first_fault ds).number ≡ n)
fault-clear n [] ds h e = (tt, e)
fault-clear n (check k none ∷ cs) ds h e = let g = fault-clear n cs ds h.1 e in ((refl, g.0), g.1)
fault-clear n (check k (some l) ∷ cs) ds h e = absurd (no_eqb h.0 e)
