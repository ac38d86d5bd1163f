-- Laws of scans: what is passed over and what is found, heads of buckets, and a scan that begins at one.
use Prim.Native.Nat.{ℕ, suc, ◌-◌, ◌≤◌, ◌<◌}
use mathlib.Core.Bool.{Bool, true, false, false≢true}
use mathlib.Core.List.{List}
use mathlib.Core.Path.{◌≡◌, sym, ap, subst, ◌∙◌}
use native.Mathlib.Omega.{arith}
use borrow.Author.Tests.{ltb-true, ltb-false}
use lib.Dec.{eqb, ltb}
use lib.ListN.{length, get_or, set, length-set, replicate, length-replicate, get_or-replicate}
use lib.Seq.{get_or-set_same, get_or-set_other}
use Rattle.basics.specs.Scans.{FirstFrom, Heads}
use Rattle.basics.proofs.Tests.{by_bool, by_eq, same_or, eqb_yes, eqb_no, no_eqb}

-- ── the places from i on, up to j, of n ──
-- P holds at none of them
abbrev pub Passed : (ℕ → Bool) → (i j : ℕ) → Type 0
Passed P i j = (k : ℕ) → k < j → i ≤ k → P k ≡ false

module _ (P : ℕ → Bool) (i j n : ℕ) (h : Passed P i j) where
  pub here : i ≤ j → P j ≡ true → FirstFrom P i n j
  here l e = record { skipped = λ k a b _. h k b a; found = λ _. (l, e) }

  pub nowhere : n ≤ j → FirstFrom P i n n
  nowhere l = record { skipped = λ k a b _. h k (omega arith) a; found = λ s. absurd (omega arith) }

-- a place where the test holds is not above the one found
pub first-before : (P : ℕ → Bool) (n s k : ℕ) → FirstFrom P 0 n s → k < n → P k ≡ true → s ≤ k
first-before P n s k f h e = by_bool (ltb k s)
    (λ t. absurd (false≢true (sym (f.skipped k (omega arith) (ltb-true k s t) h) ∙ e)))
    (ltb-false k s)

-- two scans for the same find the same
pub one_place : (P : ℕ → Bool) (n s t : ℕ) → FirstFrom P 0 n s → FirstFrom P 0 n t → s < n → t < n → s ≡ t
one_place P n s t f g a b = omega (arith, first-before P n s t f b (g.found b).1, first-before P n t s g a (f.found a).1)

-- ── heads of buckets ──
module _ (bucket : ℕ → ℕ) (w n : ℕ) where
  -- none, where x is past the last place
  pub heads-start : (x : ℕ) → n ≤ x → (heads : List ℕ) → heads ≡ replicate w x → Heads bucket w n n heads
  heads-start x l heads e = record {
    room = ap length e ∙ length-replicate {A = ℕ} w x;
    head = λ b h.
        let d : get_or heads b 0 ≡ x = ap (λ t. get_or t b 0) e ∙ get_or-replicate {A = ℕ} w b x 0 h in
        record { skipped = λ k a _ b. absurd (omega arith); found = λ s. absurd (omega arith) };
  }

  -- one place more at the front
  module _ (i b : ℕ) (heads : List ℕ) (low : i < n) (e : b ≡ bucket i) (within : b < w) (h : Heads bucket w n (suc i) heads) where
    head-on : (q : ℕ) → q < w → FirstFrom (λ j. eqb (bucket j) q) i n (get_or (set heads b i) q 0)
    head-on q l = by_eq b q
        (λ z _. subst (λ q. FirstFrom (λ j. eqb (bucket j) q) i n (get_or (set heads b i) q 0)) z
        (rw (get_or-set_same heads b i 0 (omega (arith, h.room)))
        (record { skipped = λ k a s _. absurd (omega arith); found = λ _. (omega arith, eqb_yes (sym e)) })))
        (λ z _.
        let f = h.head q l in
        rw (get_or-set_other heads b q i 0 (λ p. z (sym p)))
        (record {
          skipped = λ k a s t. same_or (λ k. eqb (bucket k) q ≡ false) i k
              (eqb_no {a = bucket i} {b = q} (λ p. z (e ∙ p)))
              (λ m _. f.skipped k (omega (arith, m)) s t);
          found = λ s. (omega (arith, (f.found s).0), (f.found s).1);
        }))

    pub heads-back : Heads bucket w n i (set heads b i)
    heads-back = record { room = length-set heads b i ∙ h.room; head = head-on }

  -- the same in the terms of a loop that counts down
  pub heads-less : (i b : ℕ) (heads : List ℕ) → 0 < i → i ≤ n → b ≡ bucket (i - 1) → b < w → Heads bucket w n i heads →
      Heads bucket w n (i - 1) (set heads b (i - 1))
  heads-less i b heads z l e h s =
      let p : i ≡ suc (i - 1) = omega arith in
      heads-back (i - 1) b heads (omega arith) e h (subst (λ i. Heads bucket w n i heads) p s)

  -- a scan for what is in bucket b alone may begin at its head
  pub first-from-head : (P : ℕ → Bool) (b s : ℕ) (heads : List ℕ) → b < w → ((k : ℕ) → P k ≡ true → bucket k ≡ b) →
      Heads bucket w n 0 heads → FirstFrom P (get_or heads b 0) n s → FirstFrom P 0 n s
  first-from-head P b s heads l only h f = record {
    skipped = λ k _ g t. by_bool (ltb k (get_or heads b 0))
        (λ e. by_bool (P k)
        (λ d. absurd (no_eqb {a = bucket k} {b = b} ((h.head b l).skipped k (omega arith) (ltb-true k _ e) t) (only k d)))
        (λ d. d))
        (λ e. f.skipped k (ltb-false k _ e) g t);
    found = λ g. (omega arith, (f.found g).1);
  }
