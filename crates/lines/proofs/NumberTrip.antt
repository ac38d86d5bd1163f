-- A number that was written reads back; a number that was read has 64 bits.
use Rattle.std.proofs.Common.{◌≡◌, ℕ, zero, suc, ◌+◌, ◌-◌, ◌*◌, ◌/◌, ◌%◌, ◌^◌, ◌<◌, ◌≤◌, Bool, true, false, ◌&&◌, eqb, ltb, leb, List, [], ◌∷◌, ◌++◌, length, get_or, sym, refl, ◌∙◌, arith, length-append, ltb-false, ltb-true, Option, Some, None}
use lib.ListN.{get_or-append}
use Rattle.lines.specs.Number.{push_of, digits_of, number_of}
use Rattle.lines.specs.Decimal.{decimal}
use Rattle.lines.proofs.Numerals.{push-value, digits_more, number-zero, number_digits}
use Rattle.lines.proofs.Decimals.{decimal-small, decimal-big}

-- the digits of v: there are some, they give v again, and the first is 0 in 0 alone
record Reads (v : ℕ) (s : List ℕ) : Type 0 where
  some : 0 < length s
  value : digits_of 0 s ≡ Some v
  first : get_or s 0 0 ≡ 48 → v < 1

reads-small : (v : ℕ) → v < 10 → Reads v ((48 + v) ∷ [])
unfolding digits_of
reads-small v h =
    record {
      some = omega arith;
      value = rw (← push-value 0 (48 + v) v (omega arith) (omega arith) v (omega arith) (omega arith), digits_of) refl;
      first = λ e. omega arith;
    }

reads-big : (v : ℕ) (s : List ℕ) → 10 ≤ v → v < 2 ^ 64 → Reads (v / 10) s → Reads v (s ++ (48 + v % 10) ∷ [])
reads-big v s h g r =
    record {
      some = simp length-append (omega arith);
      value =
          digits_more 0 s (v / 10) (48 + v % 10) r.value
          ∙ sym (push-value (v / 10) (48 + v % 10) (v % 10) (omega arith) (omega arith) v (omega arith) g);
      first = λ e. omega (arith, r.first (sym (get_or-append s _ 0 0 r.some) ∙ e));
    }

reads : (k v : ℕ) → v ≤ k → v < 2 ^ 64 → Reads v (decimal v)
reads zero v h g = rw (decimal-small v (omega arith)) (reads-small v (omega arith))
reads (suc k) v h g = go (ltb v 10) refl (reads k (v / 10))
  where
    go : (b : Bool) → ltb v 10 ≡ b → (v / 10 ≤ k → v / 10 < 2 ^ 64 → Reads (v / 10) (decimal (v / 10))) →
        Reads v (decimal v)
    go true e ih = let l = ltb-true v 10 e in rw (decimal-small v l) (reads-small v l)
    go false e ih = let l = ltb-false v 10 e in rw (decimal-big v l) (reads-big v _ l g (ih (omega arith) (omega arith)))

-- what is written is read
pub number-back : (v : ℕ) → v < 2 ^ 64 → number_of (decimal v) ≡ Some v
number-back v g = go (ltb v 1) refl
  where
    r : Reads v (decimal v)
    r = reads v v (omega arith) g

    go : (b : Bool) → ltb v 1 ≡ b → number_of (decimal v) ≡ Some v
    go true e =
        let z : v ≡ 0 = omega (arith, ltb-true v 1 e) in
        rw z (rw (decimal-small 0 (omega arith)) (sym (number-zero (48 ∷ []) refl (omega arith))))
    go false e =
        sym (number_digits (decimal v) r.some (λ h. omega (arith, r.first h, ltb-false v 1 e))) ∙ r.value

push-fits : (v b w : ℕ) → push_of v b ≡ Some w → w < 2 ^ 64
unfolding push_of
push-fits v b w e = go (leb 48 b && leb b 57) (ltb (v * 10 + (b - 48)) (2 ^ 64)) refl e
  where
    go : (x y : Bool) → ltb (v * 10 + (b - 48)) (2 ^ 64) ≡ y →
        elim (x && y) [ true ↦ Some (v * 10 + (b - 48)) | false ↦ None ] ≡ Some w → w < 2 ^ 64
    go true true p k = let h : v * 10 + (b - 48) ≡ w = cc in omega (arith, h, ltb-true (v * 10 + (b - 48)) (2 ^ 64) p)
    go true false p k = cc
    go false y p k = cc

digits-fit : (s : List ℕ) (v w : ℕ) → v < 2 ^ 64 → digits_of v s ≡ Some w → w < 2 ^ 64
unfolding digits_of
digits-fit [] v w h e = let k : v ≡ w = cc in omega arith
digits-fit (b ∷ s) v w h e = go (push_of v b) refl e (λ y. digits-fit s y w)
  where
    go : (p : Option ℕ) → push_of v b ≡ p → elim p [ Some y ↦ digits_of y s | None ↦ None ] ≡ Some w →
        ((y : ℕ) → y < 2 ^ 64 → digits_of y s ≡ Some w → w < 2 ^ 64) → w < 2 ^ 64
    go (Some y) q k ih = ih y (push-fits v b y q) k
    go None q k ih = cc

pub number_fits : (s : List ℕ) (v : ℕ) → number_of s ≡ Some v → v < 2 ^ 64
unfolding number_of
number_fits [] v e = cc
number_fits (b ∷ s) v e = go (eqb b 48) (eqb (length s) 0) e
  where
    go : (x y : Bool) →
        elim x [ true ↦ elim y [ true ↦ Some 0 | false ↦ None ] | false ↦ digits_of 0 (b ∷ s) ] ≡ Some v → v < 2 ^ 64
    go true true k = let h : 0 ≡ v = cc in omega arith
    go true false k = cc
    go false y k = digits-fit (b ∷ s) 0 v (omega arith) k
