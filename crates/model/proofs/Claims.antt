-- Rows 7 and 8 as facts of `of` and `log` lines.
use mathlib.Core.Bool.{true, false, ◌||◌, not}
use mathlib.Core.List.{List, [], ◌∷◌, Memᴰ}
use mathlib.Core.Logic.{◌≢◌, ◌↔◌}
use mathlib.Core.Option.{none}
use mathlib.Core.Path.{◌≡◌, refl, sym, subst, ◌∙◌}
use Prim.Native.Nat.{ℕ, zero, suc, ◌≤◌}
use borrow.Author.Tests.{ltb-false, le-ltb}
use lib.Dec.{eqb, ltb}
use lib.ListN.{length}
use native.Mathlib.Omega.{arith}
use Rattle.basics.specs.Lists.{All}
use Rattle.basics.proofs.Lists.{all_any}
use Rattle.basics.proofs.Tests.{by_bool, by_eq, and-true, no_eqb, eqb_yes, eqb_no, false-or, not-false}
use Rattle.text.specs.declared.report.Entry.{Entry}
use Rattle.text.specs.declared.report.Of.{Of}
use Rattle.model.specs.Claims.{bad7, row7, all_claimed, bad8, row8}
use Rattle.model.specs.Batch.{Batch, named, count_of, claims, claimed}
use Rattle.model.proofs.Scans.{Clean, scan-clean, clean-scan}

-- a line's number is one of its request's operations
pub record Counted (count : ℕ → ℕ) (l : Entry) : Type 0 where
  pub low : 1 ≤ l.num
  pub high : l.num ≤ count l.rid

-- no operation is claimed twice
abbrev pub Unique : List Entry → Type 0
Unique [] = Unit {0}
Unique (l ∷ ls) = (claimed ls l.rid l.num ≡ false) × Unique ls

-- each operation within the count has a line
abbrev pub Full : List Entry → Of → Type 0
Full log x = (k : ℕ) → 1 ≤ k → k ≤ x.count → claimed log x.rid k ≡ true

-- what rows 7 and 8 leave
pub record Reported (b : Batch) : Type 0 where
  pub counted : All (Counted (count_of b.ofs)) b.log
  pub unique : Unique b.log
  pub full : All (Full b.log) b.ofs

-- ── row 7 ──
pub counted-mem : (xs : List Of) (r : ℕ) → 1 ≤ count_of xs r → (x : Of) × Memᴰ x xs × (x.rid ≡ r)
counted-mem [] r h = absurd (omega arith)
counted-mem (x ∷ xs) r h = by_eq x.rid r
    (λ p e. (x, Memᴰ.head refl, p))
    (λ p e. let t = counted-mem xs r (rw e at h) in (t.0, Memᴰ.tail t.1, t.2))

counted-named : (xs : List Of) (r : ℕ) → 1 ≤ count_of xs r → named xs r ≡ true
counted-named [] r h = absurd (omega arith)
counted-named (x ∷ xs) r h = by_bool (eqb x.rid r) (λ e. rw e) (λ e. rw e (counted-named xs r (rw e at h)))

claims-sym : (l m : Entry) → claims m.rid m.num l ≡ claims l.rid l.num m
claims-sym l m = by_eq l.rid m.rid
    (λ p d. by_eq l.num m.num
    (λ q c. rw (d, c, eqb_yes {a = m.rid} {b = l.rid} (sym p), eqb_yes {a = m.num} {b = l.num} (sym q)))
    (λ q c. rw (d, c, eqb_yes {a = m.rid} {b = l.rid} (sym p), eqb_no {a = m.num} {b = l.num} (λ i. q (sym i)))))
    (λ p d. rw (d, eqb_no {a = m.rid} {b = l.rid} (λ i. p (sym i))))

-- a line that claims nothing that the lines above it claim
abbrev Fresh : List Entry → Entry → Type 0
Fresh past l = claimed past l.rid l.num ≡ false

fresh-unique : (l : Entry) (past ls : List Entry) → All (Fresh (l ∷ past)) ls →
    (claimed ls l.rid l.num ≡ false) × All (Fresh past) ls
fresh-unique l past [] h = (refl, tt)
fresh-unique l past (m ∷ ls) h =
    let g = false-or (claims m.rid m.num l) (claimed past m.rid m.num) h.0 in
    let t = fresh-unique l past ls h.1 in
    (rw (sym (claims-sym l m) ∙ g.0) t.0, (g.1, t.1))

unique-fresh : (l : Entry) (past ls : List Entry) → claimed ls l.rid l.num ≡ false → All (Fresh past) ls → All (Fresh (l ∷ past)) ls
unique-fresh l past [] u h = tt
unique-fresh l past (m ∷ ls) u h =
    let g = false-or (claims l.rid l.num m) (claimed ls l.rid l.num) u in
    (rw (claims-sym l m ∙ g.0) h.0, unique-fresh l past ls g.1 h.1)

module _ (ofs : List Of) where
  clean7 : (past ls : List Entry) → Clean (bad7 ofs) past ls → All (Counted (count_of ofs)) ls × Unique ls × All (Fresh past) ls
  clean7 past [] h = (tt, tt, tt)
  clean7 past (l ∷ ls) h =
      let c = claimed past l.rid l.num in
      let above = ltb (count_of ofs l.rid) l.num in
      let f = false-or (not (named ofs l.rid)) (eqb l.num 0 || (above || c)) h.0 in
      let g = false-or (eqb l.num 0) (above || c) f.1 in
      let k = false-or above c g.1 in
      let n : l.num ≢ 0 = no_eqb g.0 in
      let t = clean7 (l ∷ past) ls h.1 in
      let u = fresh-unique l past ls t.2 in
      ((record { low = omega arith; high = ltb-false (count_of ofs l.rid) l.num k.0 }, t.0), (u.0, t.1), (k.1, u.1))

  counted7 : (past ls : List Entry) → All (Counted (count_of ofs)) ls → Unique ls → All (Fresh past) ls → Clean (bad7 ofs) past ls
  counted7 past [] r u f = tt
  counted7 past (l ∷ ls) r u f =
      let n : named ofs l.rid ≡ true = counted-named ofs l.rid (omega (arith, r.0.low, r.0.high)) in
      let z : eqb l.num 0 ≡ false = eqb_no {a = l.num} {b = 0} (λ i. omega (arith, r.0.low)) in
      let c : ltb (count_of ofs l.rid) l.num ≡ false = le-ltb (count_of ofs l.rid) l.num r.0.high in
      (rw (n, z, c, f.0), counted7 (l ∷ past) ls r.1 u.1 (unique-fresh l past ls u.0 f.1))

-- what row 7 leaves by itself
pub row7-lines : (b : Batch) → row7 b ≡ none → All (Counted (count_of b.ofs)) b.log × Unique b.log
row7-lines b e =
    let h = clean7 b.ofs [] b.log (scan-clean (bad7 b.ofs) (suc (length b.ofs)) [] b.log e) in (h.0, h.1)

-- ── row 8 ──
claimed-full : (log : List Entry) (r n : ℕ) → all_claimed log r n ≡ true → (k : ℕ) → 1 ≤ k → k ≤ n → claimed log r k ≡ true
claimed-full log r zero e k a b = absurd (omega arith)
claimed-full log r (suc n) e k a b =
    let g = and-true (claimed log r (suc n)) (all_claimed log r n) e in
    by_eq k (suc n)
    (λ p _. subst (λ k. claimed log r k ≡ true) (sym p) g.0)
    (λ p _. claimed-full log r n g.1 k a (omega arith))

full-claimed : (log : List Entry) (r n : ℕ) → ((k : ℕ) → 1 ≤ k → k ≤ n → claimed log r k ≡ true) → all_claimed log r n ≡ true
full-claimed log r zero h = refl
full-claimed log r (suc n) h = rw (h (suc n) (omega arith) (omega arith)) (full-claimed log r n (λ k a b. h k a (omega arith)))

clean8 : (log : List Entry) (past xs : List Of) → Clean (bad8 log) past xs → All (Full log) xs
clean8 log past [] h = tt
clean8 log past (x ∷ xs) h =
    (claimed-full log x.rid x.count (not-false (all_claimed log x.rid x.count) h.0), clean8 log (x ∷ past) xs h.1)

full8 : (log : List Entry) (past xs : List Of) → All (Full log) xs → Clean (bad8 log) past xs
full8 log past [] h = tt
full8 log past (x ∷ xs) h = (rw (full-claimed log x.rid x.count h.0), full8 log (x ∷ past) xs h.1)

pub rows-reported : (b : Batch) → ((row7 b ≡ none) × (row8 b ≡ none)) ↔ Reported b
rows-reported b = (
  λ e.
      let h = row7-lines b e.0 in
      record { counted = h.0; unique = h.1; full = clean8 b.log [] b.ofs (scan-clean (bad8 b.log) 1 [] b.ofs e.1) },
  λ h. (
    clean-scan (bad7 b.ofs) (suc (length b.ofs)) [] b.log
        (counted7 b.ofs [] b.log h.counted h.unique (all_any (Fresh []) (λ l. refl) b.log)),
    clean-scan (bad8 b.log) 1 [] b.ofs (full8 b.log [] b.ofs h.full),
  ),
)
