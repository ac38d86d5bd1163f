-- What the merge does: one that leaves nothing is an order; an order of the items keeps it from stopping.
use mathlib.Core.Path.{◌≡◌, refl, sym, ap, subst₂, ◌∙◌}
use mathlib.Core.Logic.{◌≢◌, ◌⊎◌, inl, inr}
use mathlib.Core.Bool.{true, false, ◌&&◌, not}
use mathlib.Core.List.{List, [], ◌∷◌, ◌++◌, append-nil}
use Prim.Native.Nat.{ℕ, zero, suc, ◌≤◌}
use lib.Dec.{eqb}
use lib.ListN.{length}
use native.Mathlib.Omega.{arith}
use Rattle.basics.proofs.Tests.{by_bool, by_eq, eqb_yes, eqb_no, yes_eqb, clash, not-true, and-true}
use Rattle.ordering.specs.Order.{on_lane, Numbered, IsOrder}
use Rattle.ordering.specs.Merge.{among, bump, Pick, stuck, took, keep, pick, merge}
use Rattle.ordering.proofs.Lanes.{on-head, no-lanes, cancel, moved}
use Rattle.ordering.proofs.Numbers.{bump-le, bump-same, bump-other, bump-swap, reached}

among-cons : (n m : ℕ) (ms : List ℕ) → among n (m ∷ ms) ≡ false → (m ≢ n) × (among n ms ≡ false)
among-cons n m ms e = by_eq m n (λ p d. clash (cc)) (λ p d. (p, rw d at e))

module _ {A : Type 0} (lane rid num : A → ℕ) where
  abbrev picks : (ℕ → ℕ) → List ℕ → List A → Pick A
  picks = pick lane rid num

  abbrev merges : ℕ → (ℕ → ℕ) → List A → List A × List A
  merges = merge lane rid num

  -- ── the two cases of a step ──
  pub merge-stuck : (m : ℕ) (stage : ℕ → ℕ) (rest : List A) → pick lane rid num stage [] rest ≡ stuck →
      merge lane rid num m stage rest ≡ ([], rest)
  merge-stuck zero stage rest e = refl
  merge-stuck (suc m) stage rest e = rw (e, merge)

  pub merge-took : (m : ℕ) (stage : ℕ → ℕ) (rest : List A) (x : A) (zs : List A) → pick lane rid num stage [] rest ≡ took x zs →
      merge lane rid num (suc m) stage rest
      ≡ (x ∷ (merge lane rid num m (bump stage (rid x)) zs).0, (merge lane rid num m (bump stage (rid x)) zs).1)
  merge-took m stage rest x zs e = rw (e, merge)

  -- ── the item that `pick` takes ──
  pub record Picked (stage : ℕ → ℕ) (seen : List ℕ) (rest : List A) (x : A) (rest' : List A) : Type 0 where
    pub fresh : among (lane x) seen ≡ false
    pub next : num x ≡ stage (rid x)
    pub lanes : (l : ℕ) → on_lane lane l (x ∷ rest') ≡ on_lane lane l rest
    pub shorter : suc (length rest') ≡ length rest

  passed : (stage : ℕ → ℕ) (seen : List ℕ) (y : A) (ys : List A) (x : A) (ys' : List A) → Picked stage (lane y ∷ seen) ys x ys' →
      Picked stage seen (y ∷ ys) x (y ∷ ys')
  passed stage seen y ys x ys' h =
      let a = among-cons (lane x) (lane y) seen h.fresh in
      record {
        fresh = a.1;
        next = h.next;
        shorter = omega (arith, h.shorter);
        lanes = λ l. by_eq (lane y) l
            (λ p e.
            let d : eqb (lane x) l ≡ false = eqb_no {a = lane x} {b = l} (λ q. a.0 (omega arith)) in
            rw (e, d) (ap (λ t. y ∷ t) (rw d at (h.lanes l))))
            (λ n e. rw e (h.lanes l));
      }

  pub picked : (stage : ℕ → ℕ) (seen : List ℕ) (rest : List A) (x : A) (rest' : List A) →
      pick lane rid num stage seen rest ≡ took x rest' → Picked stage seen rest x rest'
  picked stage seen [] x rest' e = clash (cc)
  picked stage seen (y ∷ ys) x rest' e = by_bool (not (among (lane y) seen) && eqb (num y) (stage (rid y)))
      (λ t.
      let e' : took y ys ≡ took x rest' = rw t at e in
      let b = and-true (not (among (lane y) seen)) (eqb (num y) (stage (rid y))) t in
      let p : y ≡ x = cc in
      let q : ys ≡ rest' = cc in
      subst₂ (Picked stage seen (y ∷ ys)) p q
      (record { fresh = not-true b.0; next = yes_eqb b.1; lanes = λ l. refl; shorter = refl }))
      (λ f. go (picks stage (lane y ∷ seen) ys) (picked stage (lane y ∷ seen) ys) (rw f at e))
    where
      go : (o : Pick A) → ((z : A) (zs : List A) → o ≡ took z zs → Picked stage (lane y ∷ seen) ys z zs) → keep y o ≡ took x rest' →
          Picked stage seen (y ∷ ys) x rest'
      go stuck d k = clash (cc)
      go (took z zs) d k =
          let a : z ≡ x = cc in
          let b : y ∷ zs ≡ rest' = cc in
          subst₂ (Picked stage seen (y ∷ ys)) a b (passed stage seen y ys z zs (d z zs refl))

  -- an item that is next in its request and first of its lane keeps `pick` from being stuck
  pub not_stuck : (stage : ℕ → ℕ) (seen : List ℕ) (rest : List A) (x : A) (xs : List A) → among (lane x) seen ≡ false →
      on_lane lane (lane x) rest ≡ x ∷ xs → num x ≡ stage (rid x) → pick lane rid num stage seen rest ≡ stuck → ⊥
  not_stuck stage seen [] x xs f e q k = clash (cc)
  not_stuck stage seen (y ∷ ys) x xs f e q k = by_eq (lane y) (lane x)
      (λ p d.
      let g : y ≡ x = (let e' = rw d at e in cc) in
      let t : eqb (num y) (stage (rid y)) ≡ true = rw g (eqb_yes q) in
      let u : among (lane y) seen ≡ false = rw g f in
      let k' = rw (t, u) at k in clash (cc))
      (λ p d. by_bool (not (among (lane y) seen) && eqb (num y) (stage (rid y)))
      (λ t. let k' = rw t at k in clash (cc))
      (λ t. not_stuck stage (lane y ∷ seen) ys x xs (rw d f) (rw d at e) q (unkept (picks stage (lane y ∷ seen) ys) (rw t at k))))
    where
      unkept : (o : Pick A) → keep y o ≡ stuck → o ≡ stuck
      unkept stuck k = refl
      unkept (took z zs) k = clash (cc)

  -- ── a merge that leaves nothing is an order ──
  -- what is taken and what is left, behind any number of steps
  pub record Merged (stage : ℕ → ℕ) (rest out left : List A) : Type 0 where
    pub lanes : (l : ℕ) → on_lane lane l out ++ on_lane lane l left ≡ on_lane lane l rest
    pub numbered : Numbered rid num stage out

  pub merged : (n : ℕ) (stage : ℕ → ℕ) (rest : List A) →
      Merged stage rest (merge lane rid num n stage rest).0 (merge lane rid num n stage rest).1
  merged zero stage rest = record { lanes = λ l. refl; numbered = tt }
  merged (suc n) stage rest = go (picks stage [] rest) refl (λ x xs. merged n (bump stage (rid x)) xs)
    where
      go : (o : Pick A) → picks stage [] rest ≡ o →
          ((x : A) (xs : List A) →
          let m = merges n (bump stage (rid x)) xs in Merged (bump stage (rid x)) xs m.0 m.1) →
          Merged stage rest (merges (suc n) stage rest).0 (merges (suc n) stage rest).1
      go stuck e ih = rw (e, merge) (record { lanes = λ l. refl; numbered = tt })
      go (took x xs) e ih =
          let h = picked stage [] rest x xs e in
          rw (e, merge) (record {
            lanes = λ l. by_eq (lane x) l
                (λ p d. rw d (ap (λ t. x ∷ t) ((ih x xs).lanes l) ∙ (rw d at (h.lanes l))))
                (λ p d. rw d ((ih x xs).lanes l ∙ (rw d at (h.lanes l))));
            numbered = (h.next, (ih x xs).numbered);
          })

  pub merge-order : (n : ℕ) (stage : ℕ → ℕ) (rest : List A) → (merge lane rid num n stage rest).1 ≡ [] →
      IsOrder lane rid num stage rest (merge lane rid num n stage rest).0
  merge-order n stage rest e =
      let h = merged n stage rest in
      record { lanes = λ l. sym (append-nil _) ∙ (rw e at (h.lanes l)); numbered = h.numbered }

  -- ── an order of the items keeps the merge from stopping ──
  pub later : (l : ℕ) (s : ℕ → ℕ) (ys : List A) (x : A) (xs : List A) → Numbered rid num s ys → on_lane lane l ys ≡ x ∷ xs →
      s (rid x) ≤ num x
  later l s [] x xs h e = clash (cc)
  later l s (y ∷ ys) x xs h e = by_eq (lane y) l
      (λ p d. let e' = rw d at e in let q : y ≡ x = cc in rw (← q) (omega (arith, h.0)))
      (λ p d. let i = later l (bump s (rid y)) ys x xs h.1 (rw d at e) in omega (arith, i, bump-le s (rid y) (rid x)))

  -- the order without its item x, which could have been the first
  record Removed (stage : ℕ → ℕ) (order : List A) (x : A) : Type 0 where
    pub others : List A
    pub lanes : (l : ℕ) → on_lane lane l (x ∷ others) ≡ on_lane lane l order
    pub numbered : Numbered rid num (bump stage (rid x)) others

  remove : (stage : ℕ → ℕ) (order : List A) (x : A) (xs : List A) → Numbered rid num stage order →
      on_lane lane (lane x) order ≡ x ∷ xs → num x ≡ stage (rid x) → Removed stage order x
  remove stage [] x xs h e q = clash (cc)
  remove stage (y ∷ ys) x xs h e q = by_eq (lane y) (lane x)
      (λ p d.
      let e' = rw d at e in
      let i : y ≡ x = cc in
      rw (← i) (record { others = ys; lanes = λ l. refl; numbered = h.1 }))
      (λ p d. by_eq (rid y) (rid x)
      (λ i _. absurd (omega
      (arith, later (lane x) (bump stage (rid y)) ys x xs h.1 (rw d at e), bump-same stage (rid y) (rid x) i)))
      (λ n _.
      let r = remove (bump stage (rid y)) ys x xs h.1 (rw d at e) (q ∙ sym (bump-other stage (rid y) (rid x) n)) in
      let n' : rid x ≢ rid y = λ i. n (sym i) in
      record {
        others = y ∷ r.others;
        lanes = λ l. moved lane x y r.others ys p l (r.lanes l);
        numbered = (h.0 ∙ sym (bump-other stage (rid x) (rid y) n'), rw (bump-swap stage (rid x) (rid y) n') r.numbered);
      }))

  pub order-merge : (n : ℕ) (stage : ℕ → ℕ) (rest order : List A) → length rest ≤ n → IsOrder lane rid num stage rest order →
      (merge lane rid num n stage rest).1 ≡ []
  order-merge zero stage [] order b h = refl
  order-merge zero stage (x ∷ xs) order b h = absurd (omega arith)
  order-merge (suc n) stage rest [] b h = rw (no-lanes lane rest (λ l. sym (h.lanes l))) refl
  order-merge (suc n) stage rest (x ∷ xs) b h = go (picks stage [] rest) refl (order-merge n)
    where
      go : (o : Pick A) → picks stage [] rest ≡ o →
          ((s : ℕ → ℕ) (r o : List A) → length r ≤ n → IsOrder lane rid num s r o → (merges n s r).1 ≡ []) →
          (merges (suc n) stage rest).1 ≡ []
      go stuck e ih = absurd
          (not_stuck stage [] rest x (on_lane lane (lane x) xs) refl (sym (h.lanes (lane x)) ∙ on-head lane x xs) h.numbered.0 e)
      go (took y ys) e ih =
          let p = picked stage [] rest y ys e in
          let r = remove stage (x ∷ xs) y (on_lane lane (lane y) ys) h.numbered
          (h.lanes (lane y) ∙ sym (p.lanes (lane y)) ∙ on-head lane y ys) p.next in
          rw (e, merge) (ih (bump stage (rid y)) ys r.others (omega (arith, p.shorter)) (record {
            lanes = λ l. cancel lane l y r.others ys (r.lanes l ∙ h.lanes l ∙ sym (p.lanes l));
            numbered = r.numbered;
          }))

  -- ── where the merge stops it is stuck ──
  abbrev Halted : (ℕ → ℕ) → List A × List A → Type 0
  Halted stage m = (m.1 ≡ []) ⊎ (picks (reached rid stage m.0) [] m.1 ≡ stuck)

  pub halted : (n : ℕ) (stage : ℕ → ℕ) (rest : List A) → length rest ≤ n → Halted stage (merge lane rid num n stage rest)
  halted zero stage [] b = inl refl
  halted zero stage (x ∷ xs) b = absurd (omega arith)
  halted (suc n) stage rest b = at (picks stage [] rest) refl (halted n)
    where
      at : (o : Pick A) → picks stage [] rest ≡ o → ((s : ℕ → ℕ) (r : List A) → length r ≤ n → Halted s (merges n s r)) →
          Halted stage (merges (suc n) stage rest)
      at stuck e ih = rw (e, merge) (inr e)
      at (took x xs) e ih = rw (e, merge) (ih (bump stage (rid x)) xs (omega (arith, (picked stage [] rest x xs e).shorter)))
