-- What the merge takes next is the first item, in the order of the list, that waits for none that is left; by that rule there is one order.
use mathlib.Core.Path.{◌≡◌, refl, sym, ap, ap₂, subst, ◌∙◌}
use mathlib.Core.Logic.{⊎_elim, ◌↔◌}
use mathlib.Core.Bool.{false, ◌&&◌, not}
use mathlib.Core.List.{
  List,
  [],
  ◌∷◌,
  ◌++◌,
  Memᴰ,
  append_assoc,
}
use Prim.Native.Nat.{ℕ, zero, suc}
use native.Mathlib.Omega.{arith}
use lib.Dec.{eqb}
use lib.ListN.{length}
use Rattle.basics.specs.Lists.{All, Neighbours}
use Rattle.basics.specs.Chain.{Chain, one, more}
use Rattle.basics.proofs.Lists.{all-mem, all-imp, later-mem, neighbours-later}
use Rattle.basics.proofs.Tests.{by_bool, by_eq, eqb_yes, clash}
use Rattle.ordering.specs.Order.{on_lane}
use Rattle.ordering.specs.Merge.{among, Pick, stuck, took, keep, pick, merge, merge_all}
use Rattle.ordering.specs.Before.{ComesBefore, events, logged, next}
use Rattle.ordering.specs.Whole.{Whole}
use Rattle.ordering.specs.FirstFree.{Waits, FirstFree, Takes, Greedy}
use Rattle.ordering.proofs.Lanes.{on-head, on-append, on-mem, mem-on}
use Rattle.ordering.proofs.Numbers.{reached, reached-snoc, numbered-snoc}
use Rattle.ordering.proofs.Orders.{picked, Merged}
use Rattle.ordering.proofs.Cycles.{not-below, taken-before, waits-for, target}

-- ── the rule makes one order ──
module _ {A : Type 0} (R : A → A → Type 0) where
  same-split : (left : List A) (x y : A) (p q r s : List A) → (Waits R left x → ⊥) → (Waits R left y → ⊥) →
      All (Waits R left) p → All (Waits R left) r → p ++ x ∷ q ≡ r ++ y ∷ s → (x ≡ y) × (p ++ q ≡ r ++ s)
  same-split left x y [] q [] s f g a b e = (cc, cc)
  same-split left x y [] q (z ∷ r) s f g a b e = let i : x ≡ z = cc in absurd (f (subst (Waits R left) (sym i) b.0))
  same-split left x y (z ∷ p) q [] s f g a b e = let i : z ≡ y = cc in absurd (g (subst (Waits R left) i a.0))
  same-split left x y (z ∷ p) q (w ∷ r) s f g a b e =
      let i : z ≡ w = cc in
      let d : p ++ x ∷ q ≡ r ++ y ∷ s = cc in
      let h = same-split left x y p q r s f g a.1 b.1 d in (h.0, ap₂ (λ z t. z ∷ t) i h.1)

  one-first : (left : List A) (x y : A) (u v : List A) → FirstFree R left x u → FirstFree R left y v → (x ≡ y) × (u ≡ v)
  one-first left x y u v f g =
      let h = same-split left x y f.front f.back g.front g.back f.free g.free f.waits g.waits
      (sym f.split ∙ g.split) in
      (h.0, f.without ∙ h.1 ∙ sym g.without)

  none_first : (left : List A) (x : A) (u : List A) → left ≡ [] → FirstFree R left x u → ⊥
  none_first left x u e f = at f.front (sym e ∙ f.split)
    where
      at : (p : List A) → [] ≡ p ++ x ∷ f.back → ⊥
      at [] d = clash (cc)
      at (z ∷ p) d = clash (cc)

  pub one-order : (xs ys left : List A) → Greedy R left xs → Greedy R left ys → xs ≡ ys
  one-order [] [] left p q = refl
  one-order [] (y ∷ ys) left p q = absurd (none_first left y q.0 p q.1)
  one-order (x ∷ xs) [] left p q = absurd (none_first left x p.0 q p.1)
  one-order (x ∷ xs) (y ∷ ys) left p q =
      let h = one-first left x y p.0 q.0 p.1 q.1 in
      ap₂ (λ z t. z ∷ t) h.0 (one-order xs ys p.0 p.2 (subst (λ l. Greedy R l ys) (sym h.1) q.2))

-- ── relations by which the same items wait make the same order ──
module _ {A : Type 0} (R S : A → A → Type 0) where
  first_by : (left : List A) (x : A) (others : List A) → ((z : A) → Waits R left z → Waits S left z) → (Waits S left x → ⊥) →
      FirstFree R left x others → FirstFree S left x others
  first_by left x others f g h = record {
    front = h.front;
    back = h.back;
    split = h.split;
    without = h.without;
    free = g;
    waits = all-imp (Waits R left) (Waits S left) f h.front h.waits;
  }

  pub takes_same : ((y x : A) → R y x → S y x) → ((y x : A) → S y x → R y x) → (xs left rest : List A) → Takes R left xs rest →
      Takes S left xs rest
  takes_same f g [] left rest p = p
  takes_same f g (x ∷ xs) left rest p = (
    p.0,
    first_by left x p.0 (λ z w. (w.0, w.1, f w.0 z w.2)) (λ w. p.1.free (w.0, w.1, g w.0 x w.2)) p.1,
    takes_same f g xs p.0 rest p.2,
  )

module _ {A : Type 0} (lane rid num : A → ℕ) where
  -- ── what `pick` passes over ──
  record Passed (stage : ℕ → ℕ) (seen : List ℕ) (rest : List A) (x : A) (others : List A) : Type 0 where
    pub front : List A
    pub back : List A
    pub split : rest ≡ front ++ x ∷ back
    pub without : others ≡ front ++ back
    pub passed : (z : A) (q : List A) → among (lane z) seen ≡ false → on_lane lane (lane z) front ≡ z ∷ q → num z ≡ stage (rid z) → ⊥

  passes : (stage : ℕ → ℕ) (seen : List ℕ) (rest : List A) (x : A) (others : List A) →
      pick lane rid num stage seen rest ≡ took x others → Passed stage seen rest x others
  passes stage seen [] x others e = clash (cc)
  passes stage seen (y ∷ ys) x others e = by_bool (not (among (lane y) seen) && eqb (num y) (stage (rid y)))
      (λ t.
      let e' : took y ys ≡ took x others = rw t at e in
      let i : y ≡ x = cc in
      let j : ys ≡ others = cc in
      record { front = []; back = ys; split = ap (λ z. z ∷ ys) i; without = sym j; passed = λ z q _ o _. clash (cc) })
      (λ t. go t (pick lane rid num stage (lane y ∷ seen) ys) (passes stage (lane y ∷ seen) ys) (rw t at e))
    where
      go : (not (among (lane y) seen) && eqb (num y) (stage (rid y))) ≡ false → (o : Pick A) →
          ((z : A) (zs : List A) → o ≡ took z zs → Passed stage (lane y ∷ seen) ys z zs) → keep y o ≡ took x others →
          Passed stage seen (y ∷ ys) x others
      go t stuck d k = clash (cc)
      go t (took z zs) d k =
          let i : z ≡ x = cc in
          let j : y ∷ zs ≡ others = cc in
          let h = d x zs (ap (λ z. took z zs) i) in
          record {
            front = y ∷ h.front;
            back = h.back;
            split = ap (λ t. y ∷ t) h.split;
            without = sym j ∙ ap (λ t. y ∷ t) h.without;
            passed = λ u q a o n. by_eq (lane y) (lane u)
                (λ p c. let o' = rw c at o in let v : y ≡ u = cc in let t' = rw (v, eqb_yes n, a) at t in clash (cc))
                (λ p c. h.passed u q (rw c a) (rw c at o) n);
          }

  -- an item of the front that is first of its lane in the whole is first of its lane in the front
  first-front : (rest front back : List A) (z : A) (q : List A) → rest ≡ front ++ back → Memᴰ z front →
      on_lane lane (lane z) rest ≡ z ∷ q → (s : List A) × (on_lane lane (lane z) front ≡ z ∷ s)
  first-front rest front back z q i m o = at (on_lane lane (lane z) front) refl
    where
      e : on_lane lane (lane z) front ++ on_lane lane (lane z) back ≡ z ∷ q
      e = sym (on-append lane (lane z) front back) ∙ ap (on_lane lane (lane z)) (sym i) ∙ o

      at : (f : List A) → on_lane lane (lane z) front ≡ f → (s : List A) × (on_lane lane (lane z) front ≡ z ∷ s)
      at [] d = absurd (mathlib.Core.List.Memᴰ.not-nil (subst (Memᴰ z) d (mem-on lane front z m)))
      at (u ∷ us) d =
          let e' : u ∷ (us ++ on_lane lane (lane z) back) ≡ z ∷ q = ap (λ f. f ++ on_lane lane (lane z) back) (sym d) ∙ e in
          let i : u ≡ z = cc in (us, d ∙ ap (λ t. t ∷ us) i)

  module _ (all : List A) (whole : Whole lane rid num all) where
    abbrev R : A → A → Type 0
    R = ComesBefore lane rid num all

    module _ (out left : List A) (h : Merged lane rid num (λ r. 0) all out left) where
      abbrev stage : ℕ → ℕ
      stage = reached rid (λ r. 0) out

      -- nothing that comes before an item that could be taken is left
      free-lane : (x : A) (q : List A) → on_lane lane (lane x) left ≡ x ∷ q → (y : A) → Memᴰ y left →
          (l : ℕ) → Neighbours (on_lane lane l all) y x → ⊥
      free-lane x q o y m l b =
          let k = neighbours-later (on_lane lane l all) y x b in
          let i : lane x ≡ l = (on-mem lane l all x (later-mem (on_lane lane l all) y x k)).1 in
          taken-before lane rid num all whole out left h l y x q (subst (λ l. on_lane lane l left ≡ x ∷ q) i o) k m

      free : (x : A) (q : List A) → num x ≡ stage (rid x) → on_lane lane (lane x) left ≡ x ∷ q → (y : A) → Memᴰ y left → R y x → ⊥
      free x q n o y m (events b) = free-lane x q o y m 0 b
      free x q n o y m (logged p b) = free-lane x q o y m (suc p) b
      free x q n o y m (next my mx f _) = omega (arith, not-below lane rid num all whole out left h y m, n, f.1, ap stage f.0)

      pub pick_first : (x : A) (others : List A) → pick lane rid num (reached rid (λ r. 0) out) [] left ≡ took x others →
          FirstFree (ComesBefore lane rid num all) left x others
      pick_first x others e =
          let d = passes stage [] left x others e in
          let k = picked lane rid num stage [] left x others e in
          record {
            front = d.front;
            back = d.back;
            split = d.split;
            without = d.without;
            free = λ w.
                free x (on_lane lane (lane x) others) k.next (sym (k.lanes (lane x)) ∙ on-head lane x others) w.0 w.1 w.2;
            waits = all-mem (Waits R left) d.front (λ z m.
                let l : Memᴰ z left = subst (Memᴰ z) (sym d.split) (mathlib.Core.List.Memᴰ.append_left (x ∷ d.back) m) in
                waits-for lane rid num all whole out left h z l (λ q o n.
                let f = first-front left d.front (x ∷ d.back) z q d.split m o in d.passed z f.0 refl f.1 n));
          }

      merged-snoc : (x : A) (others : List A) → pick lane rid num stage [] left ≡ took x others →
          Merged lane rid num (λ r. 0) all (out ++ (x ∷ [])) others
      merged-snoc x others e =
          let k = picked lane rid num stage [] left x others e in
          record {
            lanes = λ l. ap (λ t. t ++ on_lane lane l others) (on-append lane l out (x ∷ []))
                ∙ append_assoc (on_lane lane l out) (on_lane lane l (x ∷ [])) (on_lane lane l others)
                ∙ ap (λ t. on_lane lane l out ++ t) (sym (on-append lane l (x ∷ []) others) ∙ k.lanes l) ∙ h.lanes l;
            numbered = numbered-snoc rid num out x (λ r. 0) h.numbered k.next;
          }

    abbrev From : ℕ → List A → List A → List A × List A
    From n out left = merge lane rid num n (reached rid (λ r. 0) out) left

    merge-takes : (n : ℕ) (out left : List A) → Merged lane rid num (λ r. 0) all out left →
        Takes R left (From n out left).0 (From n out left).1
    merge-takes zero out left h = refl
    merge-takes (suc n) out left h = at (pick lane rid num (reached rid (λ r. 0) out) [] left) refl (merge-takes n)
      where
        at : (o : Pick A) → pick lane rid num (reached rid (λ r. 0) out) [] left ≡ o →
            ((out left : List A) → Merged lane rid num (λ r. 0) all out left → Takes R left (From n out left).0 (From n out left).1) →
            Takes R left (From (suc n) out left).0 (From (suc n) out left).1
        at stuck d ih = rw (d, merge) refl
        at (took x others) d ih =
            let p = ih (out ++ (x ∷ [])) others (merged-snoc out left h x others d) in
            rw (d, merge) (
              others,
              pick_first out left h x others d,
              subst (λ s. Takes R others (merge lane rid num n s others).0 (merge lane rid num n s others).1)
                  (reached-snoc rid out x (λ r. 0)) p,
            )

    -- ── the same by chains: what follows an item that is left is left ──
    abbrev Closed : List A → Type 0
    Closed left = (y x : A) → R y x → Memᴰ y left → Memᴰ x left

    back_in : (p q : List A) (x z : A) → Memᴰ z (p ++ q) → Memᴰ z (p ++ x ∷ q)
    back_in p q x z m = ⊎_elim
        (λ k. mathlib.Core.List.Memᴰ.append_left (x ∷ q) k)
        (λ k. mathlib.Core.List.Memᴰ.append_right p (mathlib.Core.List.Memᴰ.tail k))
        (mathlib.Core.List.Memᴰ.append_cases p m)

    out_of : (p q : List A) (x z : A) → Memᴰ z (p ++ x ∷ q) → (z ≡ x → ⊥) → Memᴰ z (p ++ q)
    out_of p q x z m n = ⊎_elim
        (λ k. mathlib.Core.List.Memᴰ.append_left q k)
        (λ k. ⊎_elim (λ e. absurd (n e)) (λ j. mathlib.Core.List.Memᴰ.append_right p j) (mathlib.Core.List.Memᴰ.cases_cons k))
        (mathlib.Core.List.Memᴰ.append_cases p m)

    closed-next : (left : List A) (x : A) (others : List A) → Closed left → FirstFree R left x others → Closed others
    closed-next left x others c f y z b m =
        let m' : Memᴰ y left =
        subst (Memᴰ y) (sym f.split) (back_in f.front f.back x y (subst (Memᴰ y) f.without m)) in
        subst (Memᴰ z) (sym f.without) (out_of f.front f.back x z (subst (Memᴰ z) f.split (c y z b m'))
        (λ e. f.free (y, m', subst (R y) e b)))

    chain-in : (left : List A) → Closed left → {y x : A} → Chain R y x → Memᴰ y left → Memᴰ x left
    chain-in left c (one {y = y} {x = x} b) m = c y x b m
    chain-in left c (more {y = y} {x = x} d b) m = c y x b (chain-in left c d m)

    chain-free : (left : List A) → Closed left → (x : A) → (Waits R left x → ⊥) → {y : A} → Chain R y x → Memᴰ y left → ⊥
    chain-free left c x f (one {y = y} b) m = f (y, m, b)
    chain-free left c x f (more {y = y} d b) m = f (y, chain-in left c d m, b)

    takes-chain : (xs left rest : List A) → Closed left → Takes R left xs rest → Takes (Chain R) left xs rest
    takes-chain [] left rest c p = p
    takes-chain (x ∷ xs) left rest c p = (
      p.0,
      first_by R (Chain R) left x p.0 (λ z w. (w.0, w.1, one w.2)) (λ w. chain-free left c x p.1.free w.2 w.1) p.1,
      takes-chain xs p.0 rest (closed-next left x p.0 c p.1) p.2,
    )

    -- ── each item that the merge takes is the first free one, and the order so made is the only one ──
    pub merge-first-free : Takes (Chain (ComesBefore lane rid num all)) all
        (merge_all lane rid num all).0 (merge_all lane rid num all).1
    merge-first-free =
        let m = merge_all lane rid num all in
        takes-chain m.0 all m.1 (λ y x b m. target lane rid num all b)
        (merge-takes (length all) [] all (record { lanes = λ l. refl; numbered = tt }))

    pub only-order : (merge_all lane rid num all).1 ≡ [] → (order : List A) →
        Greedy (Chain (ComesBefore lane rid num all)) all order ↔ (order ≡ (merge_all lane rid num all).0)
    only-order e order =
        let m = merge_all lane rid num all in
        let p : Greedy (Chain R) all m.0 = subst (Takes (Chain R) all m.0) e merge-first-free in
        (λ q. one-order (Chain R) order m.0 all q p, λ i. subst (Greedy (Chain R) all) (sym i) p)
