-- The merge leaves something over exactly when a chain of "comes before" returns to its start.
use mathlib.Core.Path.{◌≡◌, refl, sym, ap, subst, ◌∙◌}
use mathlib.Core.Logic.{◌≢◌, ◌⊎◌, inl, inr, ⊎_elim, ◌↔◌}
use mathlib.Core.List.Memᴰ
use mathlib.Core.List.{
  List,
  [],
  ◌∷◌,
  ◌++◌,
  Memᴰ,
  append-nil,
  append_assoc,
}
use Prim.Native.Nat.{ℕ, zero, suc, ◌+◌, ◌≤◌, ◌<◌}
use native.Mathlib.Omega.{arith}
use lib.ListN.{length}
use Rattle.basics.specs.Lists.{All, Neighbours, Later}
use Rattle.basics.specs.Count.{count}
use Rattle.basics.specs.Chain.{Chain, one, Cycle}
use Rattle.basics.proofs.Lists.{mem-all, all_append, count-append, later-front, later-mem, neighbours-later, First, Preceded, first-or}
use Rattle.basics.proofs.Tests.{eqb_yes}
use Rattle.basics.proofs.Chains.{ending, back_step}
use Rattle.ordering.specs.Order.{on_lane, IsOrder}
use Rattle.ordering.specs.Merge.{stuck, pick, merge_all}
use Rattle.ordering.specs.Before.{ComesBefore, events, logged, next}
use Rattle.ordering.specs.Whole.{keyed, Whole}
use Rattle.ordering.specs.FirstFree.{Waits}
use Rattle.ordering.proofs.Lanes.{on-append, on-mem, mem-on, count-on, count-lanes}
use Rattle.ordering.proofs.Numbers.{reached, over, at_least, numbered-suffix, count-once, keyed-self, mem-count, reach}
use Rattle.ordering.proofs.Orders.{not_stuck, Merged, merged, merge-order, halted}
use Rattle.ordering.proofs.Chains.{cycle}

by_le : (a b : ℕ) → (b < a → ⊥) → a ≤ b
by_le a b f = omega arith

module _ {A : Type 0} (lane rid num : A → ℕ) where
  abbrev Precedes : List A → A → A → Type 0
  Precedes = ComesBefore lane rid num

  pub beside : (all : List A) (l : ℕ) (y x : A) → Neighbours (on_lane lane l all) y x → Precedes all y x
  beside all zero y x n = events n
  beside all (suc o) y x n = logged o n

  -- ── behind some steps of a merge ──
  module _ (all : List A) (whole : Whole lane rid num all) (out left : List A) (h : Merged lane rid num (λ r. 0) all out left) where
    pub where-is : (y : A) → Memᴰ y all → Memᴰ y out ⊎ Memᴰ y left
    where-is y m = ⊎_elim (λ k. inl (on-mem lane (lane y) out y k).0) (λ k. inr (on-mem lane (lane y) left y k).0)
        (Memᴰ.append_cases (on_lane lane (lane y) out) (subst (Memᴰ y) (sym (h.lanes (lane y))) (mem-on lane all y m)))

    pub in_all : (y : A) → Memᴰ y left → Memᴰ y all
    in_all y m = (on-mem lane (lane y) all y
        (subst (Memᴰ y) (h.lanes (lane y)) (Memᴰ.append_right (on_lane lane (lane y) out) (mem-on lane left y m)))).0

    -- each number is taken or left once
    shared : (r k : ℕ) → count (keyed rid num r k) out + count (keyed rid num r k) left ≤ 1
    shared r k = omega (
      arith,
      count-lanes lane (keyed rid num r k) (out ++ left) all (λ l. on-append lane l out left ∙ h.lanes l),
      count-append (keyed rid num r k) out left,
      whole.once r k,
    )

    apart : (y : A) → Memᴰ y out → Memᴰ y left → ⊥
    apart y a b = omega (arith, shared (rid y) (num y), mem-count rid num out y a, mem-count rid num left y b)

    pub not-below : (x : A) → Memᴰ x left → reached rid (λ r. 0) out (rid x) ≤ num x
    not-below x m = by_le (reached rid (λ r. 0) out (rid x)) (num x) (λ l. omega (
      arith,
      shared (rid x) (num x),
      mem-count rid num left x m,
      reach rid num (rid x) (num x) out (λ r. 0) h.numbered (omega arith) l,
    ))

    -- what stands before the first left item of a lane is taken
    pub taken-before : (l : ℕ) (y x : A) (q : List A) → on_lane lane l left ≡ x ∷ q → Later (on_lane lane l all) y x → Memᴰ y left → ⊥
    taken-before l y x q e b m =
        let cut : on_lane lane l all ≡ on_lane lane l out ++ x ∷ q = sym (h.lanes l) ∙ ap (λ t. on_lane lane l out ++ t) e in
        let t : count (keyed rid num (rid x) (num x)) (on_lane lane l all) ≤ 1 =
        omega (arith, count-on lane (keyed rid num (rid x) (num x)) l all, whole.once (rid x) (num x)) in
        let k = later-front (keyed rid num (rid x) (num x)) (on_lane lane l all) (on_lane lane l out) q y x (keyed-self rid num x) t b cut in
        apart y (on-mem lane l out y k).0 m

    -- an item left, unless it is first of its lane and next in its request, waits for one that is left
    pub waits-for : (x : A) → Memᴰ x left →
        ((q : List A) → on_lane lane (lane x) left ≡ x ∷ q → num x ≢ reached rid (λ r. 0) out (rid x)) → Waits (Precedes all) left x
    waits-for x m nr = at (first-or (on_lane lane (lane x) left) x (mem-on lane left x m))
      where
        at : First (on_lane lane (lane x) left) x ⊎ Preceded (on_lane lane (lane x) left) x → Waits (Precedes all) left x
        at (inr p) =
            let n = p.1 in (
              p.0,
              (on-mem lane (lane x) left p.0
                  (subst (Memᴰ p.0) (sym n.split) (Memᴰ.append_right n.front (Memᴰ.head refl)))).0,
              beside all (lane x) p.0 x (record {
                front = on_lane lane (lane x) out ++ n.front;
                back = n.back;
                split = sym (h.lanes (lane x)) ∙ ap (λ t. on_lane lane (lane x) out ++ t) n.split
                    ∙ sym (append_assoc (on_lane lane (lane x) out) n.front (p.0 ∷ x ∷ n.back));
              }),
            )
        at (inl f) = chained (num x) refl
          where
            -- the item before x in its request is left; it stands in another lane, since x is first of its own
            follows : (y : A) → Memᴰ y all → Memᴰ y left → (rid y ≡ rid x) → suc (num y) ≡ num x → Precedes all y x
            follows y a k i n = next a (in_all x m) (i, n) (λ p q.
                taken-before 0 y x f.0 (subst (λ l. on_lane lane l left ≡ x ∷ f.0) q f.1)
                (whole.behind y x a (in_all x m) p q (i, n)) k)

            chained : (n : ℕ) → num x ≡ n → Waits (Precedes all) left x
            chained zero z = absurd (nr f.0 f.1 (omega (arith, not-below x m)))
            chained (suc k) z =
                let d = whole.down x (in_all x m) k z in
                let ne : num x ≢ reached rid (λ r. 0) out (rid x) = nr f.0 f.1 in
                let low : reached rid (λ r. 0) out (rid x) ≤ k = omega (arith, not-below x m) in
                ⊎_elim
                (λ o. absurd (omega (
                  arith,
                  mem-all (λ y. num y < reached rid (λ r. 0) out (rid y)) (over rid num out (λ r. 0) h.numbered) o,
                  low,
                  d.3,
                  ap (reached rid (λ r. 0) out) d.2,
                )))
                (λ o. (d.0, o, follows d.0 d.1 o d.2 (omega (arith, d.3))))
                (where-is d.0 d.1)

    stuck-cycle : pick lane rid num (reached rid (λ r. 0) out) [] left ≡ stuck → left ≢ [] → Cycle (Precedes all)
    stuck-cycle e n = at left refl
      where
        waiting : (x : A) → Memᴰ x left → Waits (Chain (Precedes all)) left x
        waiting x m =
            let w = waits-for x m (λ q o n. not_stuck lane rid num (reached rid (λ r. 0) out) [] left x q refl o n e) in
            (w.0, w.1, one w.2)

        at : (l : List A) → left ≡ l → Cycle (Precedes all)
        at [] q = absurd (n q)
        at (x ∷ xs) q = cycle left x (subst (Memᴰ x) (sym q) (Memᴰ.head refl)) waiting

  -- ── a merge that stops early has a cycle ──
  pub stops-cycle : (all : List A) → Whole lane rid num all → (merge_all lane rid num all).1 ≢ [] → Cycle (Precedes all)
  stops-cycle all w n =
      let m = merge_all lane rid num all in
      ⊎_elim
      (λ e. absurd (n e))
      (λ e. stuck-cycle all w m.0 m.1 (merged lane rid num (length all) (λ r. 0) all) e n)
      (halted lane rid num (length all) (λ r. 0) all (omega arith))

  -- ── an order of the items leaves no cycle ──
  module _ (all : List A) where
    -- in an order, what comes before z in a lane stands in front of it
    forerun-lane : (pre : List A) (z : A) (post : List A) → IsOrder lane rid num (λ r. 0) all (pre ++ z ∷ post) →
        (l : ℕ) (y : A) → Neighbours (on_lane lane l all) y z → Memᴰ y pre
    forerun-lane pre z post h l y n =
        let b = neighbours-later (on_lane lane l all) y z n in
        let lz : lane z ≡ l = (on-mem lane l all z (later-mem (on_lane lane l all) y z b)).1 in
        let k = keyed rid num (rid z) (num z) in
        let cut : on_lane lane l all ≡ on_lane lane l pre ++ z ∷ on_lane lane l post =
        sym (h.lanes l) ∙ on-append lane l pre (z ∷ post) ∙ ap (λ t. on_lane lane l pre ++ t) (rw (eqb_yes lz)) in
        let t : count k (on_lane lane l all) ≤ 1 = subst (λ t. count k t ≤ 1) (h.lanes l) (omega (
          arith,
          count-on lane k l (pre ++ z ∷ post),
          count-once rid num (rid z) (num z) (pre ++ z ∷ post) (λ r. 0) h.numbered,
        )) in
        (on-mem lane l pre y
        (later-front k (on_lane lane l all) (on_lane lane l pre) (on_lane lane l post) y z (keyed-self rid num z) t b cut)).0

    forerun : (pre : List A) (z : A) (post : List A) → IsOrder lane rid num (λ r. 0) all (pre ++ z ∷ post) →
        (y : A) → Precedes all y z → Memᴰ y pre
    forerun pre z post h y (events n) = forerun-lane pre z post h 0 y n
    forerun pre z post h y (logged o n) = forerun-lane pre z post h (suc o) y n
    forerun pre z post h y (next my mz f _) =
        let nu = numbered-suffix rid num pre (z ∷ post) (λ r. 0) h.numbered in
        let s = reached rid (λ r. 0) pre in
        ⊎_elim
        (λ k. k)
        (λ k. absurd (omega (arith, mem-all (λ u. s (rid u) ≤ num u) (at_least rid num (z ∷ post) s nu) k, nu.0, f.1, ap s f.0)))
        (Memᴰ.append_cases pre {t = z ∷ post}
        (on-mem lane (lane y) (pre ++ z ∷ post) y (subst (Memᴰ y) (sym (h.lanes (lane y))) (mem-on lane all y my))).0)

    pub target : {y z : A} → Precedes all y z → Memᴰ z all
    target (events {y = y} {x = z} n) = (on-mem lane 0 all z (later-mem _ y z (neighbours-later _ y z n))).0
    target (logged {y = y} {x = z} o n) = (on-mem lane (suc o) all z (later-mem _ y z (neighbours-later _ y z n))).0
    target (next my mz f _) = mz

    abbrev Acyclic : A → Type 0
    Acyclic u = Chain (Precedes all) u u → ⊥

    acyclic : (post pre : List A) → IsOrder lane rid num (λ r. 0) all (pre ++ post) → All Acyclic pre → All Acyclic (pre ++ post)
    acyclic [] pre h a = rw append-nil a
    acyclic (z ∷ post) pre h a =
        let na : Acyclic z = λ c. let l = back_step z c in mem-all Acyclic a (forerun pre z post h l.0 l.1) l.2 in
        let e = append_assoc pre (z ∷ []) post in
        subst (All Acyclic) e
        (acyclic post (pre ++ (z ∷ [])) (subst (IsOrder lane rid num (λ r. 0) all) (sym e) h) (all_append Acyclic pre (z ∷ []) a (na, tt)))

    pub order-acyclic : (order : List A) → IsOrder lane rid num (λ r. 0) all order → Cycle (Precedes all) → ⊥
    order-acyclic order h c = mem-all Acyclic (acyclic order [] h tt) (member c.item c.returns) c.returns
      where
        member : (z : A) → Chain (Precedes all) z z → Memᴰ z order
        member z c =
            (on-mem lane (lane z) order z (subst (Memᴰ z) (sym (h.lanes (lane z))) (mem-on lane all z (target (ending c).1)))).0

  pub merge-cycle : (all : List A) → Whole lane rid num all →
      ((merge_all lane rid num all).1 ≢ []) ↔ Cycle (ComesBefore lane rid num all)
  merge-cycle all w = (
    stops-cycle all w,
    λ c e. order-acyclic all (merge_all lane rid num all).0 (merge-order lane rid num (length all) (λ r. 0) all e) c,
  )
