-- The merge's order is by the rule of P1, and no other order is: the items stand in its list so that the first one that waits for none that
-- is left goes before every other that may be printed.
use mathlib.Core.Bool.{Bool}
use mathlib.Core.List.{
  List,
  [],
  ◌∷◌,
  ◌++◌,
  map,
  Memᴰ,
  append_assoc,
}
use mathlib.Core.Logic.{◌⊎◌, inl, inr, ⊎_elim, ◌↔◌}
use mathlib.Core.Path.{◌≡◌, refl, sym, ap, ap₂, subst, ◌∙◌}
use Prim.Native.Nat.{ℕ, suc, ◌≤◌}
use native.Mathlib.Omega.{arith}
use Rattle.basics.specs.Lists.{All, Neighbours, Later}
use Rattle.basics.specs.Count.{count}
use Rattle.basics.specs.Chain.{one, more}
use Rattle.basics.proofs.Lists.{all_append, all-append-left, all-append-right, all_map, all_any, mem-all, count-append, later-front}
use Rattle.basics.proofs.Chains.{chain-map}
use Rattle.text.specs.declared.trace.Event.{Event}
use Rattle.ordering.specs.Before.{ComesBefore, events, logged, next}
use Rattle.ordering.specs.FirstFree.{Waits, FirstFree, Greedy}
use Rattle.ordering.specs.Order.{on_lane}
use Rattle.ordering.specs.Whole.{keyed}
use Rattle.ordering.proofs.Lanes.{on-mem}
use Rattle.ordering.proofs.Numbers.{keyed-self, mem-count}
use Rattle.ordering.proofs.Weaker.{later-chain}
use Rattle.model.specs.Batch.{Batch, count_of, Node, ev, ln}
use Rattle.model.specs.ByRule.{IsItem, traced, logged, MayCome, GoesFirst, over_event, above, Next, ByRuleFrom, ByRule}
use Rattle.model.specs.Nodes.{lane, rid, num, nodes, merge_of}
use Rattle.model.specs.Precedes.{Leads}
use Rattle.model.proofs.Claims.{Reported}
use Rattle.model.proofs.Items.{Source, source, in-log, in-trace, whole}
use Rattle.model.proofs.Mapped.{later-map}
use Rattle.model.proofs.Nodes.{nodes-events}
use Rattle.model.proofs.Precedes.{before, precedes, neighbours-agree}
use Rattle.model.proofs.Printed.{printed-order}
use Rattle.model.proofs.Trace.{Formed}

-- ── P holds of each item of a list and each later one ──
module _ {A : Type 0} (P : A → A → Type 0) where
  abbrev Pairwise : List A → Type 0
  Pairwise [] = Unit {0}
  Pairwise (x ∷ xs) = All (P x) xs × Pairwise xs

  pairwise_append : (xs ys : List A) → Pairwise xs → All (λ x. All (P x) ys) xs → Pairwise ys → Pairwise (xs ++ ys)
  pairwise_append [] ys h a k = k
  pairwise_append (x ∷ xs) ys h a k = (all_append (P x) xs ys h.0 a.0, pairwise_append xs ys h.1 a.1 k)

  pairwise-behind : (front : List A) (x : A) (back : List A) → Pairwise (front ++ x ∷ back) → All (P x) back
  pairwise-behind [] x back h = h.0
  pairwise-behind (y ∷ front) x back h = pairwise-behind front x back h.1

  pairwise-without : (front : List A) (x : A) (back : List A) → Pairwise (front ++ x ∷ back) → Pairwise (front ++ back)
  pairwise-without [] x back h = h.1
  pairwise-without (y ∷ front) x back h = (
    all_append (P y) front back (all-append-left (P y) front (x ∷ back) h.0) (all-append-right (P y) front (x ∷ back) h.0).1,
    pairwise-without front x back h.1,
  )

module _ {A B : Type 0} (P : B → B → Type 0) (f : A → B) (all : List A) (h : (x y : A) → Later all x y → P (f x) (f y)) where
  all-later : (ys between front : List A) (x : A) → all ≡ front ++ x ∷ (between ++ ys) → All (P (f x)) (map f ys)
  all-later [] between front x e = tt
  all-later (y ∷ ys) between front x e = (
    h x y (record { front = front; between = between; back = ys; split = e }),
    all-later ys (between ++ (y ∷ [])) front x (e ∙ ap (λ t. front ++ x ∷ t) (sym (append_assoc between (y ∷ []) ys))),
  )

  pairwise-later : (xs front : List A) → all ≡ front ++ xs → Pairwise P (map f xs)
  pairwise-later [] front e = tt
  pairwise-later (x ∷ xs) front e =
      (all-later xs [] front x e, pairwise-later xs (front ++ (x ∷ [])) (e ∙ sym (append_assoc front (x ∷ []) xs)))

-- ── the items are the nodes ──
item-node : (b : Batch) (x : Node) → IsItem b x → Memᴰ x (nodes b)
item-node b x (traced {e = e} m) = in-trace b e m
item-node b x (logged {l = l} m) = in-log b l m

source-item : (b : Batch) (x : Node) → Source b x → IsItem b x
source-item b x (inl s) = subst (IsItem b) s.2 (logged s.1)
source-item b x (inr s) = subst (IsItem b) s.2 (traced s.1)

module _ (b : Batch) (f : Formed b) (h : Reported b) where
  abbrev cnt : ℕ → ℕ
  cnt = count_of b.ofs

  abbrev R : Node → Node → Type 0
  R = ComesBefore lane rid (num cnt) (nodes b)

  -- what comes before something is an item
  on-lane : (l : ℕ) (y x : Node) → Neighbours (on_lane lane l (nodes b)) y x → Memᴰ y (nodes b)
  on-lane l y x n =
      (on-mem lane l (nodes b) y (subst (Memᴰ y) (sym n.split) (mathlib.Core.List.Memᴰ.append_right n.front (mathlib.Core.List.Memᴰ.head refl)))).0

  origin : (y x : Node) → R y x → Memᴰ y (nodes b)
  origin y x (events n) = on-lane 0 y x n
  origin y x (logged o n) = on-lane (suc o) y x n
  origin y x (next m _ _ _) = m

  leader : (y x : Node) → Leads b y x → IsItem b y
  leader y x (one p) = source-item b y (source b y (origin y x (before b h (neighbours-agree b h) y x p)))
  leader y x (more {y = z} c p) = leader y z c

  -- ── of two items at most one goes first ──
  abbrev lines : List Node
  lines = map ln b.log

  abbrev key : Node → Node → Bool
  key x = keyed rid (num cnt) (rid x) (num cnt x)

  lines-once : (x : Node) → count (key x) lines ≤ 1
  lines-once x = omega (arith, count-append (key x) lines (map ev b.trace), (whole b f h).once (rid x) (num cnt x))

  -- no operation is claimed twice, so no two lines stand each above the other
  not-around : (x y : Node) → Later lines x y → Later lines y x → ⊥
  not-around x y p q =
      let rest = p.between ++ y ∷ p.back in
      let m = later-front (key x) lines p.front rest y x (keyed-self rid (num cnt) x) (lines-once x) q p.split in
      let n : Memᴰ y (x ∷ rest) = mathlib.Core.List.Memᴰ.tail (mathlib.Core.List.Memᴰ.append_right p.between (mathlib.Core.List.Memᴰ.head refl)) in
      omega (
        arith,
        subst (λ t. count (key y) t ≤ 1) p.split (lines-once y),
        count-append (key y) p.front (x ∷ rest),
        mem-count rid (num cnt) p.front y m,
        mem-count rid (num cnt) (x ∷ rest) y n,
      )

  not-both : (x y : Node) → GoesFirst b x y → GoesFirst b y x → ⊥
  not-both x y (above {l = l} {m = m} p) (above q) =
      not-around (ln l) (ln m) (later-map ln b.log l m p) (later-map ln b.log m l q)
  not-both _ _ (over_event {l = l} {e = e}) x5 = elim x5 [ ]

  -- ── at most one order is by the rule ──
  one-next : (printed : List Node) (x y : Node) → Next b printed x → Next b printed y → x ≡ y
  one-next printed x y p q = ⊎_elim
      (λ e. sym e)
      (λ g. ⊎_elim (λ e. e) (λ k. absurd (not-both x y g k)) (q.first x p.may))
      (p.first y q.may)

  one_from : (xs ys printed : List Node) → ByRuleFrom b printed xs → ByRuleFrom b printed ys → xs ≡ ys
  one_from [] [] printed p q = refl
  one_from [] (y ∷ ys) printed p q = absurd (q.0.may.unprinted (p y q.0.may.item))
  one_from (x ∷ xs) [] printed p q = absurd (p.0.may.unprinted (q x p.0.may.item))
  one_from (x ∷ xs) (y ∷ ys) printed p q =
      let e = one-next printed x y p.0 q.0 in
      ap₂ (λ z t. z ∷ t) e (one_from xs ys (x ∷ printed) p.1 (subst (λ z. ByRuleFrom b (z ∷ printed) ys) (sym e) q.1))

  pub one-by-rule : (xs ys : List Node) → ByRule b xs → ByRule b ys → xs ≡ ys
  one-by-rule xs ys = one_from xs ys []

  -- ── of two nodes, the earlier in the list goes first or leads to the later ──
  abbrev Earlier : Node → Node → Type 0
  Earlier x y = GoesFirst b x y ⊎ Leads b x y

  events-lead : (e g : Event) → Later b.trace e g → Earlier (ev e) (ev g)
  events-lead e g l =
      let k = subst (λ xs. Later xs (ev e) (ev g)) (sym (nodes-events b)) (later-map ev b.trace e g l) in
      inr (chain-map (λ y x p. one (precedes b h (neighbours-agree b h) y x p))
      (later-chain lane rid (num cnt) (nodes b) k.between k.front (ev e) (ev g) k.back k.split))

  nodes-sorted : Pairwise Earlier (nodes b)
  nodes-sorted = pairwise_append Earlier lines (map ev b.trace)
      (pairwise-later Earlier ln b.log (λ l m k. inl (above k)) b.log [] refl)
      (all_map (λ x. All (Earlier x) (map ev b.trace)) ln b.log (all_any _ (λ l.
      all_map (Earlier (ln l)) ev b.trace (all_any _ (λ e. inl over_event) b.trace)) b.log))
      (pairwise-later Earlier ev b.trace events-lead b.trace [] refl)

  -- ── what is left behind the printed items ──
  -- each item is printed or left, and none is both
  record Left (printed left : List Node) : Type 0 where
    pub sorted : Pairwise Earlier left
    pub apart : (y : Node) → Memᴰ y left → Memᴰ y printed → ⊥
    pub items : (y : Node) → Memᴰ y left → IsItem b y
    pub rest : (y : Node) → IsItem b y → Memᴰ y printed ⊎ Memᴰ y left

  module _ (printed left : List Node) (k : Left printed left) (x : Node) (others : List Node) (d : FirstFree (Leads b) left x others) where
    here : Memᴰ x left
    here = subst (Memᴰ x) (sym d.split) (mathlib.Core.List.Memᴰ.append_right d.front (mathlib.Core.List.Memᴰ.head refl))

    split-sorted : Pairwise Earlier (d.front ++ x ∷ d.back)
    split-sorted = subst (Pairwise Earlier) d.split k.sorted

    -- what is left stands in front of x, is x, or stands behind it; the others are all but x
    among-left : {Q : Type 0} (y : Node) → (Memᴰ y d.front → Q) → (y ≡ x → Q) → (Memᴰ y d.back → Q) → Memᴰ y left → Q
    among-left y in-front same in-back m = ⊎_elim
        in-front
        (λ n. ⊎_elim same in-back (mathlib.Core.List.Memᴰ.cases_cons n))
        (mathlib.Core.List.Memᴰ.append_cases d.front (subst (Memᴰ y) d.split m))

    among-others : {Q : Type 0} (y : Node) → (Memᴰ y d.front → Q) → (Memᴰ y d.back → Q) → Memᴰ y others → Q
    among-others y in-front in-back m =
        ⊎_elim in-front in-back (mathlib.Core.List.Memᴰ.append_cases d.front (subst (Memᴰ y) d.without m))

    kept : (y : Node) → Memᴰ y others → Memᴰ y left
    kept y m = subst (Memᴰ y) (sym d.split) (among-others y
        (λ n. mathlib.Core.List.Memᴰ.append_left (x ∷ d.back) n)
        (λ n. mathlib.Core.List.Memᴰ.append_right d.front (mathlib.Core.List.Memᴰ.tail n))
        m)

    -- what stands in front of x waits; what stands behind it goes after it, or waits for it
    waiting : (y : Node) → Memᴰ y d.front → Waits (Leads b) left y
    waiting y m = mem-all (Waits (Leads b) left) d.waits m

    behind : (y : Node) → Memᴰ y d.back → GoesFirst b x y ⊎ Waits (Leads b) left y
    behind y m = ⊎_elim
        (λ g. inl g)
        (λ c. inr (x, here, c))
        (mem-all (Earlier x) (pairwise-behind Earlier d.front x d.back split-sorted) m)

    -- what may be printed waits for none that is left
    may-not-wait : (y : Node) → MayCome b printed y → Waits (Leads b) left y → ⊥
    may-not-wait y p w = k.apart w.0 w.1 (p.free w.0 w.2)

    is-next : Next b printed x
    is-next = record {
      may = record {
        item = k.items x here;
        unprinted = k.apart x here;
        free = λ y c. ⊎_elim (λ m. m) (λ m. absurd (d.free (y, m, c))) (k.rest y (leader y x c));
      };
      first = λ y p. ⊎_elim
          (λ m. absurd (p.unprinted m))
          (among-left y
          (λ m. absurd (may-not-wait y p (waiting y m)))
          (λ e. inl e)
          (λ m. ⊎_elim (λ g. inr g) (λ w. absurd (may-not-wait y p w)) (behind y m)))
          (k.rest y p.item);
    }

    -- x stands in the list once
    gone : Memᴰ x others → ⊥
    gone = among-others x
        (λ m. d.free (waiting x m))
        (λ m. ⊎_elim (λ g. not-both x x g g) d.free (behind x m))

    left_behind : Left (x ∷ printed) others
    left_behind = record {
      sorted = subst (Pairwise Earlier) (sym d.without) (pairwise-without Earlier d.front x d.back split-sorted);
      apart = λ y m n. ⊎_elim
          (λ e. gone (subst (λ y. Memᴰ y others) e m))
          (k.apart y (kept y m))
          (mathlib.Core.List.Memᴰ.cases_cons n);
      items = λ y m. k.items y (kept y m);
      rest = λ y i. ⊎_elim
          (λ m. inl (mathlib.Core.List.Memᴰ.tail m))
          (among-left y
          (λ m. inr (subst (Memᴰ y) (sym d.without) (mathlib.Core.List.Memᴰ.append_left d.back m)))
          (λ e. inl (mathlib.Core.List.Memᴰ.head e))
          (λ m. inr (subst (Memᴰ y) (sym d.without) (mathlib.Core.List.Memᴰ.append_right d.front m))))
          (k.rest y i);
    }

  -- ── taking the first free item again and again is by the rule ──
  takes-rule : (order printed left : List Node) → Left printed left → Greedy (Leads b) left order → ByRuleFrom b printed order
  takes-rule [] printed left k g = λ x i. ⊎_elim (λ m. m) (λ m. absurd (mathlib.Core.List.Memᴰ.not-nil (subst (Memᴰ x) g m))) (k.rest x i)
  takes-rule (x ∷ xs) printed left k g = (
    is-next printed left k x g.0 g.1,
    takes-rule xs (x ∷ printed) g.0 (left_behind printed left k x g.0 g.1) g.2,
  )

  start : Left [] (nodes b)
  start = record {
    sorted = nodes-sorted;
    apart = λ y m n. mathlib.Core.List.Memᴰ.not-nil n;
    items = λ y m. source-item b y (source b y m);
    rest = λ y i. inr (item-node b y i);
  }

  pub merge-by-rule : (merge_of b).1 ≡ [] → ByRule b (merge_of b).0
  merge-by-rule e = takes-rule (merge_of b).0 [] (nodes b) start ((printed-order b f h e (merge_of b).0).1 refl)

  pub only-by-rule : (merge_of b).1 ≡ [] → (order : List Node) → ByRule b order ↔ (order ≡ (merge_of b).0)
  only-by-rule e order =
      let p = merge-by-rule e in
      (λ q. one-by-rule order (merge_of b).0 q p, λ i. subst (ByRule b) (sym i) p)
