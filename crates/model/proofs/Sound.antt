-- Soundness: where rows 4 and 6 to 12 do not hold, every order of the items is allowed; and the merge is one.
use mathlib.Core.List.{List, [], ◌∷◌, map, Memᴰ}
use mathlib.Core.Path.{◌≡◌, refl, sym, ap, subst, subst₂, ◌∙◌}
use Prim.Native.Nat.{ℕ, suc, ◌<◌}
use lib.ListN.{length}
use native.Mathlib.Omega.{arith}
use Rattle.basics.specs.Lists.{All}
use Rattle.basics.proofs.Lists.{all_append, all-append-right, all_map, all-unmap, all-mem, mem-all, all-imp}
use Rattle.basics.proofs.Tests.{clash, by_eq}
use Rattle.text.specs.declared.report.Entry.{Entry}
use Rattle.text.specs.declared.report.Of.{Of}
use Rattle.text.specs.declared.trace.Event.TheVariants.{Request, Response}
use Rattle.text.specs.declared.trace.Event.{Event}
use Rattle.ordering.proofs.Lanes.{all_lanes}
use Rattle.ordering.proofs.Numbers.{reached, over}
use Rattle.ordering.proofs.Orders.{merge-order}
use Rattle.model.specs.Allowed.{Allowed}
use Rattle.model.specs.Batch.{Batch, count_of, first_of, Node, ev, ln}
use Rattle.model.specs.Machine.{Machine}
use Rattle.model.specs.Nodes.{lane, rid, num, nodes, merge_of}
use Rattle.model.specs.ByRule.{item_of}
use Rattle.model.specs.Orders.{OrderOf}
use Rattle.model.specs.PlainRun.{Phase, absent, opened, closed, initial, operations_of, path_of}
use Rattle.model.specs.Replay.{Reply, silent, said, response_of, Outcome, differs, ended, Claim, claim, outcome}
use Rattle.model.proofs.Ahead.{foretold-log}
use Rattle.model.proofs.Claims.{Counted, counted-mem}
use Rattle.model.proofs.Items.{standing}
use Rattle.model.proofs.Nodes.{order-events, order-lines}
use Rattle.model.proofs.Passes.{Along, Passed, Passes}
use Rattle.model.proofs.Requests.{Named, Sole, events-named, events-sole, ofs-counted}
use Rattle.model.proofs.Simulation.{Fits, Replayed, Carried, simulate}
use Rattle.model.proofs.Trace.{Formed}

-- the path of an outcome
abbrev outcome_path : Outcome → List ℕ
outcome_path differs = []
outcome_path (ended a w) = w

along-path : (w : List ℕ) (d : Outcome) → Along w d → w ≡ outcome_path d
along-path w differs e = absurd e
along-path w (ended a w') e = e

-- what holds of every event holds of the response that is looked up
response-all : (P : Event → Type 0) (es : List Event) (r s v : ℕ) → All P es → response_of es r ≡ said s v → P (Response r s v)
response-all P [] r s v h e = clash (cc)
response-all P (Request q g a b ∷ es) r s v h e = response-all P es r s v h.1 e
response-all P (Response q s' v' ∷ es) r s v h e = by_eq q r
    (λ p d.
    let e' = rw d at e in
    let i : s' ≡ s = cc in
    let j : v' ≡ v = cc in
    let k : Response q s' v' ≡ Response r s v = cc in
    subst P k h.0)
    (λ p d. response-all P es r s v h.1 (rw d at e))

module _ (M : Machine) (opening : ℕ → M.Content) (b : Batch) (f : Formed b) (h : Passes M opening b) where
  open M use {path_so_far}

  abbrev cnt : ℕ → ℕ
  cnt = count_of b.ofs

  abbrev rep : ℕ → Reply
  rep = response_of b.trace

  abbrev F : ℕ → ℕ → Claim M
  F = claim M b.log opening

  abbrev Holds : Node → Type 0
  Holds = Replayed M F cnt rep (outcome M opening b)

  -- ── what the replays give of each item ──
  named-ended : (r : ℕ) → Named b r → (w : List ℕ) × (outcome M opening b r ≡ ended (rep r) w)
  named-ended r n =
      let p = mem-all (Passed M opening b) h.replays n.1 in
      (p.path, subst (λ r. outcome M opening b r ≡ ended (rep r) p.path) n.2 p.replayed)

  event-holds : (e : Event) → Sole M b e → Named b (rid (ev e)) → Holds (ev e)
  event-holds (Request r prog x y) s n = rw s
  event-holds (Response r t v) s n = let w = named-ended r n in (w.0, s, w.1 ∙ ap (λ a. ended a w.0) s)

  line-holds : (l : Entry) → Counted cnt l → Holds (ln l)
  line-holds l c =
      let w = named-ended l.rid (counted-mem b.ofs l.rid (omega (arith, c.low, c.high))) in
      (c.low, c.high, (rep l.rid, w.0, w.1))

  all_hold : All Holds (nodes b)
  all_hold = all_append Holds (map ln b.log) (map ev b.trace)
      (all_map Holds ln b.log (all-imp (Counted cnt) (λ l. Holds (ln l)) line-holds b.log h.reported.counted))
      (all_map Holds ev b.trace (all-mem (λ e. Holds (ev e)) b.trace (λ e m.
      event-holds e (mem-all (Sole M b) (events-sole M b f) m) (mem-all (λ e. Named b (rid (ev e))) (events-named b f) m))))

  -- ── a request all of whose items are done has its count and the path of its group ──
  abbrev group_path : ℕ → List ℕ
  group_path g = outcome_path (outcome M opening b (first_of b.ofs g))

  abbrev Settled : Of → Phase M → Type 0
  Settled x p = (operations_of M p ≡ x.count) × (path_of M p ≡ group_path x.group)

  group-path : (x : Of) (q : Passed M opening b x) → q.path ≡ group_path x.group
  group-path x q = along-path q.path (outcome M opening b (first_of b.ofs x.group)) q.grouped

  settled : (x : Of) (stage : ℕ) (p : Phase M) → Passed M opening b x → cnt x.rid ≡ x.count → cnt x.rid < stage →
      ((s v : ℕ) → rep x.rid ≡ said s v → suc (cnt x.rid) < stage) → Fits M F cnt rep (outcome M opening b) x.rid stage p →
      Settled x p
  settled x stage absent q c l a i = absurd (omega arith)
  settled x stage (opened p k) q c l a i =
      (omega (arith, i.0, i.1.1), at (rep x.rid) refl ∙ group-path x q)
    where
      at : (y : Reply) → rep x.rid ≡ y → path_so_far p ≡ q.path
      at silent e =
          let z : i.1.0 ≡ 0 = omega (arith, i.0, i.1.1) in
          let d : ended silent (path_so_far p) ≡ outcome M opening b x.rid = rw (z, e) at i.1.2 in
          let g = q.replayed in cc
      at (said s v) e = absurd (omega (arith, a s v e, i.0, i.1.1))
  settled x stage (closed w n) q c l a i =
      let e = q.replayed in
      let g = i.2.1 in
      let j : w ≡ q.path = cc in
      (i.1 ∙ c, j ∙ group-path x q)

  module _ (order : List Node) (is : OrderOf b order) where
    -- how far the order comes with each request
    abbrev end : ℕ → ℕ
    end = reached rid (λ r. 0) order

    abbrev Done : Node → Type 0
    Done y = num cnt y < end (rid y)

    all_done : All Done (nodes b)
    all_done = all_lanes lane Done (nodes b) order (λ l. sym (is.lanes l)) (over rid (num cnt) order (λ r. 0) is.numbered)

    events-done : All (λ e. Done (ev e)) b.trace
    events-done = all-unmap Done ev b.trace (all-append-right Done (map ln b.log) (map ev b.trace) all_done)

    count-done : (x : Of) → Memᴰ x b.ofs → cnt x.rid < end x.rid
    count-done x m =
        let i = standing b f h.reported x.rid (x, m, refl) (cnt x.rid) (omega arith) in
        subst₂ (λ n r. n < end r) i.3 i.2 (mem-all Done all_done i.1)

    carried : Carried M F cnt rep (outcome M opening b) (λ r. 0) (initial M opening) order
    carried = simulate M F cnt rep (outcome M opening b) order (λ r. 0) (initial M opening) is.numbered
        (all_lanes lane Holds order (nodes b) is.lanes all_hold)
        (record {
          phases = λ r. refl;
          ahead = λ o. rw (order-lines b order is.lanes o) (foretold-log M F b.log opening h.reported.unique (λ r k _. refl) o);
        })

    all_settled : (x : Of) → Memᴰ x b.ofs → Settled x (carried.final.phase x.rid)
    all_settled x m = settled x (end x.rid) (carried.final.phase x.rid) (mem-all (Passed M opening b) h.replays m)
        (ofs-counted b f x m) (count-done x m)
        (λ s v e. response-all (λ e. Done (ev e)) b.trace x.rid s v events-done e)
        (carried.phases x.rid)

    pub order-allowed : (a : Allowed M opening b) × (a.order ≡ map item_of order)
    order-allowed = (
      record {
        order = map item_of order;
        events = order-events b order is.lanes;
        final = carried.final;
        runs = carried.runs;
        counts = λ x m. (all_settled x m).0;
        logs = λ o. carried.logs o ∙ order-lines b order is.lanes o;
        group_path = group_path;
        paths = λ x m. (all_settled x m).1;
      },
      refl,
    )

  pub merge-is-order : OrderOf b (merge_of b).0
  merge-is-order = merge-order lane rid (num (count_of b.ofs)) (length (nodes b)) (λ r. 0) (nodes b) h.merged

  pub sound : Allowed M opening b
  sound = (order-allowed (merge_of b).0 merge-is-order).0
