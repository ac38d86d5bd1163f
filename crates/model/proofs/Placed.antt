-- An allowed order, with the report's lines for its operations, is an order of the batch's items.
use mathlib.Core.Bool.{Bool, false}
use mathlib.Core.List.{List, [], ◌∷◌, ◌++◌, map}
use mathlib.Core.Path.{◌≡◌, refl, sym, ap, subst, ◌∙◌}
use Prim.Native.Nat.{ℕ, suc, ◌≤◌}
use native.Mathlib.Omega.{arith}
use Rattle.basics.specs.Lists.{All}
use Rattle.basics.specs.Count.{count}
use Rattle.basics.specs.Maps.{upd}
use Rattle.basics.proofs.Lists.{all_append, all_map, all-imp, all_any}
use Rattle.basics.proofs.Maps.{upd_same, upd_other}
use Rattle.basics.proofs.Tests.{by_bool, same_or, eqb-self}
use Rattle.text.specs.declared.report.Entry.{Entry}
use Rattle.ordering.specs.Order.{Numbered}
use Rattle.ordering.specs.Merge.{bump}
use Rattle.model.specs.ByRule.{item_of}
use Rattle.model.specs.Orders.{OrderOf}
use Rattle.ordering.specs.Whole.{keyed}
use Rattle.ordering.proofs.Lanes.{all_lanes, count-lanes}
use Rattle.ordering.proofs.Numbers.{bump-same, bump-other, count-once}
use Rattle.model.specs.Allowed.{events_of, Allowed}
use Rattle.model.specs.Batch.{Batch, log_of, count_of, claims, claimed, Node, ev, ln}
use Rattle.model.specs.Machine.{Machine}
use Rattle.model.specs.Nodes.{lane, rid, num, nodes}
use Rattle.model.specs.PlainRun.{Phase, absent, opened, closed, State, initial, answer_now, operations_of}
use Rattle.model.specs.Replay.{claim}
use Rattle.model.proofs.Ahead.{Ahead, foretold-log}
use Rattle.model.proofs.Claims.{Unique}
use Rattle.model.proofs.Nodes.{events_in, lines_of, same-lanes}
use Rattle.model.proofs.Requests.{Named, events-named, ofs-counted}
use Rattle.model.proofs.Runs.{Runs, ends, arrives, replies, operates, ran, runs-logs, persist}
use Rattle.model.proofs.Trace.{InOrder, Formed}

module _ (M : Machine) where
  open M use {start, resume, path_at_end}

  -- how many items of a request are done in a phase
  abbrev stage_of : Phase M → ℕ
  stage_of absent = 0
  stage_of (opened p k) = suc k
  stage_of (closed w n) = suc (suc n)

  stage-upd : (stage : ℕ → ℕ) (phase : ℕ → Phase M) (r : ℕ) (f : Phase M) → ((q : ℕ) → stage q ≡ stage_of (phase q)) →
      stage_of f ≡ suc (stage r) → (q : ℕ) → bump stage r q ≡ stage_of (upd phase r f q)
  stage-upd stage phase r f h e q = same_or (λ q. bump stage r q ≡ stage_of (upd phase r f q)) r q
      (rw (upd_same phase r f) (bump-same stage r r refl ∙ sym e))
      (λ n _. rw (bump-other stage r q n, upd_other phase f n) (h q))

  -- a run ends in the state t with as many operations of each request as it counts
  module _ (cnt : ℕ → ℕ) (t : State M) where
    abbrev pub Finished : Node → Type 0
    Finished (ev e) = operations_of M (t.phase (rid (ev e))) ≡ cnt (rid (ev e))
    Finished (ln l) = Unit {0}

    numbered : {ys : List Node} {s : State M} (stage : ℕ → ℕ) → Runs M ys s t → All Finished ys →
        ((r : ℕ) → stage r ≡ stage_of (s.phase r)) → Numbered rid (num cnt) stage ys
    numbered stage ends f g = tt
    numbered stage (arrives {s = s} r prog a b i h) f g =
        let e : stage r ≡ 0 = g r ∙ ap stage_of i in
        (sym e, numbered (bump stage r) h f.1 (stage-upd stage s.phase r (opened (start prog a b) 0) g (omega arith)))
    numbered stage (replies {s = s} r u v p k i d h) f g =
        let next = closed (path_at_end p) k in
        let e : stage r ≡ suc k = g r ∙ ap stage_of i in
        let m : k ≡ cnt r = sym (ap (operations_of M) (persist M r (path_at_end p) k h (upd_same s.phase r next))) ∙ f.0 in
        (omega arith, numbered (bump stage r) h f.1 (stage-upd stage s.phase r next g (omega arith)))
    numbered stage (operates {s = s} r p k o i d h) f g =
        let next = opened (resume p (answer_now M s o)) (suc k) in
        let e : stage r ≡ suc k = g r ∙ ap stage_of i in
        (sym e, numbered (bump stage r) h f.1 (stage-upd stage s.phase r next g (omega arith)))

-- ── no number comes twice, so no operation is claimed twice ──
-- a test that counts the lines of operation k of request r
pub none-claimed : (f : Node → Bool) (r k : ℕ) → ((l : Entry) → f (ln l) ≡ claims r k l) → (ls : List Entry) (es : List Node) →
    count f (map ln ls ++ es) ≡ 0 → claimed ls r k ≡ false
none-claimed f r k h [] es e = refl
none-claimed f r k h (l ∷ ls) es e = by_bool (claims r k l)
    (λ d. let e' = rw (h l, d) at e in absurd (omega arith))
    (λ d. rw d (none-claimed f r k h ls es (let e' = rw (h l, d) at e in omega arith)))

module _ (cnt : ℕ → ℕ) (es : List Node) where
  unique : (ls : List Entry) → ((r k : ℕ) → count (keyed rid (num cnt) r k) (map ln ls ++ es) ≤ 1) → Unique ls
  unique [] h = tt
  unique (l ∷ ls) h =
      let e = rw (eqb-self l.rid, eqb-self l.num) at (h l.rid l.num) in
      let test = keyed rid (num cnt) l.rid l.num in
      (none-claimed test l.rid l.num (λ l. refl) ls es (omega arith), unique ls (λ r k. omega (arith, h r k)))

module _ (M : Machine) (opening : ℕ → M.Content) (b : Batch) where
  abbrev cnt : ℕ → ℕ
  cnt = count_of b.ofs

  pub record Placed (a : Allowed M opening b) : Type 0 where
    pub items : List Node
    pub order : map item_of items ≡ a.order
    pub runs : Runs M items (initial M opening) a.final
    pub events : events_in items ≡ b.trace
    pub lines : (o : ℕ) → lines_of o items ≡ log_of o b.log
    pub finished : All (Finished M (count_of b.ofs) a.final) items
    pub placed : OrderOf b items

  module _ (f : Formed b) (a : Allowed M opening b) where
    abbrev Ends : Node → Type 0
    Ends = Finished M cnt a.final

    named-ends : (q : ℕ) → Named b q → operations_of M (a.final.phase q) ≡ cnt q
    named-ends q n = subst (λ q. operations_of M (a.final.phase q) ≡ cnt q) n.2
        (a.counts n.0 n.1 ∙ sym (ofs-counted b f n.0 n.1))

    all_end : All Ends (nodes b)
    all_end = all_append Ends (map ln b.log) (map ev b.trace)
        (all_map Ends ln b.log (all_any (λ l. Unit {0}) (λ l. tt) b.log))
        (all_map Ends ev b.trace (all-imp (λ e. Named b (rid (ev e))) (λ e. Ends (ev e)) (λ e. named-ends (rid (ev e))) b.trace
        (events-named b f)))

    pub place : Placed a
    place =
        let o = subst (InOrder []) (sym a.events) f.in_order in
        let r = ran M a.order [] (initial M opening) a.final o (λ r _. refl) a.runs in
        let logs = runs-logs M r.runs in
        let events = ap events_of r.items ∙ a.events in
        let lanes = same-lanes b r.nodes events (λ o. sym (logs o) ∙ a.logs o) in
        let finished = all_lanes lane Ends r.nodes (nodes b) lanes all_end in
        record {
          items = r.nodes;
          order = r.items;
          runs = r.runs;
          events = events;
          lines = λ o. sym (logs o) ∙ a.logs o;
          finished = finished;
          placed = record {
            lanes = lanes;
            numbered = numbered M cnt a.final (λ r. 0) r.runs finished (λ r. refl);
          };
        }

  module _ (a : Allowed M opening b) (p : Placed a) where
    pub placed-unique : Unique b.log
    placed-unique = unique cnt (map ev b.trace) b.log (λ r k. subst (λ n. n ≤ 1)
        (count-lanes lane (keyed rid (num cnt) r k) p.items (nodes b) p.placed.lanes)
        (count-once rid (num cnt) r k p.items (λ r. 0) p.placed.numbered))

    pub placed-ahead : Ahead M (claim M b.log opening) (initial M opening) p.items
    placed-ahead o =
        rw (p.lines o) (foretold-log M (claim M b.log opening) b.log opening placed-unique (λ r k _. refl) o)
