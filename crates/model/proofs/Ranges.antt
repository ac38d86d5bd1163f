-- What the host writes stays in range, where the machine does.
use mathlib.Core.Bool.{Bool, true, false, cond, ◌||◌}
use mathlib.Core.List.{List, [], ◌∷◌, ◌++◌}
use mathlib.Core.Path.{◌≡◌, sym, ap, subst, ◌∙◌}
use Prim.Native.Nat.{ℕ, zero, suc, ◌+◌, ◌≤◌}
use lib.Dec.{eqb}
use lib.ListN.{length}
use native.Mathlib.Omega.{arith}
use Rattle.basics.specs.Lists.{All}
use Rattle.basics.specs.Count.{count}
use Rattle.basics.specs.Maps.{upd}
use Rattle.basics.proofs.Lists.{all_append, all_any, count-append}
use Rattle.basics.proofs.Maps.{upd_same, upd_other}
use Rattle.basics.proofs.Tests.{clash, by_bool, by_eq, same_or, eqb_yes, eqb_no}
use Rattle.text.specs.declared.report.Entry.{Entry}
use Rattle.text.specs.declared.report.Op.{Op}
use Rattle.text.specs.declared.schedule.Move.{Move}
use Rattle.text.specs.declared.trace.Event.TheVariants.{Request, Response}
use Rattle.text.specs.declared.trace.Event.{Event}
use Rattle.text.specs.Trace.{is_request, is_response}
use Rattle.text.specs.Schedule.{is_arrive}
use Rattle.model.specs.Batch.{Batch, requested, answered}
use Rattle.model.specs.Bounds.{Within, Bounded}
use Rattle.model.specs.Host.{logs_from, Host, made, ofs_from, recorded}
use Rattle.model.specs.Machine.{op, stop, Machine}
use Rattle.model.specs.PlainRun.{
  Phase,
  absent,
  opened,
  closed,
  State,
  arrived,
  answer_now,
  line_now,
  operated,
  replied,
  operations_of,
}
use Rattle.model.specs.Ranges.{FitEvent, FitEntry, FitOf, FitMove, FitBatch}
use Rattle.model.proofs.Recorded.{
  Did,
  arrives-now,
  operates,
  replies,
  rests,
  wrote-keeps,
  Wrote,
  recorded-wrote,
  recorded-demand,
  wrote-few,
}
use Rattle.model.proofs.Report.{all_more}
use Rattle.model.proofs.Trace.{InOrder, row4-order}

-- ── a trace that keeps row 4 has no more responses than requests ──
-- how many requests are open, by a test of what is answered
abbrev open_in : (ℕ → Bool) → List Event → ℕ
open_in done [] = 0
open_in done (Request r prog a b ∷ es) = cond (done r) 0 1 + open_in done es
open_in done (Response r s v ∷ es) = open_in done es

-- one more is answered: no more are open, and one less where it was open
fewer-open : (done : ℕ → Bool) (r : ℕ) (es : List Event) → open_in (λ q. eqb r q || done q) es ≤ open_in done es
fewer-open done r [] = omega arith
fewer-open done r (Request q prog a b ∷ es) =
    let i = fewer-open done r es in
    by_bool (eqb r q) (λ d. rw d (omega (arith, i))) (λ d. rw d (omega (arith, i)))
fewer-open done r (Response q s v ∷ es) = fewer-open done r es

one_less : (done : ℕ → Bool) (r : ℕ) (es : List Event) → done r ≡ false → requested r es ≡ true →
    suc (open_in (λ q. eqb r q || done q) es) ≤ open_in done es
one_less done r [] n m = clash (cc)
one_less done r (Request q prog a b ∷ es) n m = by_eq q r
    (λ p d.
    let e : eqb r q ≡ true = eqb_yes (sym p) in
    let n' : done q ≡ false = ap done p ∙ n in
    rw (e, n') (omega (arith, fewer-open done r es)))
    (λ p d.
    let e : eqb r q ≡ false = eqb_no (λ i. p (sym i)) in
    rw e (omega (arith, one_less done r es n (rw d at m))))
one_less done r (Response q s v ∷ es) n m = one_less done r es n m

responses-open : (past es : List Event) → InOrder past es → count is_response es ≤ count is_request es + open_in (λ q. answered q past) past
responses-open past [] o = omega arith
responses-open past (Request r prog a b ∷ es) o =
    let i = responses-open (Request r prog a b ∷ past) es o.1 in
    by_bool (answered r past) (λ d. let i' = rw d at i in omega arith) (λ d. let i' = rw d at i in omega arith)
responses-open past (Response r s v ∷ es) o = omega (
  arith,
  responses-open (Response r s v ∷ past) es o.2,
  one_less (λ q. answered q past) r past o.1 o.0,
)

pub responses-few : (es : List Event) → InOrder [] es → count is_response es ≤ count is_request es
responses-few es o = omega (arith, responses-open [] es o)

-- ── what the host holds stays in range; R is the range of rids ──
module _ (M : Machine) (B : Bounded M) (R : ℕ → Type 0) where
  open M use {Process, Content, start, advance, resume, path_at_end, apply}

  abbrev FitPhase : ℕ → Phase M → Type 0
  FitPhase r absent = Unit {0}
  FitPhase r (opened p k) = R r × ((n : ℕ) × (k + n ≤ B.most) × B.Fit n p)
  FitPhase r (closed w k) = R r × (k ≤ B.most)

  record Ranged (s : State M) (trace : List Event) : Type 0 where
    pub contents : (o : ℕ) → B.FitContent (s.contents o)
    pub phases : (r : ℕ) → FitPhase r (s.phase r)
    pub lines : (o : ℕ) → All (FitEntry M B R) (s.logs o)
    pub events : All (FitEvent M B R) trace

  phases-upd : (phase : ℕ → Phase M) (r : ℕ) (f : Phase M) → ((q : ℕ) → FitPhase q (phase q)) → FitPhase r f →
      (q : ℕ) → FitPhase q (upd phase r f q)
  phases-upd phase r f h g q = same_or (λ q. FitPhase q (upd phase r f q)) r q
      (rw (upd_same phase r f) g)
      (λ n _. rw (upd_other phase f n) (h q))

  ranged-arrive : (s : State M) (trace : List Event) (r prog a b : ℕ) → Ranged s trace → R r → B.FitInput prog a b →
      Ranged (arrived M s r prog a b) (trace ++ (Request r prog a b ∷ []))
  ranged-arrive s trace r prog a b g i j = record {
    contents = g.contents;
    phases = phases-upd s.phase r (opened (start prog a b) 0) g.phases (i, (B.most, omega arith, B.starts prog a b j));
    lines = g.lines;
    events = all_append (FitEvent M B R) trace (Request r prog a b ∷ []) g.events ((i, j), tt);
  }

  ranged-reply : (s : State M) (trace : List Event) (r : ℕ) (p : Process) (k t v : ℕ) → Ranged s trace → s.phase r ≡ opened p k →
      advance p ≡ stop t v → Ranged (replied M s r p k) (trace ++ (Response r t v ∷ []))
  ranged-reply s trace r p k t v g e d =
      let h : FitPhase r (opened p k) = subst (FitPhase r) e (g.phases r) in
      record {
        contents = g.contents;
        phases = phases-upd s.phase r (closed (path_at_end p) k) g.phases (h.0, omega (arith, h.1.1));
        lines = g.lines;
        events = all_append (FitEvent M B R) trace (Response r t v ∷ []) g.events ((h.0, B.stops h.1.0 p t v h.1.2 d), tt);
      }

  ranged-operate : (s : State M) (trace : List Event) (r : ℕ) (p : Process) (k : ℕ) (o : Op) → Ranged s trace → s.phase r ≡ opened p k →
      advance p ≡ op o → Ranged (operated M s r (suc k) p o) trace
  ranged-operate s trace r p k o g e d =
      let h : FitPhase r (opened p k) = subst (FitPhase r) e (g.phases r) in
      let w = B.operates h.1.0 p o (s.contents o.object) h.1.2 d (g.contents o.object) in
      let after = (apply o (s.contents o.object)).1 in
      record {
        contents = λ q. same_or (λ q. B.FitContent (upd s.contents o.object after q)) o.object q
            (rw (upd_same s.contents o.object after) w.1)
            (λ n _. rw (upd_other s.contents after n) (g.contents q));
        phases = phases-upd s.phase r (opened (resume p (answer_now M s o)) (suc k)) g.phases
            (h.0, (w.2.0, omega (arith, h.1.1, w.2.1), w.2.2));
        lines = all_more s.logs o.object (line_now M s r (suc k) o) (λ q. FitEntry M B R) g.lines
            (h.0, omega (arith, h.1.1, w.2.1), w.0);
        events = g.events;
      }

  -- ── the report ──
  logs-fit : (logs : ℕ → List Entry) → ((o : ℕ) → All (FitEntry M B R) (logs o)) → (k n : ℕ) → All (FitEntry M B R) (logs_from logs k n)
  logs-fit logs h k zero = tt
  logs-fit logs h k (suc n) = all_append (FitEntry M B R) (logs k) (logs_from logs (suc k) n) (h k) (logs-fit logs h (suc k) n)

  operations-fit : (r : ℕ) (f : Phase M) → FitPhase r f → operations_of M f ≤ B.most
  operations-fit r absent h = omega arith
  operations-fit r (opened p k) h = omega (arith, h.1.1)
  operations-fit r (closed w k) h = h.1

  ofs-fit : (phase : ℕ → Phase M) → ((r : ℕ) → FitPhase r (phase r)) → (es : List Event) (n g : ℕ) → n + count is_request es ≡ g →
      All (FitEvent M B R) es → All (FitOf M B R g) (ofs_from M phase n es)
  ofs-fit phase h [] n g i e = tt
  ofs-fit phase h (Request r prog a b ∷ es) n g i e =
      ((e.0.0, omega arith, operations-fit r (phase r) (h r)), ofs-fit phase h es (suc n) g (omega arith) e.1)
  ofs-fit phase h (Response r s v ∷ es) n g i e = ofs-fit phase h es n g (omega (arith, i)) e.1

  -- ── the schedule ──
  module _ (known : ℕ → Bool) (limit : ℕ) where
    did-ranged : (h h' : Host M) (m : Move) → FitMove M B R m → Did M known limit h m h' → Ranged h.state h.trace →
        Ranged h'.state h'.trace
    did-ranged h h' m i (arrives-now r prog a b k e) g = ranged-arrive h.state h.trace r prog a b g i.0 i.1
    did-ranged h h' m i (operates r p k o e d l) g = ranged-operate h.state h.trace r p k o g e d
    did-ranged h h' m i (replies r p k t v e d) g = ranged-reply h.state h.trace r p k t v g e d
    did-ranged h h' m i (rests r w n e) g = g

    -- the requests so far and the arrivals to come
    abbrev Arrivals : ℕ → List Move → Host M → Type 0
    Arrivals n ms h = count is_request h.trace + count is_arrive ms ≡ n

    did-arrivals : (n : ℕ) (h h' : Host M) (m : Move) (ms : List Move) → Did M known limit h m h' → Arrivals n (m ∷ ms) h → Arrivals n ms h'
    did-arrivals n h h' m ms (arrives-now r prog a b k e) i = omega (arith, i, count-append is_request h.trace (Request r prog a b ∷ []))
    did-arrivals n h h' m ms (operates r p k o e d l) i = omega (arith, i)
    did-arrivals n h h' m ms (replies r p k t v e d) i = omega (arith, i, count-append is_request h.trace (Response r t v ∷ []))
    did-arrivals n h h' m ms (rests r w n' e) i = omega (arith, i)

    module _ (objects : ℕ) (within : Within M objects) (opening : ℕ → Content) (held : (o : ℕ) → B.FitContent (opening o)) where
      pub recorded-fit : (ms : List Move) → All (FitMove M B R) ms → (b : Batch) → recorded M known limit objects opening ms ≡ made b →
          FitBatch M B R limit ms b
      recorded-fit ms fit b e = subst (FitBatch M B R limit ms) w.batch (record {
        events = g.events;
        ofs = ofs-fit w.host.state.phase g.phases w.host.trace 0 (count is_request w.host.trace) (omega arith) g.events;
        lines = logs-fit w.host.state.logs g.lines 0 objects;
        requests = omega (arith, n);
        responses = omega (arith, n, responses-few w.host.trace o);
        operations = subst (λ b. length b.log ≤ limit) (sym w.batch) (wrote-few M known limit objects within opening ms b w);
      })
        where
          w : Wrote M known limit objects opening ms b
          w = recorded-wrote M known limit objects opening ms b e

          o : InOrder [] w.host.trace
          o = subst (λ b. InOrder [] b.trace) (sym w.batch)
              ((row4-order known b.trace).0 (recorded-demand M known limit objects within opening ms b e).lines4).0

          g : Ranged w.host.state w.host.trace
          g = wrote-keeps M known limit (λ ms h. Ranged h.state h.trace) (FitMove M B R) (λ h h' m ms i d. did-ranged h h' m i d)
              objects opening ms b w fit (record { contents = held; phases = λ r. tt; lines = λ o. tt; events = tt })

          n : Arrivals (count is_arrive ms) [] w.host
          n = wrote-keeps M known limit (Arrivals (count is_arrive ms)) (λ m. Unit {0})
              (λ h h' m rest _ d. did-arrivals (count is_arrive ms) h h' m rest d)
              objects opening ms b w (all_any (λ m. Unit {0}) (λ m. tt) ms) (omega arith)
