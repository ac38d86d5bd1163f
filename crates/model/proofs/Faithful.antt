-- Between two lines of the schedule the host's state and trace are those of an order; and so the batch that it writes is allowed.
use mathlib.Core.Bool.{Bool, true, false, ◌||◌, or-true, or-false}
use mathlib.Core.List.{List, [], ◌∷◌, ◌++◌, append-nil}
use mathlib.Core.Logic.{inr}
use mathlib.Core.Option.{Option, none, some}
use mathlib.Core.Path.{◌≡◌, refl, sym, ap, ◌∙◌}
use Prim.Native.Nat.{ℕ, suc, ◌≤◌, ◌<◌}
use borrow.Author.Tests.{ltb-true, ltb-false}
use lib.Dec.{eqb, ltb}
use native.Mathlib.Omega.{arith}
use Rattle.basics.specs.Lists.{All}
use Rattle.basics.specs.Maps.{upd}
use Rattle.basics.proofs.Lists.{all_append}
use Rattle.basics.proofs.Maps.{upd-at, upd_other}
use Rattle.basics.proofs.Tests.{clash, by_bool, by_eq, eqb-self}
use Rattle.text.specs.declared.report.Op.{Op}
use Rattle.text.specs.declared.trace.Event.TheVariants.{Request, Response}
use Rattle.text.specs.declared.trace.Event.{Event}
use Rattle.model.specs.Allowed.{events_of, Allowed}
use Rattle.model.specs.Batch.{requested, answered, first_of}
use Rattle.model.specs.Host.{logs_from, ofs_from}
use Rattle.model.specs.Machine.{op, stop, Machine}
use Rattle.model.specs.PlainRun.{
  Item,
  event,
  operation,
  Phase,
  absent,
  opened,
  closed,
  State,
  initial,
  arrived,
  answer_now,
  line_now,
  operated,
  replied,
  step,
  onward,
  run,
  path_of,
}
use Rattle.model.proofs.Report.{Own, logs-out, logs-in, all_more, ofs-alone}
use Rattle.model.proofs.Trace.{InOrder, KnownIn}

-- ── events at the end of a trace ──
events-append : (xs ys : List Item) → events_of (xs ++ ys) ≡ events_of xs ++ events_of ys
events-append [] ys = refl
events-append (event e ∷ xs) ys = ap (λ t. e ∷ t) (events-append xs ys)
events-append (operation r k ∷ xs) ys = events-append xs ys

requested-append : (r : ℕ) (es fs : List Event) → requested r (es ++ fs) ≡ (requested r es || requested r fs)
requested-append r [] fs = refl
requested-append r (Request q prog a b ∷ es) fs = by_bool (eqb q r) (λ e. rw e) (λ e. rw e (requested-append r es fs))
requested-append r (Response q s v ∷ es) fs = requested-append r es fs

answered-append : (r : ℕ) (es fs : List Event) → answered r (es ++ fs) ≡ (answered r es || answered r fs)
answered-append r [] fs = refl
answered-append r (Request q prog a b ∷ es) fs = answered-append r es fs
answered-append r (Response q s v ∷ es) fs = by_bool (eqb q r) (λ e. rw e) (λ e. rw e (answered-append r es fs))

-- a new request
add-request : (past es : List Event) (r prog a b : ℕ) → InOrder past es → requested r past ≡ false → requested r es ≡ false →
    InOrder past (es ++ (Request r prog a b ∷ []))
add-request past [] r prog a b o n m = (n, tt)
add-request past (Request q p x y ∷ es) r prog a b o n m = by_bool (eqb q r)
    (λ e. let m' = rw e at m in clash (cc))
    (λ e. (o.0, add-request (Request q p x y ∷ past) es r prog a b o.1 (rw e n) (rw e at m)))
add-request past (Response q s v ∷ es) r prog a b o n m =
    (o.0, o.1, add-request (Response q s v ∷ past) es r prog a b o.2 n m)

-- the response of an open request
pub add-response : (past es : List Event) (r s v : ℕ) → InOrder past es → (requested r past || requested r es) ≡ true →
    answered r past ≡ false → answered r es ≡ false → InOrder past (es ++ (Response r s v ∷ []))
add-response past [] r s v o a n m = (sym (or-false (requested r past)) ∙ a, n, tt)
add-response past (Request q p x y ∷ es) r s v o a n m =
    (o.0, add-response (Request q p x y ∷ past) es r s v o.1 (by_bool (eqb q r) (λ e. rw e) (λ e. rw e (rw e at a))) n m)
add-response past (Response q t w ∷ es) r s v o a n m = by_bool (eqb q r)
    (λ e. let m' = rw e at m in clash (cc))
    (λ e. (o.0, o.1, add-response (Response q t w ∷ past) es r s v o.2 a (rw e n) (rw e at m)))

module _ (M : Machine) where
  open M use {Process, Content, start, advance, resume, path_at_end}

  run-append : (xs ys : List Item) (s : State M) → run M (xs ++ ys) s ≡ onward (run M xs s) (run M ys)
  run-append [] ys s = refl
  run-append (x ∷ xs) ys s = at (step M s x) (run-append xs ys)
    where
      at : (o : Option (State M)) → ((t : State M) → run M (xs ++ ys) t ≡ onward (run M xs t) (run M ys)) →
          onward o (run M (xs ++ ys)) ≡ onward (onward o (run M xs)) (run M ys)
      at none ih = refl
      at (some t) ih = ih t

  run-snoc : (xs : List Item) (y : Item) (s t u : State M) → run M xs s ≡ some t → step M t y ≡ some u → run M (xs ++ (y ∷ [])) s ≡ some u
  run-snoc xs y s t u e d = run-append xs (y ∷ []) s ∙ rw (e, d)

  abbrev pub has_arrived : Phase M → Bool
  has_arrived absent = false
  has_arrived (opened p k) = true
  has_arrived (closed w n) = true

  abbrev pub is_closed : Phase M → Bool
  is_closed absent = false
  is_closed (opened p k) = false
  is_closed (closed w n) = true

  pub record Faithful (known : ℕ → Bool) (objects : ℕ) (opening : ℕ → Content) (s : State M) (trace : List Event) : Type 0 where
    pub order : List Item
    pub events : events_of order ≡ trace
    pub runs : run M order (initial M opening) ≡ some s
    pub in_order : InOrder [] trace
    pub programs : All (KnownIn known) trace
    pub arrivals : (r : ℕ) → requested r trace ≡ has_arrived (s.phase r)
    pub responses : (r : ℕ) → answered r trace ≡ is_closed (s.phase r)
    pub own : (o : ℕ) → Own o (s.logs o)
    pub beyond : (o : ℕ) → objects ≤ o → s.logs o ≡ []

  -- a test that a new phase of request r leaves as it was
  same_test : (test : Phase M → Bool) (s : State M) (r : ℕ) (f g : Phase M) → s.phase r ≡ f → test f ≡ test g →
      (q : ℕ) → test (s.phase q) ≡ test (upd s.phase r g q)
  same_test test s r f g e t q = by_eq r q
      (λ p d. rw (upd-at s.phase g p, sym (ap s.phase p) ∙ e) t)
      (λ p d. rw (upd_other s.phase g p))

  module _ (known : ℕ → Bool) (objects : ℕ) (opening : ℕ → Content) where
    pub faithful-empty : Faithful known objects opening (initial M opening) []
    faithful-empty = record {
      order = [];
      events = refl;
      runs = refl;
      in_order = tt;
      programs = tt;
      arrivals = λ r. refl;
      responses = λ r. refl;
      own = λ o. tt;
      beyond = λ o b. refl;
    }

    -- an arrival
    pub faithful-arrive : (s : State M) (trace : List Event) (r prog a b : ℕ) → Faithful known objects opening s trace →
        s.phase r ≡ absent → known prog ≡ true →
        Faithful known objects opening (arrived M s r prog a b) (trace ++ (Request r prog a b ∷ []))
    faithful-arrive s trace r prog a b f e k =
        let new = Request r prog a b in
        let next = opened (start prog a b) 0 in
        record {
          order = f.order ++ (event new ∷ []);
          events = events-append f.order (event new ∷ []) ∙ ap (λ t. t ++ (new ∷ [])) f.events;
          runs = run-snoc f.order (event new) (initial M opening) s (arrived M s r prog a b) f.runs refl;
          in_order = add-request [] trace r prog a b f.in_order refl (f.arrivals r ∙ ap has_arrived e);
          programs = all_append (KnownIn known) trace (new ∷ []) f.programs (k, tt);
          arrivals = λ q. requested-append q trace (new ∷ []) ∙ by_eq r q
              (λ p d. rw (d, upd-at s.phase next p) (or-true (requested q trace)))
              (λ p d. rw (d, upd_other s.phase next p) (or-false (requested q trace) ∙ f.arrivals q));
          responses = λ q. answered-append q trace (new ∷ []) ∙ or-false (answered q trace) ∙ f.responses q
              ∙ same_test is_closed s r absent next e refl q;
          own = f.own;
          beyond = f.beyond;
        }

    -- a turn to the reply or cut
    pub faithful-reply : (s : State M) (trace : List Event) (r : ℕ) (p : Process) (k t v : ℕ) → Faithful known objects opening s trace →
        s.phase r ≡ opened p k → advance p ≡ stop t v → Faithful known objects opening (replied M s r p k) (trace ++ (Response r t v ∷ []))
    faithful-reply s trace r p k t v f e d =
        let new = Response r t v in
        let next = closed (path_at_end p) k in
        record {
          order = f.order ++ (event new ∷ []);
          events = events-append f.order (event new ∷ []) ∙ ap (λ z. z ++ (new ∷ [])) f.events;
          runs = run-snoc f.order (event new) (initial M opening) s (replied M s r p k) f.runs (rw (e, d, eqb-self t, eqb-self v));
          in_order = add-response [] trace r t v f.in_order (f.arrivals r ∙ ap has_arrived e) refl (f.responses r ∙ ap is_closed e);
          programs = all_append (KnownIn known) trace (new ∷ []) f.programs (tt, tt);
          arrivals = λ q. requested-append q trace (new ∷ []) ∙ or-false (requested q trace) ∙ f.arrivals q
              ∙ same_test has_arrived s r (opened p k) next e refl q;
          responses = λ q. answered-append q trace (new ∷ []) ∙ by_eq r q
              (λ i c. rw (c, upd-at s.phase next i) (or-true (answered q trace)))
              (λ i c. rw (c, upd_other s.phase next i) (or-false (answered q trace) ∙ f.responses q));
          own = f.own;
          beyond = f.beyond;
        }

    -- a turn through an operation
    pub faithful-operate : (s : State M) (trace : List Event) (r : ℕ) (p : Process) (k : ℕ) (o : Op) →
        Faithful known objects opening s trace → s.phase r ≡ opened p k → advance p ≡ op o → o.object < objects →
        Faithful known objects opening (operated M s r (suc k) p o) trace
    faithful-operate s trace r p k o f e d b =
        let next = opened (resume p (answer_now M s o)) (suc k) in
        let line = line_now M s r (suc k) o in
        let longer = s.logs o.object ++ (line ∷ []) in
        record {
          order = f.order ++ (operation r (suc k) ∷ []);
          events = events-append f.order (operation r (suc k) ∷ []) ∙ append-nil (events_of f.order) ∙ f.events;
          runs = run-snoc f.order (operation r (suc k)) (initial M opening) s (operated M s r (suc k) p o) f.runs
              (rw (e, d, eqb-self (suc k)));
          in_order = f.in_order;
          programs = f.programs;
          arrivals = λ q. f.arrivals q ∙ same_test has_arrived s r (opened p k) next e refl q;
          responses = λ q. f.responses q ∙ same_test is_closed s r (opened p k) next e refl q;
          own = all_more s.logs o.object line (λ q l. l.op.object ≡ q) f.own refl;
          beyond = λ q c. upd_other s.logs longer (λ i. omega arith) ∙ f.beyond q c;
        }

    -- ── the batch that is written ──
    pub faithful-allowed : (s : State M) (trace : List Event) → Faithful known objects opening s trace →
        Allowed M opening (record { trace = trace; ofs = ofs_from M s.phase 0 trace; log = logs_from s.logs 0 objects })
    faithful-allowed s trace f = record {
      order = f.order;
      events = f.events;
      final = s;
      runs = f.runs;
      counts = λ x m. (ofs-alone M s trace 0 x m).2;
      logs = λ o. by_bool (ltb o objects)
          (λ d. sym (logs-in s.logs f.own o 0 objects (omega arith) (omega (arith, ltb-true o objects d))))
          (λ d. f.beyond o (ltb-false o objects d)
          ∙ sym (logs-out s.logs f.own o 0 objects (inr (omega (arith, ltb-false o objects d)))));
      group_path = λ g. path_of M (s.phase (first_of (ofs_from M s.phase 0 trace) g));
      paths = λ x m. ap (λ r. path_of M (s.phase r)) (sym (ofs-alone M s trace 0 x m).1);
    }
