-- Two machines that go on in the same way wherever a request comes make the same of a schedule.
use Rattle.std.proofs.Common.{◌≡◌, ℕ, suc, Bool, true, false, cond, eqb, ltb, List, [], ◌∷◌, ◌++◌, refl, ap, ◌∙◌, subst}
use mathlib.Core.Path.{fun_ext}
use Rattle.basics.specs.Choice.{choose}
use Rattle.basics.specs.Maps.{upd}
use Rattle.text.specs.declared.report.Entry.{Entry}
use Rattle.text.specs.declared.schedule.Move.TheVariants.{Arrive, Turn}
use Rattle.text.specs.declared.schedule.Move.{Move}
use Rattle.text.specs.declared.trace.Event.TheVariants.{Request, Response}
use Rattle.text.specs.declared.trace.Event.{Event}
use Rattle.model.specs.Host.{Result, fault, made, Host, empty, Stepped, broken, on, arrive, after_operation, turn_at, turn_of, commit, stepped, go_on, run_from, ofs_from, logs_from, batch_written, and_then, recorded}
use Rattle.model.specs.Machine.{Next, op, stop, Machine}
use Rattle.model.specs.PlainRun.{Phase, absent, opened, closed, State, answer_now, operated, operations_of}
use Rattle.machine.specs.Instance.{Process, next_of, resumed_with, machine_by}
use Rattle.machine.specs.Objects.{Content}
use Rattle.machine.specs.Processes.{Advanced}
use Rattle.machine.proofs.SameReplays.{Agree}

module _ (gone gone' : Process → Advanced) where
  abbrev M : Machine
  M = machine_by gone

  abbrev N : Machine
  N = machine_by gone'

  -- the same state, of the other machine
  abbrev phase : Phase M → Phase N
  phase absent = absent
  phase (opened p k) = opened p k
  phase (closed w n) = closed w n

  abbrev state : State M → State N
  state s = record { contents = s.contents; logs = s.logs; phase = λ r. phase (s.phase r) }

  abbrev host : Host M → Host N
  host h = record { state = state h.state; trace = h.trace; operations = h.operations }

  abbrev step : Stepped M → Stepped N
  step broken = broken
  step (on h) = on (host h)

  phase-set : (f : ℕ → Phase M) (r : ℕ) (x : Phase M) →
      ◌≡◌ {A = ℕ → Phase N} (λ q. phase (upd f r x q)) (upd (λ q. phase (f q)) r (phase x))
  unfolding upd
  phase-set f r x = fun_ext λ q. by q (eqb r q)
    where
      by : (q : ℕ) (b : Bool) → phase (choose b x (λ _. f q)) ≡ choose b (phase x) (λ _. phase (f q))
      by q true = refl
      by q false = refl

  -- ── what is written of a state is the same ──
  operations-same : (x : Phase M) → operations_of M x ≡ operations_of N (phase x)
  operations-same absent = refl
  operations-same (opened p k) = refl
  operations-same (closed w n) = refl

  ofs-same : (f : ℕ → Phase M) (n : ℕ) (es : List Event) → ofs_from M f n es ≡ ofs_from N (λ r. phase (f r)) n es
  ofs-same f n [] = refl
  ofs-same f n (Request r prog a b ∷ es) =
      let e = operations-same (f r) in
      let rest = ofs-same f (suc n) es in
      λ i. record { rid = r; group = n; count = e i } ∷ rest i
  ofs-same f n (Response r status value ∷ es) = ofs-same f n es

  module _ (known : ℕ → Bool) (agree : Agree gone gone' known) where
    -- both go on in the same way at the processes of the open requests
    abbrev InPhase : Phase M → Type 0
    InPhase absent = Unit {0}
    InPhase (opened p k) = agree.At p
    InPhase (closed w n) = Unit {0}

    abbrev In : Host M → Type 0
    In h = (r : ℕ) → InPhase (h.state.phase r)

    abbrev InStep : Stepped M → Type 0
    InStep broken = Unit {0}
    InStep (on h) = In h

    in-set : (f : ℕ → Phase M) (r : ℕ) (x : Phase M) → ((q : ℕ) → InPhase (f q)) → InPhase x → (q : ℕ) → InPhase (upd f r x q)
    unfolding upd
    in-set f r x h g q = by (eqb r q)
      where
        by : (b : Bool) → InPhase (choose b x (λ _. f q))
        by true = g
        by false = h q

    module _ (limit : ℕ) where
      -- a step by both machines
      record Both (x : Stepped M) (y : Stepped N) : Type 0 where
        alike : step x ≡ y
        inside : InStep x

      module _ (h : Host M) (g : In h) where
        abbrev s : State M
        s = h.state

        abbrev with : (ℕ → Content) → (ℕ → List Entry) → List Event → ℕ → (ℕ → Phase N) → Stepped N
        with c l t n f = on (record { state = record { contents = c; logs = l; phase = f }; trace = t; operations = n })

        arrives : (r prog a b : ℕ) → agree.At (M.start prog a b) → (x : Phase M) →
            Both (arrive M h r prog a b x) (arrive N (host h) r prog a b (phase x))
        arrives r prog a b e absent =
            let x = opened (M.start prog a b) 0 in
            record {
              alike = ap (with s.contents s.logs (h.trace ++ Request r prog a b ∷ []) h.operations) (phase-set s.phase r x);
              inside = in-set s.phase r x g e;
            }
        arrives r prog a b e (opened p k) = record { alike = refl; inside = tt }
        arrives r prog a b e (closed w n) = record { alike = refl; inside = tt }

        turns : (r : ℕ) (p : Process) (k : ℕ) → agree.At p → (y : Next) → M.advance p ≡ y →
            Both (commit M known limit h (turn_at M s r p k y)) (commit N known limit (host h) (turn_at N (state s) r p k y))
        turns r p k e (op o) d = by (ltb h.operations limit)
          where
            v : ℕ
            v = answer_now M s o

            by : (b : Bool) →
                Both (cond b (on (after_operation M h (operated M s r (suc k) p o))) broken)
                (cond b (on (after_operation N (host h) (operated N (state s) r (suc k) p o))) broken)
            by true =
                record {
                  alike =
                      ap (with (operated M s r (suc k) p o).contents (operated M s r (suc k) p o).logs h.trace (suc h.operations))
                      (phase-set s.phase r (opened (M.resume p v) (suc k))
                      ∙ ap (λ x. upd (λ q. phase (s.phase q)) r (opened (resumed_with p.prog v x) (suc k))) (agree.same p e));
                  inside = in-set s.phase r (opened (M.resume p v) (suc k)) g (agree.stays p o v e d);
                }
            by false = record { alike = refl; inside = tt }
        turns r p k e (stop status value) d =
            record {
              alike =
                  ap (with s.contents s.logs (h.trace ++ Response r status value ∷ []) h.operations)
                  (phase-set s.phase r (closed (M.path_at_end p) k)
                  ∙ ap (λ x. upd (λ q. phase (s.phase q)) r (closed (p.prog ∷ x.path) k)) (agree.same p e));
              inside = in-set s.phase r (closed (M.path_at_end p) k) g tt;
            }

        turned : (r : ℕ) (x : Phase M) → InPhase x →
            Both (commit M known limit h (turn_of M s r x)) (commit N known limit (host h) (turn_of N (state s) r (phase x)))
        turned r absent e = record { alike = refl; inside = tt }
        turned r (opened p k) e =
            subst
            (λ y. Both (commit M known limit h (turn_at M s r p k (M.advance p))) (commit N known limit (host h) (turn_at N (state s) r p k y)))
            (ap (λ x. next_of x.stop.next) (agree.same p e)) (turns r p k e (M.advance p) refl)
        turned r (closed w n) e = record { alike = refl; inside = g }

        steps : (m : Move) → Both (stepped M known limit h m) (stepped N known limit (host h) m)
        steps (Arrive r prog a b) = by (known prog) refl
          where
            by : (c : Bool) → known prog ≡ c →
                Both (cond c (arrive M h r prog a b (s.phase r)) broken) (cond c (arrive N (host h) r prog a b (phase (s.phase r))) broken)
            by true e = arrives r prog a b (agree.starts prog a b e) (s.phase r)
            by false e = record { alike = refl; inside = tt }
        steps (Turn r) = turned r (s.phase r) (g r)

      -- ── a schedule ──
      abbrev result : Result (Host M) → Result (Host N)
      result (fault number line) = fault number line
      result (made h) = made (host h)

      goes : (n : ℕ) (ms : List Move) (x : Stepped M) (y : Stepped N) → Both x y →
          ((h : Host M) → In h → result (run_from M known limit (suc n) ms h) ≡ run_from N known limit (suc n) ms (host h)) →
          result (go_on M known limit n x (run_from M known limit (suc n) ms)) ≡ go_on N known limit n y (run_from N known limit (suc n) ms)
      goes n ms broken y b f = ap (λ y. go_on N known limit n y (run_from N known limit (suc n) ms)) b.alike
      goes n ms (on h) y b f = f h b.inside ∙ ap (λ y. go_on N known limit n y (run_from N known limit (suc n) ms)) b.alike

      runs : (n : ℕ) (ms : List Move) (h : Host M) → In h → result (run_from M known limit n ms h) ≡ run_from N known limit n ms (host h)
      runs n [] h g = refl
      runs n (m ∷ ms) h g = goes n ms (stepped M known limit h m) (stepped N known limit (host h) m) (steps h g m) (runs (suc n) ms)

      module _ (objects : ℕ) (ms : List Move) where
        batch-same : (h : Host M) → batch_written M objects h ≡ batch_written N objects (host h)
        batch-same h =
            let e = ofs-same h.state.phase 0 h.trace in
            λ i. record { trace = h.trace; ofs = e i; log = logs_from h.state.logs 0 objects }

        written : (x : Result (Host M)) →
            and_then x (λ h. made (batch_written M objects h)) ≡ and_then (result x) (λ h. made (batch_written N objects h))
        written (fault number line) = refl
        written (made h) = ap made (batch-same h)

        pub recorded-same : (opening : ℕ → Content) → recorded M known limit objects opening ms ≡ recorded N known limit objects opening ms
        recorded-same opening =
            written (run_from M known limit 1 ms (empty M opening))
            ∙ ap (λ x. and_then x (λ h. made (batch_written N objects h))) (runs 1 ms (empty M opening) (λ r. tt))
