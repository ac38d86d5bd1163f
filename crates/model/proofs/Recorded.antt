-- Demand 3 for the host: what it writes without a fault is accepted by the audit.
use mathlib.Core.Bool.{Bool, true}
use mathlib.Core.List.{List, [], ◌∷◌}
use mathlib.Core.Path.{◌≡◌, refl, ap, subst, ◌∙◌}
use Prim.Native.Nat.{ℕ, suc, ◌≤◌, ◌<◌}
use borrow.Author.Tests.{ltb-true}
use lib.Dec.{ltb}
use lib.ListN.{length}
use native.Mathlib.Omega.{arith}
use Rattle.basics.specs.Lists.{All}
use Rattle.basics.proofs.Lists.{all_any}
use Rattle.basics.proofs.Tests.{clash, by_bool}
use Rattle.text.specs.declared.report.Op.{Op}
use Rattle.text.specs.declared.schedule.Move.TheVariants.{Arrive, Turn}
use Rattle.text.specs.declared.schedule.Move.{Move}
use Rattle.model.specs.Audit.{audit}
use Rattle.model.specs.Batch.{Batch}
use Rattle.model.specs.Bounds.{Within}
use Rattle.model.specs.Checks.{verdict}
use Rattle.model.specs.Demand.{Demand3}
use Rattle.model.specs.Host.{
  Result,
  fault,
  made,
  logs_from,
  turn_at,
  turn_of,
  Host,
  empty,
  Stepped,
  broken,
  on,
  after_arrival,
  arrive,
  after_operation,
  after_reply,
  commit,
  stepped,
  go_on,
  run_from,
  batch_written,
  and_then,
  recorded,
}
use Rattle.model.specs.Machine.{Next, op, stop, Machine}
use Rattle.model.specs.PlainRun.{Phase, absent, opened, closed, line_now, operated, replied}
use Rattle.model.proofs.Audited.{audit-demand}
use Rattle.model.proofs.Faithful.{
  Faithful,
  faithful-empty,
  faithful-arrive,
  faithful-reply,
  faithful-operate,
  faithful-allowed,
}
use Rattle.model.proofs.Report.{no-logs, one-longer, ofs-matching}
use Rattle.model.proofs.Trace.{row4-order, row6-matching}

module _ (M : Machine) (known : ℕ → Bool) (limit : ℕ) where
  open M use {Process, Content, advance}

  -- ── what one line of the schedule does: an arrival, an operation, a reply, or nothing ──
  pub data Did (h : Host M) : Move → Host M → Type 0 where
    arrives-now : (r prog a b : ℕ) → known prog ≡ true → h.state.phase r ≡ absent →
        Did h (Arrive r prog a b) (after_arrival M h r prog a b)
    operates : (r : ℕ) (p : Process) (k : ℕ) (o : Op) → h.state.phase r ≡ opened p k → advance p ≡ op o → h.operations < limit →
        Did h (Turn r) (after_operation M h (operated M h.state r (suc k) p o))
    replies : (r : ℕ) (p : Process) (k t v : ℕ) → h.state.phase r ≡ opened p k → advance p ≡ stop t v →
        Did h (Turn r) (after_reply M h (replied M h.state r p k) r t v)
    rests : (r : ℕ) (w : List ℕ) (n : ℕ) → h.state.phase r ≡ closed w n → Did h (Turn r) h

  did : (h h' : Host M) (m : Move) → stepped M known limit h m ≡ on h' → Did h m h'
  did h h' (Arrive r prog a b) e = by_bool (known prog)
      (λ k. at k (h.state.phase r) refl (rw k at e))
      (λ k. let e' = rw k at e in clash (cc))
    where
      at : known prog ≡ true → (f : Phase M) → h.state.phase r ≡ f → arrive M h r prog a b f ≡ on h' → Did h (Arrive r prog a b) h'
      at k absent d c = let i : after_arrival M h r prog a b ≡ h' = cc in subst (Did h (Arrive r prog a b)) i (arrives-now r prog a b k d)
      at k (opened p n) d c = clash (cc)
      at k (closed w n) d c = clash (cc)
  did h h' (Turn r) e = at (h.state.phase r) refl e
    where
      next : (p : Process) (k : ℕ) → h.state.phase r ≡ opened p k → (x : Next) → advance p ≡ x →
          commit M known limit h (turn_at M h.state r p k x) ≡ on h' → Did h (Turn r) h'
      next p k d (op o) a c = by_bool (ltb h.operations limit)
          (λ l.
          let c' = rw l at c in
          let i : after_operation M h (operated M h.state r (suc k) p o) ≡ h' = cc in
          subst (Did h (Turn r)) i (operates r p k o d a (ltb-true h.operations limit l)))
          (λ l. let c' = rw l at c in clash (cc))
      next p k d (stop t v) a c =
          let i : after_reply M h (replied M h.state r p k) r t v ≡ h' = cc in subst (Did h (Turn r)) i (replies r p k t v d a)

      at : (f : Phase M) → h.state.phase r ≡ f → commit M known limit h (turn_of M h.state r f) ≡ on h' → Did h (Turn r) h'
      at absent d c = clash (cc)
      at (opened p k) d c = next p k d (advance p) refl c
      at (closed w n) d c = let i : h ≡ h' = cc in subst (Did h (Turn r)) i (rests r w n d)

  -- ── the whole schedule ──
  goes_on : (n : ℕ) (w : Stepped M) (f : Host M → Result (Host M)) (h : Host M) → go_on M known limit n w f ≡ made h →
      (g : Host M) × (w ≡ on g) × (f g ≡ made h)
  goes_on n broken f h e = clash (cc)
  goes_on n (on g) f h e = (g, refl, e)

  -- what every line keeps, the schedule keeps; P holds of its lines, and I speaks of the lines that are left and of the host
  run-keeps : (I : List Move → Host M → Type 0) (P : Move → Type 0) →
      ((h h' : Host M) (m : Move) (ms : List Move) → P m → Did h m h' → I (m ∷ ms) h → I ms h') →
      (ms : List Move) → All P ms → (n : ℕ) (h t : Host M) → I ms h → run_from M known limit n ms h ≡ made t → I [] t
  run-keeps I P k [] a n h t i e = let q : h ≡ t = cc in subst (I []) q i
  run-keeps I P k (m ∷ ms) a n h t i e =
      let g = goes_on n (stepped M known limit h m) (run_from M known limit (suc n) ms) t e in
      run-keeps I P k ms a.1 (suc n) g.0 t (k h g.0 m ms a.0 (did h g.0 m g.1) i) g.2

  -- a batch that is written is that of the host behind the whole schedule
  pub record Wrote (objects : ℕ) (opening : ℕ → Content) (ms : List Move) (b : Batch) : Type 0 where
    pub host : Host M
    pub ran : run_from M known limit 1 ms (empty M opening) ≡ made host
    pub batch : batch_written M objects host ≡ b

  pub recorded-wrote : (objects : ℕ) (opening : ℕ → Content) (ms : List Move) (b : Batch) →
      recorded M known limit objects opening ms ≡ made b → Wrote objects opening ms b
  recorded-wrote objects opening ms b e = at (run_from M known limit 1 ms (empty M opening)) refl e
    where
      at : (x : Result (Host M)) → run_from M known limit 1 ms (empty M opening) ≡ x →
          and_then x (λ h. made (batch_written M objects h)) ≡ made b → Wrote objects opening ms b
      at (fault number line) d c = clash (cc)
      at (made h) d c = record { host = h; ran = d; batch = cc }

  pub wrote-keeps : (I : List Move → Host M → Type 0) (P : Move → Type 0) →
      ((h h' : Host M) (m : Move) (ms : List Move) → P m → Did h m h' → I (m ∷ ms) h → I ms h') →
      (objects : ℕ) (opening : ℕ → Content) (ms : List Move) (b : Batch) (w : Wrote objects opening ms b) → All P ms →
      I ms (empty M opening) → I [] w.host
  wrote-keeps I P k objects opening ms b w a i = run-keeps I P k ms a 1 (empty M opening) w.host i w.ran

  -- ── demand 3 ──
  module _ (objects : ℕ) (within : Within M objects) (opening : ℕ → Content) where
    abbrev Keeps : List Move → Host M → Type 0
    Keeps ms h = Faithful M known objects opening h.state h.trace

    did-faithful : (h h' : Host M) (m : Move) → Did h m h' → Keeps [] h → Keeps [] h'
    did-faithful h h' m (arrives-now r prog a b k e) f = faithful-arrive M known objects opening h.state h.trace r prog a b f e k
    did-faithful h h' m (operates r p k o e a l) f =
        faithful-operate M known objects opening h.state h.trace r p k o f e a (within p o a)
    did-faithful h h' m (replies r p k t v e a) f = faithful-reply M known objects opening h.state h.trace r p k t v f e a
    did-faithful h h' m (rests r w n e) f = f

    wrote-demand : (ms : List Move) (b : Batch) → Wrote objects opening ms b → Demand3 M opening known b
    wrote-demand ms b w = subst (Demand3 M opening known) w.batch (record {
      lines4 = (row4-order known w.host.trace).1 (f.in_order, f.programs);
      ofs6 = (row6-matching (batch_written M objects w.host)).1 (ofs-matching M w.host.state w.host.trace 0);
      allowed = faithful-allowed M known objects opening w.host.state w.host.trace f;
    })
      where
        f : Keeps [] w.host
        f = wrote-keeps Keeps (λ m. Unit {0}) (λ h h' m ms _ d. did-faithful h h' m d) objects opening ms b w
            (all_any (λ m. Unit {0}) (λ m. tt) ms) (faithful-empty M known objects opening)

    pub recorded-demand : (ms : List Move) (b : Batch) → recorded M known limit objects opening ms ≡ made b → Demand3 M opening known b
    recorded-demand ms b e = wrote-demand ms b (recorded-wrote objects opening ms b e)

    pub recorded-accepted : (ms : List Move) (b : Batch) → recorded M known limit objects opening ms ≡ made b →
        audit M opening known b ≡ verdict 0 0
    recorded-accepted ms b e = (audit-demand M opening known b).1 (recorded-demand ms b e)

    -- the operations are counted as log lines
    abbrev Few : List Move → Host M → Type 0
    Few ms h = (length (logs_from h.state.logs 0 objects) ≡ h.operations) × (h.operations ≤ limit)

    did-few : (h h' : Host M) (m : Move) → Did h m h' → Few [] h → Few [] h'
    did-few h h' m (arrives-now r prog a b k e) f = f
    did-few h h' m (operates r p k o e a l) f =
        let s = h.state in
        let w = one-longer s.logs o.object (line_now M s r (suc k) o) 0 objects (omega arith) (omega (arith, within p o a)) in
        (w ∙ ap suc f.0, l)
    did-few h h' m (replies r p k t v e a) f = f
    did-few h h' m (rests r w n e) f = f

    pub wrote-few : (ms : List Move) (b : Batch) → Wrote objects opening ms b → length b.log ≤ limit
    wrote-few ms b w = subst (λ b. length b.log ≤ limit) w.batch (omega (arith, f.0, f.1))
      where
        f : Few [] w.host
        f = wrote-keeps Few (λ m. Unit {0}) (λ h h' m ms _ d. did-few h h' m d) objects opening ms b w
            (all_any (λ m. Unit {0}) (λ m. tt) ms) (ap length (no-logs 0 objects), omega arith)
