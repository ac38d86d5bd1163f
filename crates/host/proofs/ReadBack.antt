-- What the run of a schedule makes is in the ranges of the texts' fields, so its texts are short enough and read back as what was made.
use Prim.Native.Nat.{ℕ, suc, ◌≤◌}
use mathlib.Core.Bool.{Bool, true, false, cond}
use mathlib.Core.List.{List, [], ◌∷◌}
use mathlib.Core.Path.{◌≡◌, refl, subst}
use native.Mathlib.Omega.{arith}
use lib.ListN.{length}
use Rattle.std.specs.Prelude.{None}
use Rattle.basics.specs.Lists.{All}
use Rattle.basics.specs.Count.{count}
use Rattle.basics.proofs.Lists.{all-imp}
use Rattle.text.specs.Programs.{known}
use Rattle.text.specs.Report.{Report, read_report}
use Rattle.text.specs.Written.{OfIn, EntryIn, EventIn}
use Rattle.text.specs.Text.{readable}
use Rattle.text.specs.Trace.{is_request, read_trace}
use Rattle.text.specs.declared.programs.Program.{Program}
use Rattle.text.specs.declared.report.Entry.{Entry}
use Rattle.text.specs.declared.report.Of.{Of}
use Rattle.text.specs.declared.schedule.Move.TheVariants.{Arrive, Turn}
use Rattle.text.specs.declared.schedule.Move.{Move}
use Rattle.text.specs.declared.trace.Event.TheVariants.{Request, Response}
use Rattle.text.specs.declared.trace.Event.{Event}
use Rattle.text.proofs.CodeLaws.{operation-code}
use Rattle.text.proofs.RoundTrip.{trace-back, report-back, trace-bound, report-bound}
use Rattle.text.proofs.Ranges.{events-length}
use Rattle.model.specs.Batch.{Batch}
use Rattle.model.specs.Bounds.{Bounded}
use Rattle.model.specs.Host.{made, ofs_from}
use Rattle.model.specs.Machine.{Machine}
use Rattle.model.specs.PlainRun.{Phase}
use Rattle.model.specs.Ranges.{FitEvent, FitEntry, FitOf, FitMove, FitBatch}
use Rattle.model.proofs.Main.{host-in-range}
use Rattle.model.proofs.Recorded.{recorded-wrote}
use Rattle.machine.specs.Instance.{code_at, machine_of}
use Rattle.machine.specs.Objects.{Content, register, store, reads, is_register, at_start}
use Rattle.machine.specs.Processes.{limit, instr_at}
use Rattle.machine.proofs.Bounds.{Word, FitContent, finds-fit, within, bounded}
use Rattle.host.specs.Recorded.{run_of, texts_of}
use Rattle.host.proofs.Readings.{MoveIn, ScheduleIn}

-- ── numbers of lines ──
ofs-length : (M : Machine) (phase : ℕ → Phase M) (n : ℕ) (es : List Event) → length (ofs_from M phase n es) ≡ count is_request es
ofs-length M phase n [] = refl
ofs-length M phase n (Request r prog a b ∷ es) = omega (arith, ofs-length M phase (suc n) es)
ofs-length M phase n (Response r status value ∷ es) = omega (arith, ofs-length M phase n es)

-- ── what the run makes is in the ranges of the texts' fields ──
-- the objects at the start
pub start-fit : (o : ℕ) → FitContent (at_start o)
start-fit o x = by (is_register o)
  where
    by : (b : Bool) → Word (reads x (cond b (register 0) (store (λ key. None))))
    by true = omega arith
    by false = finds-fit x None (omega arith)

abbrev Rid : ℕ → Type 0
Rid r = r ≤ 65535

-- programs whose constants are numbers of 64 bits
module _ (table : List Program) (words : (prog at : ℕ) → Word (instr_at (code_at table prog) at).b) where
  abbrev M : Machine
  M = machine_of table

  abbrev B : Bounded M
  B = bounded limit table words

  move-fit : (m : Move) → MoveIn m → FitMove M B Rid m
  move-fit (Arrive r prog a b) h = (h.0, (h.1.0, (h.1.1.0, h.1.1.1)))
  move-fit (Turn r) h = tt

  event-in : (e : Event) → FitEvent M B Rid e → EventIn e
  event-in (Request r prog a b) h = (
    record { below = h.0; fits = omega (arith, h.0) },
    (
      record { below = omega (arith, h.1.0); fits = h.1.0 },
      (
        record { below = omega (arith, h.1.1.0); fits = h.1.1.0 },
        (record { below = omega (arith, h.1.1.1); fits = h.1.1.1 }, tt),
      ),
    ),
  )
  event-in (Response r status value) h = (
    record { below = h.0; fits = omega (arith, h.0) },
    (
      record { below = h.1.0; fits = omega (arith, h.1.0) },
      (record { below = omega (arith, h.1.1); fits = h.1.1 }, tt),
    ),
  )

  entry_in : (l : Entry) → FitEntry M B Rid l → EntryIn l
  entry_in l h =
      let f = h.2 in
      let k = operation-code l.op.kind f.1 in
      record {
        fields = (
          record { below = omega (arith, f.0); fits = omega (arith, f.0) },
          (
            record { below = h.0; fits = omega (arith, h.0) },
            (
              record { below = h.1; fits = omega (arith, h.1) },
              (
                record { below = omega arith; fits = omega arith },
                (
                  record { below = omega (arith, f.2); fits = f.2 },
                  (record { below = omega (arith, f.3); fits = f.3 }, tt),
                ),
              ),
            ),
          ),
        );
        operation = f.1;
      }

  of-in : (n : ℕ) → n ≤ 64 → (x : Of) → FitOf M B Rid n x → OfIn x
  of-in n k x h = (
    record { below = h.0; fits = omega (arith, h.0) },
    (
      record { below = omega (arith, h.1); fits = omega (arith, h.1) },
      (record { below = h.2; fits = omega (arith, h.2) }, tt),
    ),
  )

  -- what the run of a schedule made, and the texts of it, read back
  module _ (opening : ℕ → Content) (start-fit : (o : ℕ) → FitContent (opening o)) (ms : List Move) (s : ScheduleIn ms) (b : Batch)
      (e : run_of opening table ms ≡ made b) where
    fit : FitBatch M B Rid 1024 ms b
    fit =
        host-in-range M opening (known table) 1024 16 (within limit table) B Rid start-fit ms
        (all-imp MoveIn (FitMove M B Rid) move-fit ms s.moves) b e

    few-ofs : length b.ofs ≤ 64
    few-ofs =
        let w = recorded-wrote M (known table) 1024 16 opening ms b e in
        let n = ofs-length M w.host.state.phase 0 w.host.trace in
        let k : length b.ofs ≡ count is_request b.trace = subst (λ b. length b.ofs ≡ count is_request b.trace) w.batch n in
        omega (arith, k, fit.requests, s.few)

    trace-in : All EventIn b.trace
    trace-in = all-imp (FitEvent M B Rid) EventIn event-in b.trace fit.events

    pub trace-short : length (texts_of b).trace ≤ 65535
    trace-short = omega (arith, trace-bound b.trace trace-in, events-length b.trace, fit.requests, fit.responses, s.few)

    pub trace-read : read_trace (texts_of b).trace ≡ readable b.trace
    trace-read =
        trace-back b.trace trace-in
        (omega (arith, fit.requests, s.few))
        (omega (arith, fit.responses, s.few))
        trace-short

    abbrev report : Report
    report = record { ofs = b.ofs; log = b.log }

    ofs-in : All OfIn b.ofs
    ofs-in =
        all-imp (FitOf M B Rid (count is_request b.trace)) OfIn (of-in (count is_request b.trace) (omega (arith, fit.requests, s.few))) b.ofs
        fit.ofs

    log-in : All EntryIn b.log
    log-in = all-imp (FitEntry M B Rid) EntryIn entry_in b.log fit.lines

    pub report-short : length (texts_of b).report ≤ 65535
    report-short = omega (arith, report-bound report ofs-in log-in, few-ofs, fit.operations)

    pub report-read : read_report (texts_of b).report ≡ readable report
    report-read = report-back report ofs-in log-in few-ofs fit.operations report-short
