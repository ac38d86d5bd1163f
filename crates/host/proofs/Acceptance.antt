-- Demand 3 for the host, on texts: what it writes reads back as the batch that the run made, and the audit accepts it.
use Prim.Native.Nat.{ℕ}
use mathlib.Core.List.{List, []}
use mathlib.Core.Logic.{◌↔◌}
use mathlib.Core.Option.{Option, none, some}
use mathlib.Core.Path.{◌≡◌, refl, sym, ap, subst, ◌∙◌}
use native.Mathlib.Omega.{arith}
use borrow.Author.Tests.{le-ltb}
use lib.ListN.{length}
use Rattle.basics.specs.Count.{count}
use Rattle.basics.proofs.Tests.{clash}
use Rattle.text.specs.Programs.{read_programs, known}
use Rattle.text.specs.Schedule.{read_schedule}
use Rattle.text.specs.Trace.{is_request}
use Rattle.model.specs.Batch.{Batch}
use Rattle.model.specs.Checks.{fault_or, bad_line, contents}
use Rattle.model.specs.Host.{Result, fault, made, and_then}
use Rattle.model.proofs.Main.{host-accepted}
use Rattle.model.proofs.Scans.{passes, read-fine}
use Rattle.machine.specs.Instance.{machine_of}
use Rattle.machine.specs.Objects.{at_start}
use Rattle.machine.specs.Processes.{limit}
use Rattle.machine.specs.Rules.{row2}
use Rattle.machine.proofs.Bounds.{within}
use Rattle.verifier.specs.Faults.{audited, audit_of}
use Rattle.verifier.proofs.Acceptance.{audit-of-read}
use Rattle.host.specs.Accepted.{acceptance, Accepted}
use Rattle.host.specs.Recorded.{row16, run_of, batch_from, result_of, batch_recorded, Texts, texts_of, fitted, record_of, RecordIs}
use Rattle.host.specs.Records.{Ran, Records}
use Rattle.host.specs.declared.Recorded.{Recorded}
use Rattle.host.proofs.Fronts.{trace-front, report-front}
use Rattle.host.proofs.Readings.{programs-words, schedule-in}
use Rattle.host.proofs.ReadBack.{start-fit, trace-short, trace-read, report-short, report-read}
use Rattle.host.proofs.Numbering.{Numbered, record-numbered}

-- ── the checks ──

-- what was made came from what was made before
record Through {A B : Type 0} (x : Result A) (f : A → Result B) (y : B) : Type 0 where
  from : A
  before : x ≡ made from
  behind : f from ≡ made y

through : {A B : Type 0} (x : Result A) (f : A → Result B) (y : B) → and_then x f ≡ made y → Through x f y
through (fault number line) f y e = clash (cc)
through (made a) f y e = record { from = a; before = refl; behind = e }

-- a row did not hold of what was made
past : {A : Type 0} (k : ℕ) (o : Option ℕ) (x : Result A) (y : A) → fault_or fault k o x ≡ made y → (o ≡ none) × (x ≡ made y)
past k none x y e = (refl, e)
past k (some n) x y e = clash (cc)

ran : (programs schedule : List ℕ) (b : Batch) → batch_recorded programs schedule ≡ made b → Ran programs schedule b
unfolding batch_recorded
ran programs schedule b e =
    let p = read_programs programs in
    let s = read_schedule schedule in
    let e1 = past 1 (bad_line p) _ b e in
    let e2 = past 2 (row2 (contents [] p)) _ b e1.1 in
    let e13 = past 13 (bad_line s) _ b e2.1 in
    record {
      table = contents [] p;
      table_read = read-fine [] p e1.0;
      rules = e2.0;
      moves = contents [] s;
      moves_read = read-fine [] s e13.0;
      run = e13.1;
    }

module _ (programs schedule : List ℕ) (b : Batch) (e : batch_recorded programs schedule ≡ made b) where
  batch-accepted : audit_of programs (texts_of b).trace (texts_of b).report ≡ acceptance b
  batch-accepted =
      let r = ran programs schedule b e in
      let w = programs-words programs r.table r.table_read in
      let s = schedule-in schedule r.moves r.moves_read in
      audit-of-read programs (texts_of b).trace (texts_of b).report
      (record {
        table = r.table;
        table_read = r.table_read;
        events = b.trace;
        events_read = trace-read r.table w at_start start-fit r.moves s b r.run;
        lines = record { ofs = b.ofs; log = b.log };
        lines_read = report-read r.table w at_start start-fit r.moves s b r.run;
        rules = r.rules;
      })
      ∙ ap (λ v. audited v (count is_request b.trace) (length b.log))
      (host-accepted (machine_of r.table) at_start (known r.table) 1024 16 (within limit r.table) r.moves b r.run)

  -- buffers as long as a text may be are never too short
  pub never-short : record_of programs schedule 65535 65535 ≡ made (texts_of b)
  unfolding record_of
  never-short =
      let r = ran programs schedule b e in
      let w = programs-words programs r.table r.table_read in
      let s = schedule-in schedule r.moves r.moves_read in
      rw (
        e,
        le-ltb 65535 (length (texts_of b).trace) (trace-short r.table w at_start start-fit r.moves s b r.run),
        le-ltb 65535 (length (texts_of b).report) (report-short r.table w at_start start-fit r.moves s b r.run),
      )
      refl

-- ── no check finds a fault ──
module _ (programs schedule : List ℕ) (m n : ℕ) where
  abbrev fitting : Result Batch → Result Texts
  fitting x = and_then x (λ b. fitted m n (texts_of b))

  -- what was read and run, of what was made
  made-records : (t : Texts) → record_of programs schedule m n ≡ made t → Records programs schedule m n
  unfolding record_of
  made-records t e =
      let b = through (batch_recorded programs schedule) (λ b. fitted m n (texts_of b)) t e in
      record {
        batch = b.from;
        ran = ran programs schedule b.from b.before;
        fits = (past 16 (row16 m n (texts_of b.from)) (made (texts_of b.from)) t b.behind).0;
      }

  module _ (x : Records programs schedule m n) where
    records-batch : batch_recorded programs schedule ≡ made x.batch
    unfolding batch_recorded
    records-batch =
        let r = x.ran in
        (λ i. batch_from at_start (r.table_read i) (r.moves_read i))
        ∙ sym (passes fault 2 (row2 r.table) (run_of at_start r.table r.moves) r.rules)
        ∙ r.run

    pub records-made : record_of programs schedule m n ≡ made (texts_of x.batch)
    unfolding record_of
    records-made =
        ap fitting records-batch ∙ sym (passes fault 16 (row16 m n (texts_of x.batch)) (made (texts_of x.batch)) x.fits)

    pub records-accepted : audit_of programs (texts_of x.batch).trace (texts_of x.batch).report ≡ acceptance x.batch
    records-accepted = batch-accepted programs schedule x.batch records-batch

  pub records-exactly : ((result_of (record_of programs schedule m n)).verdict ≡ 0) ↔ Records programs schedule m n
  records-exactly = (
    λ z. by (record_of programs schedule m n) refl (record-numbered programs schedule m n) z,
    λ x. ap (λ y. (result_of y).verdict) (records-made x),
  )
    where
      by : (x : Result Texts) → record_of programs schedule m n ≡ x → Numbered x → (result_of x).verdict ≡ 0 → Records programs schedule m n
      by (fault number line) e h z = absurd (omega (arith, h, z))
      by (made t) e h z = made-records t e

-- Demand 3 for the host: on verdict 0 the audit of what it wrote is verdict 0, with its counts.
module _ (programs schedule trace report trace_after report_after : List ℕ) (r : Recorded) where
  abbrev made_of : Result Texts
  made_of = record_of programs schedule (length trace) (length report)

  pub record-accepted : RecordIs made_of trace report trace_after report_after r → r.verdict ≡ 0 →
      Accepted programs schedule trace_after report_after r
  record-accepted i z =
      let m = length trace in
      let n = length report in
      let x = (records-exactly programs schedule m n).0 (sym (ap (λ r. r.verdict) i.result) ∙ z) in
      let w = subst (λ y. RecordIs y trace report trace_after report_after r) (records-made programs schedule m n x) i in
      let t = trace-front w in
      let p = report-front w in
      record {
        batch = x.batch;
        run = records-batch programs schedule m n x;
        audited = (λ k. audit_of programs (t k) (p k)) ∙ records-accepted programs schedule m n x;
      }
