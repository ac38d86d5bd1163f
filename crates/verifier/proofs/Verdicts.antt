-- The audit from row 1 on, as it reads one text after the other.
use Prim.Native.Nat.{ℕ}
use Prim.Native.Nat.{◌/◌, ◌%◌}
use mathlib.Core.Bool.{Bool, true, cond}
use mathlib.Core.List.{List, []}
use Rattle.basics.proofs.Tests.{eqb_no}
use mathlib.Core.Logic.{◌↔◌, ◌≢◌}
use mathlib.Core.Option.{none, some}
use mathlib.Core.Path.{◌≡◌, refl, sym, ap, ◌∙◌}
use native.Mathlib.Omega.{arith}
use lib.ListN.{length}
use Rattle.basics.proofs.Firsts.{firsts-length}
use Rattle.text.specs.Held.{program_at, table_in}
use Rattle.text.specs.Programs.{read_programs}
use Rattle.text.specs.Report.{Report, read_report}
use Rattle.text.specs.Text.{Read, readable, unreadable}
use Rattle.text.specs.Trace.{read_trace}
use Rattle.text.specs.declared.programs.Program.{Program}
use Rattle.text.specs.declared.programs.Programs.{Programs}
use Rattle.text.specs.declared.trace.Event.{Event}
use Rattle.model.specs.Audit.{from8}
use Rattle.model.specs.Batch.{batch_of}
use Rattle.model.specs.Checks.{Verdict, verdict, first_fault, bad_line, contents}
use Rattle.model.proofs.Scans.{holds, passes}
use Rattle.machine.specs.Instance.{machine_of}
use Rattle.machine.specs.Objects.{Content, at_start}
use Rattle.machine.specs.Rules.{row2}
use Rattle.replay.specs.Judges.{Ready}
use Rattle.text.specs.Programs.{known}
use Rattle.verifier.specs.Accepts.{Accepts}
use Rattle.verifier.specs.Faults.{checks_of, audited, audited_of, audit_of}
use Rattle.verifier.specs.Order.{order_of}
use Rattle.verifier.specs.Readings.{Readings}
use Rattle.verifier.specs.Steps.{refusal, audited_trace, ProgramsHeld, BatchHeld, OrderIs}
use Rattle.verifier.specs.declared.Audited.{Audited}
use Rattle.verifier.proofs.Acceptance.{audit-accepts}
use Rattle.verifier.proofs.OrderRanges.{order-length}
use Rattle.verifier.proofs.OrderReads.{order-of-read}
use Rattle.verifier.proofs.Rows4To7.{counted, lines, rows4}
use Rattle.verifier.proofs.Rows8To12.{judged, no-row-9, ordered}

-- ── rows 1 to 3 ──
module _ (opening : ℕ → Content) (table : List Program) (trace : Read (List Event)) (report : Read Report) where
  abbrev events : List Event
  events = contents [] trace

  abbrev rows1 : Verdict
  rows1 = first_fault (checks_of opening (readable table) trace report)

  abbrev counted_all : Verdict → Audited
  counted_all = counted opening table events (lines opening table events report)

  rules-broken : (line : ℕ) → row2 table ≡ some line → refusal 2 line ≡ audited_of opening (readable table) trace report
  rules-broken line e = let v : verdict 2 line ≡ rows1 = holds verdict 2 (row2 table) _ line e in ap counted_all v

  module _ (d : row2 table ≡ none) where
    trace-bad : (line : ℕ) → trace ≡ unreadable line → refusal 3 line ≡ audited_of opening (readable table) trace report
    trace-bad line e =
        let v : verdict 3 line ≡ rows1 = holds verdict 3 (bad_line trace) _ line (ap bad_line e) ∙ passes verdict 2 (row2 table) _ d in
        ap counted_all v

    trace-read : (x : List Event) → trace ≡ readable x → audited_trace opening table x report ≡ audited_of opening (readable table) trace report
    trace-read x e =
        let v : rows4 opening table events report ≡ rows1 = passes verdict 3 (bad_line trace) _ (ap bad_line e) ∙ passes verdict 2 (row2 table) _ d in
        ap (λ y. audited_trace opening table (contents [] y) report) (sym e) ∙ ap counted_all v

-- a refusal by rows 1 and 2 is that of any trace and any report
module _ (s : List ℕ) (opening : ℕ → Content) (trace : Read (List Event)) (report : Read Report) where
  pub refused-1 : (line : ℕ) → read_programs s ≡ unreadable line → refusal 1 line ≡ audited_of opening (read_programs s) trace report
  refused-1 line e = ap (λ p. audited_of opening p trace report) (sym e)

  pub refused-2 : (table : List Program) → read_programs s ≡ readable table → (line : ℕ) → row2 table ≡ some line →
      refusal 2 line ≡ audited_of opening (read_programs s) trace report
  refused-2 table e line r = rules-broken opening table trace report line r ∙ ap (λ p. audited_of opening p trace report) (sym e)

-- ── from row 3 on ──
pub audited-texts : (s trace report : List ℕ) →
    audited_of at_start (read_programs s) (read_trace trace) (read_report report) ≡ audit_of s trace report
unfolding audit_of
audited-texts s trace report = refl

module _ (s trace report : List ℕ) (ps : Programs) (h : ProgramsHeld s ps) where
  whole-text : audited_of at_start (readable (table_in ps)) (read_trace trace) (read_report report) ≡ audit_of s trace report
  whole-text = ap (λ p. audited_of at_start p (read_trace trace) (read_report report)) (sym h.read) ∙ audited-texts s trace report

  pub refused-3 : (line : ℕ) → read_trace trace ≡ unreadable line → refusal 3 line ≡ audit_of s trace report
  refused-3 line e = trace-bad at_start (table_in ps) (read_trace trace) (read_report report) h.rules line e ∙ whole-text

  module _ (events : List Event) (e : read_trace trace ≡ readable events) where
    past-3 : audited_trace at_start (table_in ps) events (read_report report) ≡ audit_of s trace report
    past-3 = trace-read at_start (table_in ps) (read_trace trace) (read_report report) h.rules events e ∙ whole-text

    -- a refusal by rows 4 to 7, which is that of as many programs
    pub refused-4-to-7 : (row line : ℕ) →
        ((opening : ℕ → Content) (table : List Program) → length table ≡ ps.n → refusal row line ≡ audited_trace opening table events (read_report report)) →
        refusal row line ≡ audit_of s trace report
    refused-4-to-7 row line g = g at_start (table_in ps) (firsts-length (program_at ps.table) ps.n) ∙ past-3

    module _ (lines : Report) (b : BatchHeld ps.n report events lines) where
      -- all three texts were read
      abbrev readings : Readings s trace report
      readings = record {
        table = table_in ps;
        table_read = h.read;
        events = events;
        events_read = e;
        lines = lines;
        lines_read = b.read;
        rules = h.rules;
      }

      -- v is the first fault of rows 8 to 12
      module _ (v : Verdict)
          (j : (known : ℕ → Bool) → Ready known (batch_of events lines) → v ≡ first_fault (from8 (machine_of ps.table) at_start (batch_of events lines))) where
        found : audited v (length lines.ofs) (length lines.log) ≡ audit_of s trace report
        found = judged s ps h events lines report b at_start v j ∙ past-3

        pub refused-8-to-12 : v.number ≢ 0 → refusal v.number v.line ≡ audit_of s trace report
        refused-8-to-12 z = ap (λ (t : Bool). let n = cond t (length lines.log) 0 in record {
          verdict = v.number;
          line = v.line;
          requests = cond t (length lines.ofs) 0;
          operations = n;
          blocks = n / 100;
          rest = n % 100;
        }) (sym (eqb_no z)) ∙ found

        module _ (z : v ≡ verdict 0 0) where
          pub accepted : audited (verdict 0 0) (length lines.ofs) (length lines.log) ≡ audit_of s trace report
          accepted = ap (λ v. audited v (length lines.ofs) (length lines.log)) (sym z) ∙ found

          pub order-is : OrderIs (batch_of events lines) (order_of s trace report)
          order-is =
              let a : (audit_of s trace report).verdict ≡ 0 = sym (ap (λ x. x.verdict) accepted) in
              let n9 = no-row-9 s ps h events lines report b at_start v j (ap (λ v. v.number) z) in
              record {
                all = order-length s trace report a readings;
                placed = λ order m o. ordered s ps h events lines report b n9 order m o ∙ sym (order-of-read s trace report a readings);
              }

-- both promises of the audit
pub promised : (s trace report : List ℕ) (r : Audited) → r ≡ audit_of s trace report →
    (r ≡ audit_of s trace report) × ((r.verdict ≡ 0) ↔ Accepts s trace report)
promised s trace report r e = (e, rw e (audit-accepts s trace report))
