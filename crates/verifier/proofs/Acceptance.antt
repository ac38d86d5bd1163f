-- Verdicts 0 and 9 of texts: exactly where the texts are accepted, and exactly where their order returns to itself. And the counts of a
-- result: those of a refusal, and the bill.
use Prim.Native.Nat.{ℕ, ◌+◌, ◌*◌, ◌<◌}
use mathlib.Core.Bool.{false}
use mathlib.Core.List.{List, [], ◌∷◌}
use mathlib.Core.Logic.{◌↔◌, ◌≢◌}
use mathlib.Core.Path.{◌≡◌, refl, sym, ap, ◌∙◌, subst}
use native.Mathlib.Omega.{arith}
use lib.Dec.{eqb}
use lib.ListN.{length}
use Rattle.basics.specs.Lists.{All}
use Rattle.basics.specs.Count.{count}
use Rattle.basics.proofs.Tests.{eqb_no}
use Rattle.text.specs.Programs.{read_programs, known}
use Rattle.text.specs.Report.{no_lines, read_report}
use Rattle.text.specs.Text.{readable}
use Rattle.text.specs.Trace.{is_request, read_trace}
use Rattle.model.specs.Audit.{from4, audit}
use Rattle.model.specs.Batch.{batch_of}
use Rattle.model.specs.Checks.{verdict, Verdict, first_fault, bad_line, contents}
use Rattle.model.specs.Requests.{row4}
use Rattle.model.proofs.Audited.{audit-rows}
use Rattle.model.proofs.Main.{audit-exactly, row-9, line-of-0, line-of-9}
use Rattle.model.proofs.Scans.{passes, passed, read-fine}
use Rattle.machine.specs.Rules.{row2}
use Rattle.machine.specs.Instance.{machine_of}
use Rattle.machine.specs.Objects.{at_start}
use Rattle.verifier.specs.Accepts.{Accepts}
use Rattle.verifier.specs.Faults.{checks_of, audited, audited_of, audit_of}
use Rattle.verifier.specs.Readings.{Readings, opening}
use Rattle.verifier.specs.Returns.{OrderReturns}
use Rattle.verifier.specs.declared.Audited.{Audited}

module _ (programs trace report : List ℕ) where
  -- the model's audit of what was read
  abbrev verdict_of : Readings programs trace report → Verdict
  verdict_of x = audit (machine_of x.table) (opening x) (known x.table) (batch_of x.events x.lines)

  -- is that of the texts,
  pub audit-of-read : (x : Readings programs trace report) →
      audit_of programs trace report ≡ audited (verdict_of x) (count is_request x.events) (length x.lines.log)
  unfolding audit_of
  audit-of-read x =
      let v : verdict_of x ≡ first_fault (checks_of (opening x) (readable x.table) (readable x.events) (readable x.lines)) =
      sym (audit-rows (machine_of x.table) (opening x) (known x.table) x.events x.lines)
      ∙ passes verdict 2 (row2 x.table) _ x.rules in
      (λ i. audited_of (opening x) (x.table_read i) (x.events_read i) (x.lines_read i))
      ∙ sym (ap (λ v. audited v (count is_request x.events) (length x.lines.log)) v)

  -- and texts with a verdict of none of the rows 1 to 5 were read
  texts-read : (n : ℕ) → All (λ k. eqb k n ≡ false) (1 ∷ 2 ∷ 3 ∷ 4 ∷ 5 ∷ []) → (audit_of programs trace report).verdict ≡ n →
      (x : Readings programs trace report) × ((verdict_of x).number ≡ n)
  unfolding audit_of
  texts-read n d e =
      let p = read_programs programs in
      let t = read_trace trace in
      let r = read_report report in
      let table = contents [] p in
      let events = contents [] t in
      let e1 = passed 1 (bad_line p) _ n d.0 e in
      let e2 = passed 2 (row2 table) _ n d.1.0 e1.1 in
      let e3 = passed 3 (bad_line t) _ n d.1.1.0 e2.1 in
      let e4 = passed 4 (row4 (known table) events) _ n d.1.1.1.0 e3.1 in
      let e5 = passed 5 (bad_line r) _ n d.1.1.1.1.0 e4.1 in
      let lines = read-fine no_lines r e5.0 in (
        record {
          table = table;
          table_read = read-fine [] p e1.0;
          events = events;
          events_read = read-fine [] t e3.0;
          lines = contents no_lines r;
          lines_read = lines;
          rules = e2.0;
        },
        ap (λ v. v.number) (sym (audit-rows (machine_of table) at_start (known table) events (contents no_lines r)))
            ∙ subst (λ r. (first_fault (from4 (machine_of table) at_start (known table) events r)).number ≡ n) lines e3.1,
      )

  -- such a verdict is that of what was read
  verdict-read : (n : ℕ) → All (λ k. eqb k n ≡ false) (1 ∷ 2 ∷ 3 ∷ 4 ∷ 5 ∷ []) →
      ((audit_of programs trace report).verdict ≡ n) ↔ ((x : Readings programs trace report) × ((verdict_of x).number ≡ n))
  verdict-read n d = (texts-read n d, λ h. ap (λ r. r.verdict) (audit-of-read h.0) ∙ h.1)

  pub audit-accepts : ((audit_of programs trace report).verdict ≡ 0) ↔ Accepts programs trace report
  audit-accepts =
      let zero = verdict-read 0 (refl, (refl, (refl, (refl, (refl, tt))))) in (
        λ e.
            let h = zero.0 e in
            let table = h.0.table in
            let v = line-of-0 (machine_of table) (opening h.0) (known table) _ h.1 in
            record { texts = h.0; demand = (audit-exactly (machine_of table) (opening h.0) (known table) _).0 v },
        λ a.
            let table = a.texts.table in
            zero.1 (a.texts, ap (λ v. v.number) ((audit-exactly (machine_of table) (opening a.texts) (known table) _).1 a.demand)),
      )

  pub audit-returns : ((audit_of programs trace report).verdict ≡ 9) ↔ OrderReturns programs trace report
  audit-returns =
      let nine = verdict-read 9 (refl, (refl, (refl, (refl, (refl, tt))))) in (
        λ e.
            let h = nine.0 e in
            let table = h.0.table in
            let w = (row-9 (machine_of table) (opening h.0) (known table) _).0 (line-of-9 (machine_of table) (opening h.0) (known table) _ h.1) in
            record { texts = h.0; none_to_8 = w.0; returns = w.1 },
        λ a.
            let table = a.texts.table in
            nine.1 (a.texts, ap (λ v. v.number) ((row-9 (machine_of table) (opening a.texts) (known table) _).1 (a.none_to_8, a.returns))),
      )

-- ── the counts ──
refusal-counts : (v : Verdict) (requests operations : ℕ) → v.number ≢ 0 →
    let a = audited v requests operations in
    (a.requests ≡ 0) × (a.operations ≡ 0) × (a.blocks ≡ 0) × (a.rest ≡ 0)
refusal-counts v requests operations h = (rw (eqb_no h) refl, rw (eqb_no h) refl, rw (eqb_no h) refl, rw (eqb_no h) refl)

module _ (programs trace report : List ℕ) where
  abbrev found : Audited
  found = audit_of programs trace report

  pub audit-refuses : found.verdict ≢ 0 → (found.requests ≡ 0) × (found.operations ≡ 0) × (found.blocks ≡ 0) × (found.rest ≡ 0)
  unfolding audit_of
  audit-refuses h = refusal-counts (first_fault (checks_of at_start (read_programs programs) (read_trace trace) (read_report report))) _ _ h

  -- blocks and rest make up the operations
  pub audit-charges : (100 * found.blocks + found.rest ≡ found.operations) × (found.rest < 100)
  unfolding audit_of
  audit-charges = (omega arith, omega arith)
