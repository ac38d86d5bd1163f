-- What the audit comes to on three texts: theorems about `audit_of`, which is what `audit` gives for every input. Each is proved by one
-- citation.
use Prim.Native.Nat.{ℕ, ◌+◌, ◌*◌, ◌<◌, ◌≤◌}
use mathlib.Core.List.{List, [], ◌∷◌, ◌++◌}
use mathlib.Core.Logic.{◌↔◌, ◌≢◌}
use mathlib.Core.Path.{◌≡◌, refl}
use lib.ListN.{length}
use Rattle.basics.specs.Count.{count}
use Rattle.lines.specs.Bytes.{bytes}
use Rattle.lines.specs.LineText.{line_text}
use Rattle.text.specs.Programs.{read_programs}
use Rattle.text.specs.Report.{no_lines, read_report}
use Rattle.text.specs.Trace.{is_request, read_trace}
use Rattle.writing.specs.Verdict.{verdict_text}
use Rattle.model.specs.Checks.{first_fault, contents}
use Rattle.machine.specs.Objects.{at_start}
use Rattle.verifier.specs.Accepts.{Accepts}
use Rattle.verifier.specs.Faults.{checks_of, audited, audit_of}
use Rattle.verifier.specs.Order.{order_of, order_text}
use Rattle.verifier.specs.OrderRead.{OrderRead}
use Rattle.verifier.specs.Printed.{audited_text, printed_text, most_order}
use Rattle.verifier.specs.Returns.{OrderReturns}
use Rattle.verifier.proofs.Acceptance.{audit-accepts, audit-returns, audit-refuses, audit-charges}
use Rattle.verifier.proofs.OrderRanges.{order-most}
use Rattle.verifier.proofs.OrderReads.{order-read, order-none}

module _ (programs trace report : List ℕ) where
  -- Demand 2: the first of the rows that holds is the verdict, with its line, and 0 where none does; then the counts are those of the texts.
  pub meaning : audit_of programs trace report
      ≡ audited
      (first_fault (checks_of at_start (read_programs programs) (read_trace trace) (read_report report)))
      (count is_request (contents [] (read_trace trace)))
      (length (contents no_lines (read_report report)).log)
  unfolding audit_of
  meaning = refl

  -- A refusal's counts are 0.
  pub refused :
      let a = audit_of programs trace report in
      a.verdict ≢ 0 → (a.requests ≡ 0) × (a.operations ≡ 0) × (a.blocks ≡ 0) × (a.rest ≡ 0)
  refused = audit-refuses programs trace report

  -- P2, the bill: blocks are the whole hundreds of the operations, and rest is what is left over, of a refusal and of no operations too.
  pub bill :
      let a = audit_of programs trace report in
      (100 * a.blocks + a.rest ≡ a.operations) × (a.rest < 100)
  bill = audit-charges programs trace report

  -- Demand 3: verdict 0 exactly when the texts are readable, keep the rules, and an order exists whose plain run gives every response, count
  -- and log.
  pub exactly : ((audit_of programs trace report).verdict ≡ 0) ↔ Accepts programs trace report
  exactly = audit-accepts programs trace report

  -- Verdict 9 exactly when no row from 1 to 8 holds and a chain of "comes before" returns to its start.
  pub verdict-9 : ((audit_of programs trace report).verdict ≡ 9) ↔ OrderReturns programs trace report
  verdict-9 = audit-returns programs trace report

  -- What is printed: the six verdict lines, refused or not, and then the lines of the order.
  pub printed :
      let a = audit_of programs trace report in
      printed_text programs trace report
      ≡ ((line_text (bytes "verdict=") (a.verdict ∷ []) ++ line_text (bytes "line=") (a.line ∷ []))
      ++ (line_text (bytes "requests=") (a.requests ∷ []) ++ (line_text (bytes "operations=") (a.operations ∷ [])
      ++ (line_text (bytes "blocks=") (a.blocks ∷ []) ++ line_text (bytes "rest=") (a.rest ∷ [])))))
      ++ order_text 1 (order_of programs trace report)
  unfolding printed_text audited_text verdict_text
  printed = refl

  -- P1: the order that is printed of an accepted batch is allowed by demand 3, has every trace event and every operation once, and is by the
  -- rule: of the items whose forerunners are all printed, an operation goes before an event, and of several operations the one with the
  -- smallest report line number is next. No other order is by the rule.
  pub order : (audit_of programs trace report).verdict ≡ 0 → OrderRead programs trace report (order_of programs trace report)
  order = order-read programs trace report

  -- A refusal has no order.
  pub no-order : (audit_of programs trace report).verdict ≢ 0 → order_of programs trace report ≡ []
  no-order = order-none programs trace report

  -- The lines of an order fit into `most_order` bytes.
  pub room : length (order_text 1 (order_of programs trace report)) ≤ most_order
  room = order-most programs trace report
