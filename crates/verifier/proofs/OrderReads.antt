-- The order of an accepted batch is what `OrderRead` asks for, and a refused one has none.
use Prim.Native.Nat.{ℕ}
use mathlib.Core.Bool.{Bool, cond}
use mathlib.Core.List.{List, [], map}
use mathlib.Core.Logic.{◌≢◌}
use mathlib.Core.Path.{◌≡◌, refl, sym, ap, ◌∙◌}
use Rattle.basics.specs.Lists.{All}
use Rattle.basics.proofs.Tests.{eqb_yes, eqb_no}
use Rattle.text.specs.Programs.{known}
use Rattle.text.specs.Report.{Report, no_lines, read_report}
use Rattle.text.specs.Text.{readable}
use Rattle.text.specs.Trace.{read_trace}
use Rattle.text.specs.declared.trace.Event.{Event}
use Rattle.model.specs.Audit.{audit}
use Rattle.model.specs.Batch.{Batch, batch_of, count_of}
use Rattle.model.specs.ByRule.{item_of, ByRule}
use Rattle.model.specs.Checks.{verdict, contents}
use Rattle.model.specs.Nodes.{merge_of}
use Rattle.model.specs.Orders.{OrderOf}
use Rattle.model.proofs.Audited.{audit-accepted}
use Rattle.model.proofs.Claims.{Counted}
use Rattle.model.proofs.Main.{line-of-0, printed, printed-is-allowed, by_rule, rule-is-allowed}
use Rattle.machine.specs.Instance.{machine_of}
use Rattle.verifier.specs.Faults.{audit_of}
use Rattle.verifier.specs.Order.{batch_read, order_of}
use Rattle.verifier.specs.OrderRead.{OrderRead}
use Rattle.verifier.specs.Readings.{Readings, opening}
use Rattle.verifier.proofs.Acceptance.{audit-of-read, audit-accepts}

module _ (programs trace report : List ℕ) where
  pub order-none : (audit_of programs trace report).verdict ≢ 0 → order_of programs trace report ≡ []
  unfolding order_of
  order-none h = ap (λ (t : Bool). cond t (map item_of (merge_of (batch_read trace report)).0) []) (eqb_no h)

  order-merged : (events : List Event) (lines : Report) → (audit_of programs trace report).verdict ≡ 0 →
      read_trace trace ≡ readable events → read_report report ≡ readable lines →
      order_of programs trace report ≡ map item_of (merge_of (batch_of events lines)).0
  unfolding order_of
  order-merged events lines e t r =
      ap (λ (t : Bool). cond t (map item_of (merge_of (batch_read trace report)).0) []) (eqb_yes e)
      ∙ (λ i. map item_of (merge_of (batch_of (contents [] (t i)) (contents no_lines (r i)))).0)

  -- ── verdict 0, and what was read ──
  module _ (e : (audit_of programs trace report).verdict ≡ 0) (x : Readings programs trace report) where
    abbrev batch : Batch
    batch = batch_of x.events x.lines

    pub order-of-read : order_of programs trace report ≡ map item_of (merge_of (batch_of x.events x.lines)).0
    order-of-read = order-merged x.events x.lines e x.events_read x.lines_read

    -- the model's audit accepts it
    pub accepts-read : audit (machine_of x.table) (opening x) (known x.table) (batch_of x.events x.lines) ≡ verdict 0 0
    accepts-read =
        line-of-0 (machine_of x.table) (opening x) (known x.table) batch
        (ap (λ r. r.verdict) (sym (audit-of-read programs trace report x)) ∙ e)

    -- the merge's order is one of all items
    pub merge-order : OrderOf (batch_of x.events x.lines) (merge_of (batch_of x.events x.lines)).0
    merge-order =
        let order = (merge_of batch).0 in
        let g = (printed (machine_of x.table) (opening x) (known x.table) batch accepts-read order).1 refl in
        (printed-is-allowed (machine_of x.table) (opening x) (known x.table) batch accepts-read order g).0

    -- and row 7 leaves no operation without its number
    pub lines-counted : All (Counted (count_of x.lines.ofs)) x.lines.log
    lines-counted = ((audit-accepted (machine_of x.table) (opening x) (known x.table) batch).0 accepts-read).passes.reported.counted

  pub order-read : (audit_of programs trace report).verdict ≡ 0 → OrderRead programs trace report (order_of programs trace report)
  order-read e =
      let x = ((audit-accepts programs trace report).0 e).texts in
      let order = (merge_of (batch e x)).0 in
      let rule = by_rule (machine_of x.table) (opening x) (known x.table) (batch e x) (accepts-read e x) in
      let first : ByRule (batch e x) order = (rule order).1 refl in
      let allowed = rule-is-allowed (machine_of x.table) (opening x) (known x.table) (batch e x) (accepts-read e x) order first in
      let same = sym (order-of-read e x) in
      record {
        texts = x;
        allowed = allowed.0;
        allows = allowed.1 ∙ same;
        items = order;
        stands_for = same;
        by_rule = first;
        only = λ other r. (rule other).0 r;
      }
