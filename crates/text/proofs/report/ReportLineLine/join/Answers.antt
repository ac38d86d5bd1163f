-- A line joins where there is room for it.
use Rattle.std.proofs.Common.{sym, ◌∙◌}
use borrow.Author.Tests.{eqb-true}
use Rattle.text.proofs.ReportReading.{of-joins, log-joins}
use Rattle.text.proofs.report.ReportLineLine.join.Goals as goal

pub returns-then-is_empty : goal.returns-then-is_empty
returns-then-is_empty c = λ at end h l k.
    let t = c.try_push.ensures in
    rw (c.in-Group.is, c.is_ok.ensures.value)
    (of-joins _ _ _ _ _ t.variant t.ok (eqb-true _ _ (sym c.is_empty.ensures ∙ c.if-is_empty.true)))

pub returns-then-is_operation : goal.returns-then-is_operation
returns-then-is_operation c = λ at end h l k.
    let t = c.try_push-then-is_operation.ensures in
    rw (c.in-Log.is, c.is_ok-then-is_operation.ensures.value)
    (log-joins _ _ _ _ _ t.variant t.ok (sym c.is_operation.ensures ∙ c.if-is_operation.true))
