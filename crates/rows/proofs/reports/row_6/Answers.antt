-- `row_6` meets its contract.
use Rattle.rows.proofs.ReportScans.{match-over}
use Rattle.rows.proofs.reports.row_6.Goals as goal

pub returns-then-j-ofs : goal.returns-then-j-ofs
returns-then-j-ofs c = match-over _ _ _ _ c.loop-event.invariant c.loop-event-test.false c.if-j-ofs.true
