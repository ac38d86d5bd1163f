-- The events and the `of` lines passed go together.
use Rattle.rows.proofs.ReportScans.{Matching}
use Rattle.rows.proofs.reports.row_6.Given as goal

abbrev pub invariant-loop-event : goal.invariant-loop-event
invariant-loop-event l = Matching l.events l.ofs l.event-index l.j
