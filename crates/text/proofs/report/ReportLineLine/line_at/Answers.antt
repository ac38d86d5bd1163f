-- The line is of the kind that is tried first, or of the other.
use Rattle.std.proofs.Common.{rules}
use Rattle.text.proofs.LineKinds.{second-tried}
use Rattle.text.proofs.TextKinds.{of-told, log-told, report-apart}
use Rattle.text.proofs.report.ReportLineLine.line_at.Goals as goal

pub returns : goal.returns
returns c = second-tried of-told log-told report-apart _ _ _ c.or_else.result c.log_at.ensures (search rules)
