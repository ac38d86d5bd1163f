-- The line is of the kind that is tried first, or of the other.
use Rattle.std.proofs.Common.{rules}
use Rattle.text.proofs.LineKinds.{second-tried}
use Rattle.text.proofs.TextKinds.{arrive-told, turn-told, schedule-apart}
use Rattle.text.proofs.schedule.ScheduleLineLine.line_at.Goals as goal

pub returns : goal.returns
returns c = second-tried arrive-told turn-told schedule-apart _ _ _ c.or_else.result c.turn_at.ensures (search rules)
