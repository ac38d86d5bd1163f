-- Nothing is held.
use Rattle.text.proofs.ScheduleReading.{no-moves}
use Rattle.text.proofs.schedule.Schedule.clear.Goals as goal

pub returns-clause-moves : goal.returns-clause-moves
returns-clause-moves c = (no-moves _ c.clear.ensures c.clear-2.ensures).0

pub returns-clause-kept : goal.returns-clause-kept
returns-clause-kept c = (no-moves _ c.clear.ensures c.clear-2.ensures).1
