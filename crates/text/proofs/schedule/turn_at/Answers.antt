-- A turn's rid takes two bytes.
use Rattle.std.proofs.Common.{arith}
use Rattle.lines.specs.Place.{found_in}
use Rattle.text.proofs.ScheduleReading.{turn-fits}
use Rattle.text.proofs.schedule.turn_at.Goals as goal

pub overflow_cast-result : goal.overflow_cast-result
unfolding found_in
overflow_cast-result c = omega (arith, turn-fits _ _ _ _ c.in_ok-v.ensures)
