-- No line above j claims the operation, and line j is in its bucket.
use Rattle.std.proofs.Common.{◌-◌, length}
use Rattle.replay.proofs.Links.{Walking}
use Rattle.replay.proofs.claims.Claims.line_of.Given as goal

abbrev pub invariant-loop-entry : goal.invariant-loop-entry
invariant-loop-entry l = Walking l.self.log l.rid l.num l.j

abbrev pub decreases-loop-entry : goal.decreases-loop-entry
decreases-loop-entry l = length l.self.log - l.j
