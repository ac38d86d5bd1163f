-- The lines from i on are linked.
use Rattle.replay.specs.Index.{LinkedFrom}
use Rattle.replay.proofs.claims.link.Given as goal

abbrev pub invariant-loop-i : goal.invariant-loop-i
invariant-loop-i l = LinkedFrom l.log.items l.i l.heads l.afters
