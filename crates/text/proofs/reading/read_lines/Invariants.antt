-- What was read of the lines before the place is held, and the place moves on.
use Rattle.std.proofs.Common.{length, ◌-◌}
use Rattle.text.proofs.ReadLines.{Reading}
use Rattle.text.proofs.reading.read_lines.Given as goal

abbrev pub invariant-loop-at : goal.invariant-loop-at
invariant-loop-at g l =
    Reading g.L.Line.kinds g.L.Line.nothing l.s (g.L.Line.held l.into l.beside) l.line l.at × g.L.Line.kept l.into l.beside l.at

abbrev pub decreases-loop-at : goal.decreases-loop-at
decreases-loop-at g l = length l.s - l.at
