-- The line is of the kind that is tried first, or of the other.
use Rattle.std.proofs.Common.{rules}
use Rattle.text.proofs.LineKinds.{second-tried}
use Rattle.text.proofs.TextKinds.{program-told, do-told, programs-apart}
use Rattle.text.proofs.programs.ProgramLineLine.line_at.Goals as goal

pub returns : goal.returns
returns c = second-tried program-told do-told programs-apart _ _ _ c.or_else.result c.do_at.ensures (search rules)
