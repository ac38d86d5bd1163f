-- The line is of the kind that is tried first, or of the other.
use Rattle.std.proofs.Common.{rules}
use Rattle.text.proofs.LineKinds.{first-tried}
use Rattle.text.proofs.TextKinds.{request-told, response-told, trace-apart}
use Rattle.text.proofs.trace.EventLine.line_at.Goals as goal

pub returns : goal.returns
returns c = first-tried request-told response-told trace-apart _ _ _ c.or_else.result c.request_at.ensures (search rules)
