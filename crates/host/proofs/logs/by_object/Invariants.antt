-- The lines of the objects looked at are sorted.
use Rattle.std.proofs.Common.{◌≡◌}
use Rattle.model.specs.Host.{logs_from}
use Rattle.host.specs.Steps.{lines_of}
use Rattle.host.proofs.logs.by_object.Given as goal

abbrev pub invariant-loop-object : goal.invariant-loop-object
invariant-loop-object l = l.sorted.items ≡ logs_from (lines_of l.log) 0 l.object
