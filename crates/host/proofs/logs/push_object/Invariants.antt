-- The object's lines among those looked at have joined.
use Rattle.std.proofs.Common.{◌≡◌, ◌++◌, take}
use Rattle.model.specs.Batch.{log_of}
use Rattle.host.proofs.logs.push_object.Given as goal

abbrev pub invariant-loop-l : goal.invariant-loop-l
invariant-loop-l l = l.sorted.items ≡ l.initial.sorted.items ++ log_of l.object (take l.l-index l.log)
