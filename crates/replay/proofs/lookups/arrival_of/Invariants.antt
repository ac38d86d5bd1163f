-- The events passed are not its request.
use Rattle.std.proofs.Common.{◌≡◌, drop}
use Rattle.replay.specs.Promises.{arrival_of}
use Rattle.replay.proofs.lookups.arrival_of.Given as goal

abbrev pub invariant-loop-event : goal.invariant-loop-event
invariant-loop-event l = arrival_of (drop l.event-index l.events) l.rid ≡ arrival_of l.events l.rid
