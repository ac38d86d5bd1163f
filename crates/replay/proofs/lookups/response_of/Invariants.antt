-- The events passed are not its response.
use Rattle.std.proofs.Common.{◌≡◌, drop}
use Rattle.model.specs.Replay.{response_of}
use Rattle.replay.proofs.lookups.response_of.Given as goal

abbrev pub invariant-loop-event : goal.invariant-loop-event
invariant-loop-event l = response_of (drop l.event-index l.events) l.rid ≡ response_of l.events l.rid
