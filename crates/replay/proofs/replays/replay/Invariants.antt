-- The definition at where the request stands gives what it gives at the start.
use Rattle.std.proofs.Common.{◌-◌}
use Rattle.replay.proofs.Replaying.{Going}
use Rattle.replay.proofs.replays.replay.Given as goal

abbrev pub invariant-loop-done : goal.invariant-loop-done
invariant-loop-done l =
    Going l.claims l.x.rid l.x.count l.is_open l.code l.initial.l l.l l.at l.done l.positions.items l.k l.most

abbrev pub decreases-loop-done : goal.decreases-loop-done
decreases-loop-done l = 256 - l.done
