-- The items below i, put before the heads so far, give what all items give.
use Rattle.std.proofs.Common.{◌≡◌}
use Rattle.ordering.specs.Heads.{link_from, link_of}
use Rattle.ordering.proofs.link.Given as goal

abbrev pub invariant-loop-i : goal.invariant-loop-i
invariant-loop-i l = link_from l.lane l.i l.head l.after ≡ link_of l.lane l.n l.initial.head l.initial.after
