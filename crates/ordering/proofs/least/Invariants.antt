-- The search so far, gone on with from this lane, is the search over all heads.
use Rattle.ordering.proofs.Search.{Searching}
use Rattle.ordering.proofs.least.Given as goal

abbrev pub invariant-loop-lane : goal.invariant-loop-lane
invariant-loop-lane l = Searching l.request l.number l.stage l.head l.n l.lane l.limit l.found
