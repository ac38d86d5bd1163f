-- So far the order is that of all items, and what is left of the merge goes on from there.
use Rattle.ordering.proofs.Merging.{Merging}
use Rattle.ordering.proofs.merge.Given as goal

abbrev pub invariant-loop-k : goal.invariant-loop-k
invariant-loop-k l = Merging l.lane l.request l.number l.n l.initial.out l.after l.out l.head l.stage l.k
