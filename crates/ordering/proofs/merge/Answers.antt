-- The merge of new arrays, and the one that stops since no head is next in its request.
use Rattle.std.proofs.Common.{rules}
use Rattle.ordering.proofs.Links.{linked_of}
use Rattle.ordering.proofs.Merging.{merging_start, merging_stop}
use Rattle.ordering.proofs.merge.Goals as goal

pub loop-k-init : goal.loop-k-init
loop-k-init c =
    merging_start _ _ _ _ _ _ _ (search rules) (search rules) (search rules)
    (linked_of _ _ _ _ (search rules) (search rules) c.link.ensures.heads c.link.ensures.afters)

pub returns-in_default : goal.returns-in_default
returns-in_default c =
    merging_stop _ _ _ _ _ _ _ _ _ _ _ (search rules) c.loop-k.invariant c.in_default.ensures.smallest
