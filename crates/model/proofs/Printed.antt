-- The order that the merge makes: exactly one order takes at each step the first item that waits for none that is left, and it is allowed.
use mathlib.Core.List.{List, []}
use mathlib.Core.Logic.{◌↔◌}
use mathlib.Core.Path.{◌≡◌}
use Rattle.basics.specs.Lists.{Neighbours}
use Rattle.basics.specs.Chain.{Chain, one}
use Rattle.basics.proofs.Chains.{chain-map}
use Rattle.ordering.specs.Before.{ComesBefore}
use Rattle.ordering.specs.FirstFree.{Greedy}
use Rattle.ordering.proofs.FirstFree.{takes_same, only-order}
use Rattle.model.specs.Batch.{Batch, count_of, Node}
use Rattle.model.specs.Nodes.{lane, rid, num, nodes, merge_of}
use Rattle.model.specs.Precedes.{Precedes, Leads}
use Rattle.model.proofs.Claims.{Reported}
use Rattle.model.proofs.Items.{whole}
use Rattle.model.proofs.Precedes.{before, precedes, neighbours-agree}
use Rattle.model.proofs.Trace.{Formed}

pub printed-order : (b : Batch) → Formed b → Reported b → (merge_of b).1 ≡ [] → (order : List Node) →
    Greedy (Leads b) (nodes b) order ↔ (order ≡ (merge_of b).0)
printed-order b f h e order =
    let o = only-order lane rid (num (count_of b.ofs)) (nodes b) (whole b f h) e order in (
      λ g. o.0 (takes_same (Leads b) R (λ y x. chain-map to) (λ y x. chain-map from) order (nodes b) [] g),
      λ i. takes_same R (Leads b) (λ y x. chain-map from) (λ y x. chain-map to) order (nodes b) [] (o.1 i),
    )
  where
    R : Node → Node → Type 0
    R = Chain (ComesBefore lane rid (num (count_of b.ofs)) (nodes b))

    to : (y x : Node) → Precedes Neighbours b y x → R y x
    to y x p = one (before b h (neighbours-agree b h) y x p)

    from : (y x : Node) → ComesBefore lane rid (num (count_of b.ofs)) (nodes b) y x → Leads b y x
    from y x p = one (precedes b h (neighbours-agree b h) y x p)
