-- The orders of a batch's items, as the merge takes them.
use Rattle.std.specs.Prelude.{List}
use Rattle.ordering.specs.Order.{IsOrder}
use Rattle.model.specs.Batch.{Batch, Node, count_of}
use Rattle.model.specs.Nodes.{lane, rid, num, nodes}

-- an order of all items, each lane in its sequence and each request by its numbers
abbrev pub OrderOf : Batch → List Node → Type 0
OrderOf b order = IsOrder lane rid (num (count_of b.ofs)) (λ r. 0) (nodes b) order
