-- The first i items stand in the arrays.
use Rattle.replay.specs.Held.{batch_held}
use Rattle.replay.specs.Promises.{ItemsTo}
use Rattle.replay.proofs.orders.put_items.Given as goal

abbrev pub invariant-loop-i : goal.invariant-loop-i
invariant-loop-i l = ItemsTo (batch_held l.batch) l.i l.items
