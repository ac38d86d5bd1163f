use Rattle.replay.specs.Held.{batch_held}
use Rattle.verifier.proofs.OrderFilling.{Filling}
use Rattle.verifier.proofs.orders.fill_items.Given as goal

abbrev pub invariant-loop-i : goal.invariant-loop-i
invariant-loop-i l = Filling (batch_held l.batch) l.order l.fn.out l.out l.line l.i
