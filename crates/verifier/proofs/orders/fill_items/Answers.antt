use Rattle.std.proofs.Common.{rules, arith, length}
use Rattle.replay.specs.Held.{batch_held}
use Rattle.verifier.proofs.OrderFilling.{Filling, filling-start, filling-length, filling-operation, filling-event, filling-done}
use Rattle.verifier.proofs.orders.fill_items.Goals.{in-Some, in-None}
use Rattle.verifier.proofs.orders.fill_items.Goals as goal

pub loop-i-init : goal.loop-i-init
loop-i-init c = filling-start _ _ _ c.requires

pub overflow_add-line : goal.overflow_add-line
overflow_add-line c = omega (arith, c.loop-i.invariant.few, c.loop-i.invariant.some)

pub loop-i-preserved : goal.loop-i-preserved
loop-i-preserved c =
    let here = c.loop-i in
    let log = c.deref.ensures.0 in
    elim c.match-get.branch [
      | in-Some w ↦ let found = w.in-Some.ensures.lookup in
          rw w.line-is (filling-operation _ _ _ _ _ _ here.invariant c.loop-i-test.true _ c.from.ensures _ log _ found.0 found.1 _ w.out-is)
      | in-None w ↦ rw w.line-is (filling-event _ _ _ _ _ _ here.invariant c.loop-i-test.true _ c.from.ensures _ log w.in-None.ensures.lookup.0 _ w.out-is)
    ]

pub returns : goal.returns
returns c = filling-done _ _ _ _ _ _ c.loop-i.invariant (omega (arith, c.loop-i-test.false))
