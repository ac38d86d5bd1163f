use Rattle.std.proofs.Common.{arith, ◌≡◌, ◌+◌}
use Rattle.replay.specs.Held.{batch_held}
use Rattle.verifier.specs.Steps.{size_of}
use Rattle.verifier.proofs.OrderFilling.{put-none, put-no-room, put-placed}
use Rattle.verifier.proofs.orders.put_numbers.Goals as goal

pub returns-then-items-eq0 : goal.returns-then-items-eq0
returns-then-items-eq0 c = λ items is.
    put-none _ _ items is _ (omega (arith, c.len.ensures.value, c.len-2.ensures.value)) c.if-items-eq0.true

pub returns-then-out-items : goal.returns-then-out-items
returns-then-out-items c = λ items is.
    put-no-room _ _ items is _ (omega (arith, c.len.ensures.value, c.len-2.ensures.value)) c.if-out-items.true

pub returns : goal.returns
returns c = λ items is.
    put-placed _ _ items is _ (omega (arith, c.len.ensures.value, c.len-2.ensures.value)) c.if-out-items.false _
    (omega (arith, c.len.ensures.fits, c.len-2.ensures.fits, c.order_items.array_long)) c.order_items.ensures _ c.fill_items.ensures
