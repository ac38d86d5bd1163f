-- `replay` meets its contract.
use Rattle.std.proofs.Common.{arith}
use Rattle.replay.proofs.Replaying.{going-no-further, going-moved, going-over, going-wrong, going-right, going-replied}
use Rattle.replay.proofs.replays.replay.Goals as goal

pub loop-done-preserved-in-Goes : goal.loop-done-preserved-in-Goes
loop-done-preserved-in-Goes c =
    rw c.push.ensures.items
    (going-moved _ _ _ _ _ _ _ _ _ _ _ _ c.loop-done.invariant c.loop-done-test.true _ _ c.carry_out.ensures _ c.in-Goes.is)

pub returns-then-x-k : goal.returns-then-x-k
returns-then-x-k c =
    rw c.push.ensures.items
    (going-over _ _ _ _ _ _ _ _ _ _ _ _ c.loop-done.invariant c.loop-done-test.true _ _ c.carry_out.ensures
    _ _ c.in-Asks.is c.if-x-k.true _ _ c.first_locals-l.ensures)

pub returns-in_err-v-in-Asks : goal.returns-in_err-v-in-Asks
returns-in_err-v-in-Asks c =
    rw c.push.ensures.items
    (going-wrong _ _ _ _ _ _ _ _ _ _ _ _ c.loop-done.invariant c.loop-done-test.true _ _ c.carry_out.ensures
    _ _ c.in-Asks.is c.if-x-k.false _ c.answer_of.ensures c.in_err-v-in-Asks.was _ c.from_residual.ensures
    _ _ c.first_locals-l.ensures)

pub loop-done-preserved : goal.loop-done-preserved
loop-done-preserved c =
    rw (c.resume.ensures, c.push.ensures.items)
    (going-right _ _ _ _ _ _ _ _ _ _ _ _ c.loop-done.invariant c.loop-done-test.true _ _ c.carry_out.ensures
    _ _ c.in-Asks.is c.if-x-k.false _ _ c.answer_of.ensures c.in_ok-v-in-Asks.was _ c.most_of-most-in-Asks.ensures)

pub returns-in-Replies : goal.returns-in-Replies
returns-in-Replies c =
    rw c.push.ensures.items
    (going-replied _ _ _ _ _ _ _ _ _ _ _ _ c.loop-done.invariant c.loop-done-test.true _ _ c.carry_out.ensures
    _ c.in-Replies.is _ c.stopped.ensures _ _ c.first_locals-l.ensures)

pub returns : goal.returns
returns c =
    going-no-further _ _ _ _ _ _ _ _ _ _ _ _ c.loop-done.invariant (omega arith) _ c.unreplied.ensures _ c.stopped-2.ensures
    _ _ c.first_locals-l.ensures
