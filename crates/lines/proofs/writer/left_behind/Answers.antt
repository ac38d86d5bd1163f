-- `left_behind` meets its contract.
use Rattle.std.proofs.Common.{ap, ◌∙◌, length, arith, rules}
use Rattle.lines.proofs.LineTexts.{numbers-step, numbers-done, no-room, room}
use Rattle.lines.proofs.writer.left_behind.Goals as goal

pub returns-in_err-left : goal.returns-in_err-left
returns-in_err-left c =
    let l = c.loop-v in
    let h = c.in_err-left.ensures in
    c.from_residual.ensures ∙ no-room _ _ (omega (arith, numbers-step c.args.numbers.now l.v-index (search rules), c.width.ensures.value))

pub loop-v-preserved : goal.loop-v-preserved
loop-v-preserved c =
    let h = c.in_ok-left.ensures in
    omega (arith, numbers-step c.args.numbers.now c.loop-v.v-index (search rules), c.width.ensures.value)

pub returns : goal.returns
returns c = room _ _ _ (omega (arith, ap length (numbers-done c.args.numbers.now c.loop-v.v-index (search rules))))
