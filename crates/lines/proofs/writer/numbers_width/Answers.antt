-- `numbers_width` meets its contract.
use Rattle.std.proofs.Common.{take, length, ap, ◌∙◌, arith, rules}
use Rattle.std.proofs.lemmas.List.{take_min}
use Rattle.lines.specs.LineText.{numbers_text}
use Rattle.lines.proofs.LineTexts.{numbers-step, numbers-done}
use Rattle.lines.proofs.writer.numbers_width.Goals as goal

pub loop-v-preserved : goal.loop-v-preserved
loop-v-preserved c =
    let s = numbers-step (take c.min.result c.args.numbers.now) c.loop-v.v-index (search rules) in
    omega (arith, s, c.width.ensures.value)

pub returns-clause-value : goal.returns-clause-value
returns-clause-value c =
    let vs = c.args.numbers.now in
    let e = ap length (numbers-done (take c.min.result vs) c.loop-v.v-index (search rules)) in
    let m = ap (λ n. length (numbers_text (take n vs))) c.min.ensures ∙ ap (λ l. length (numbers_text l)) (take_min 6 vs) in
    omega (arith, e, m)
