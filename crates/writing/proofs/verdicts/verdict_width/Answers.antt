-- `verdict_width` meets its contract.
use Rattle.std.proofs.Common.{arith}
use Rattle.lines.proofs.LineTexts.{numbers_apart}
use Rattle.writing.proofs.VerdictTexts.{verdict-length}
use Rattle.writing.proofs.verdicts.verdict_width.Goals as goal

pub returns-clause-value : goal.returns-clause-value
returns-clause-value c =
    let a = c.args in
    omega (arith, verdict-length a.verdict a.line, c.numbers_width.ensures.value, numbers_apart)
