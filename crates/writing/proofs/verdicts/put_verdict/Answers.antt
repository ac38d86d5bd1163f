-- `put_verdict` meets its contract: after each line, what is left to write.
use Rattle.std.proofs.Common.{◌≤◌, length, arith}
use Rattle.lines.proofs.Puts.{put-short, put-fits}
use Rattle.lines.proofs.Writing.{writing_start, writing-as, writing-done, writing-append}
use Rattle.writing.specs.Verdict.{verdict_text}
use Rattle.writing.proofs.VerdictTexts.{verdict-pieces}
use Rattle.writing.proofs.verdicts.put_verdict.Goals as goal

pub returns-then-out-verdict_width : goal.returns-then-out-verdict_width
returns-then-out-verdict_width c = put-short _ _ (omega (arith, c.verdict_width.ensures.value))

pub returns : goal.returns
returns c =
    let a = c.args in
    let room : length (verdict_text a.verdict a.line) ≤ length a.out.now = omega (arith, c.verdict_width.ensures.value) in
    let start = writing-as (verdict-pieces a.verdict a.line) (writing_start _ _ room) in
    let one = writing-append _ _ _ _ start c.append_line-at.ensures in
    let two = writing-append _ _ _ _ one c.append_line.ensures in
    let d = writing-done two (omega arith) in
    put-fits _ _ _ _ room d.0 d.1
