-- `put_audited` meets its contract: after each line, what is left to write.
use Rattle.std.proofs.Common.{◌≤◌, length, arith}
use Rattle.lines.proofs.Puts.{put-short, put-fits}
use Rattle.lines.proofs.Writing.{writing_start, writing-as, writing-done, writing-put-first, writing-append}
use Rattle.verifier.specs.Printed.{audited_text}
use Rattle.verifier.proofs.PrintedLines.{printed-pieces}
use Rattle.verifier.proofs.printing.put_audited.Goals as goal

pub returns-then-out-audited_width : goal.returns-then-out-audited_width
returns-then-out-audited_width c = put-short _ _ (omega (arith, c.audited_width.ensures.value))

pub returns : goal.returns
returns c =
    let a = c.args in
    let room : length (audited_text a.a) ≤ length a.out.now = omega (arith, c.audited_width.ensures.value) in
    let start = writing-as (printed-pieces a.a) (writing_start _ _ room) in
    let verdict = writing-put-first _ _ _ _ _ start c.put_verdict.ensures c.unwrap_or-at.ensures in
    let requests = writing-append _ _ _ _ verdict c.append_line-at.ensures in
    let operations = writing-append _ _ _ _ requests c.append_line-at-2.ensures in
    let blocks = writing-append _ _ _ _ operations c.append_line-at-3.ensures in
    let rest = writing-append _ _ _ _ blocks c.append_line-at-4.ensures in
    let d = writing-done rest (omega arith) in
    put-fits _ _ _ _ room d.0 d.1
