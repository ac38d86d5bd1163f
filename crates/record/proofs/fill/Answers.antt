-- What is printed has room, so it stands in front.
use Rattle.std.proofs.Common.{◌∙◌, arith}
use Rattle.lines.proofs.Puts.{put_whole}
use Rattle.record.proofs.fill.Goals as goal

pub returns-clause-count : goal.returns-clause-count
returns-clause-count c =
    let put = c.record_text.ensures in
    c.unwrap_or.ensures ∙ (put_whole _ _ _ _ put.printed (omega (arith, put.most))).0

pub returns-clause-bytes : goal.returns-clause-bytes
returns-clause-bytes c =
    let put = c.record_text.ensures in
    (put_whole _ _ _ _ put.printed (omega (arith, put.most))).1
