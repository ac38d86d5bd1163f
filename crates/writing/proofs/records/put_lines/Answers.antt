-- `put_lines` meets its contract.
use Rattle.std.proofs.Common.{arith}
use Rattle.lines.proofs.Puts.{put-short, put-filled}
use Rattle.writing.proofs.records.put_lines.Goals as goal

pub returns-then-out-widths : goal.returns-then-out-widths
returns-then-out-widths g c = put-short _ _ (omega (arith, c.widths.ensures.value))

pub returns : goal.returns
returns g c = let f = c.fill in put-filled _ _ _ _ f.auto.out f.ensures.value f.ensures.out_after
