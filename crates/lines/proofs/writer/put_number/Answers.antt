-- `put_number` meets its contract.
use Rattle.std.proofs.Common.{arith}
use Rattle.lines.proofs.Puts.{put-short, put-filled}
use Rattle.lines.proofs.writer.put_number.Goals as goal

pub returns-then-out-width : goal.returns-then-out-width
returns-then-out-width c = put-short _ _ (omega arith)

pub returns : goal.returns
returns c = let f = c.fill_number in put-filled _ _ _ _ f.auto.out f.ensures.value f.ensures.out_after
