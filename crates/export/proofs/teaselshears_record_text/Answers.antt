-- `teaselshears_record_text` meets its contract: what the program prints in front of out, or nothing.
use Rattle.host.proofs.PrintedTexts.{printed-some}
use Rattle.export.proofs.Prints.{printed-is}
use Rattle.export.proofs.teaselshears_record_text.Goals as goal

pub returns : goal.returns
returns c = printed-is _ _ _ _ _ (printed-some _) c.record_text.ensures.printed c.unwrap_or.ensures
