-- `teaselshears_audit_text` meets its contract: what the program prints in front of out, or nothing.
use Rattle.verifier.proofs.PrintedLines.{text-some}
use Rattle.export.proofs.Prints.{printed-is}
use Rattle.export.proofs.teaselshears_audit_text.Goals as goal

pub returns : goal.returns
returns c = printed-is _ _ _ _ _ (text-some _ _ _) c.audit_text.ensures.printed c.unwrap_or.ensures
