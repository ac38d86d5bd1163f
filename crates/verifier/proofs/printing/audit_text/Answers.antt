-- `audit_text` meets its contract.
use Rattle.std.proofs.Common.{ℕ, replicate}
use Rattle.std.proofs.lemmas.List.{length-replicate}
use Rattle.verifier.proofs.PrintedLines.{text-most, text-put}
use Rattle.verifier.proofs.printing.audit_text.Goals as goal

pub returns-clause-printed : goal.returns-clause-printed
returns-clause-printed c =
    let r = c.audit_order-ordered.ensures in
    text-put _ _ _ _ r.meaning (replicate 2304 0) _ _ _ (length-replicate {A = ℕ} 2304 0) r.order c.unwrap_or-numbers.ensures _ _ _
    c.put_printed.ensures.put_is

pub returns-clause-most : goal.returns-clause-most
returns-clause-most c = text-most _ _ _ _ c.audit_order-ordered.ensures.meaning c.put_printed.ensures.a_len_bound
