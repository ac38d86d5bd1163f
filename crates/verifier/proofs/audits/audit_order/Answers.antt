use Rattle.std.proofs.Common.{◌≡◌, sym, ap, ◌∙◌}
use Rattle.verifier.proofs.OrderFilling.{put-refused}
use Rattle.verifier.proofs.OrderReads.{order-read}
use Rattle.verifier.proofs.audits.audit_order.Goals as goal

pub returns-in-Ok-clause-read : goal.returns-in-Ok-clause-read
returns-in-Ok-clause-read c = λ z. order-read _ _ _ (sym (ap (λ a. a.verdict) c.in-Ok.ensures.0) ∙ z)

pub returns-in-Err-clause-order : goal.returns-in-Err-clause-order
returns-in-Err-clause-order c = let f = c.in-Err.ensures in put-refused _ _ _ _ _ _ _ f.0 f.1 f.2
