use Rattle.verifier.proofs.Verdicts.{promised}
use Rattle.verifier.proofs.audits.audit.Goals as goal

pub returns-clause-exactly : goal.returns-clause-exactly
returns-clause-exactly c = (promised _ _ _ _ c.audit_order.ensures.meaning).1
