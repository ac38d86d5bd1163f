-- Where the verdict is 0, the audit accepts what was written.
use Rattle.host.proofs.Acceptance.{record-accepted}
use Rattle.host.proofs.records.record.Goals as goal

pub returns-in-Ok-clause-accepted : goal.returns-in-Ok-clause-accepted
returns-in-Ok-clause-accepted c = record-accepted _ _ _ _ _ _ _ c.in-Ok.ensures

pub returns-in-Err-clause-accepted : goal.returns-in-Err-clause-accepted
returns-in-Err-clause-accepted c =
    rw (c.numbers-verdict.ensures.number, c.numbers-verdict.ensures.line) (record-accepted _ _ _ _ _ _ _ c.in-Err.ensures)
