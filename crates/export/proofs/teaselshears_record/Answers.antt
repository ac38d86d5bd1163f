-- `teaselshears_record` meets its contract: the numbers of the run in front of out and its texts in front of the buffers, or nothing.
use Rattle.export.proofs.Rooms.{not-handed, record-handed, handed-accepted}
use Rattle.export.proofs.teaselshears_record.Goals as goal

pub returns-then-out-lt4-clause-meaning : goal.returns-then-out-lt4-clause-meaning
returns-then-out-lt4-clause-meaning c = not-handed _ _ _ _ c.if-out-lt4.true

pub returns-clause-meaning : goal.returns-clause-meaning
returns-clause-meaning c = record-handed _ _ _ _ _ _ _ _ c.record-r.ensures.meaning c.fill.ensures c.if-out-lt4.false

pub returns-clause-accepted : goal.returns-clause-accepted
returns-clause-accepted c = λ e z. handed-accepted _ _ _ _ _ _ _ c.fill.ensures c.record-r.ensures.accepted z
