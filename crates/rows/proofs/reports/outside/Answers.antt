-- `outside` meets its contract.
use Rattle.std.proofs.Common.{sym, ◌∙◌, arith}
use Rattle.basics.proofs.Tests.{eqb_no}
use Rattle.rows.proofs.ReportScans.{slot-none, slot-is}
use Rattle.rows.proofs.reports.outside.Goals as goal

pub returns-then-s-ofs : goal.returns-then-s-ofs
returns-then-s-ofs c = slot-none _ _ c.requires _ _ _ c.slot_of-s.ensures.first c.if-s-ofs.true

pub returns-else-num-eq0 : goal.returns-else-num-eq0
returns-else-num-eq0 c =
    sym (slot-is _ _ c.requires _ _ _ c.slot_of-s.ensures.first (omega (arith, c.slot_of-s.ensures.within)) ∙ rw (eqb_no {a = c.args.num} {b = 0} c.if-num-eq0.false))
