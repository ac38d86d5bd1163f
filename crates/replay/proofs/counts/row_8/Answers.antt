-- `row_8` meets its contract.
use Rattle.std.proofs.Common.{not, ap, ◌∙◌}
use Rattle.model.proofs.LineScans.{scan-start}
use Rattle.replay.proofs.Counting.{count-on, count-not, count-end, counts-more, counts_all, counts-end}
use Rattle.replay.proofs.counts.row_8.Goals as goal

pub loop-i-init : goal.loop-i-init
loop-i-init c = scan-start

pub loop-k-preserved : goal.loop-k-preserved
loop-k-preserved c =
    count-on c.loop-k.invariant c.loop-k-test.true _ c.line_of.ensures.line (c.is_none.ensures ∙ ap not c.if-is_none.false)

pub loop-i-preserved : goal.loop-i-preserved
loop-i-preserved c =
    counts_all _ _ c.loop-i.invariant c.loop-i-test.true (count-end c.loop-k.invariant c.loop-k-test.false)

pub returns-then-is_none : goal.returns-then-is_none
returns-then-is_none c =
    counts-more _ _ c.loop-i.invariant c.loop-i-test.true
    (count-not c.loop-k.invariant c.loop-k-test.true _ c.line_of.ensures.line (c.is_none.ensures ∙ ap not c.if-is_none.true))

pub returns-after-loop-i : goal.returns-after-loop-i
returns-after-loop-i c = counts-end _ _ c.loop-i.invariant c.loop-i-test.false
