-- `row_4` meets its contract.
use Rattle.std.proofs.Common.{sym, ◌∙◌}
use Rattle.std.proofs.lemmas.List.Folds.{list_any_at}
use Rattle.rows.proofs.TraceScans.{stands-not, stands-twice, stands}
use Rattle.rows.proofs.traces.row_4.Goals as goal

pub loop-i-preserved : goal.loop-i-preserved
loop-i-preserved c =
    stands _ c.loop-i.invariant c.loop-i-test.true _ (sym c.may_stand.ensures ∙ c.if-not-may_stand.false) _
    c.loop-earlier-test.false c.loop-earlier.invariant

pub returns-then-not-may_stand : goal.returns-then-not-may_stand
returns-then-not-may_stand c =
    stands-not _ c.loop-i.invariant c.loop-i-test.true _ (sym c.may_stand.ensures ∙ c.if-not-may_stand.true)

pub returns-then-like : goal.returns-then-like
returns-then-like c =
    stands-twice _ c.loop-i.invariant c.loop-i-test.true _
    (list_any_at _ _ _ _ c.loop-earlier-test.true (sym c.like.ensures ∙ c.if-like.true))
