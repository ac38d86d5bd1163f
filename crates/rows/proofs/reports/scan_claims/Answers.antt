-- `scan_claims` meets its contract.
use Rattle.std.proofs.Common.{◌+◌, sym, ap, ◌∙◌, arith}
use Rattle.std.proofs.lemmas.List.{length-take}
use Rattle.rows.proofs.ReportScans.{without-claims, claims-on, packed-other, claims-twice, claims-anew}
use Rattle.rows.proofs.reports.scan_claims.Goals as goal
use Rattle.rows.proofs.reports.scan_claims.Goals.{else-column-j-via-then-column-j+else-claims, else-column-j-via-else-column-j}

pub loop-j-init : goal.loop-j-init
loop-j-init c =
    without-claims _ _ c.requires _ _ _ c.pack-p.ensures _ _
    (omega (arith, c.passed-j.ensures.within, length-take c.loop-i.i c.args.column.now)) c.passed-j.ensures.other

pub loop-j-preserved : goal.loop-j-preserved
loop-j-preserved c = claims-on _ _ c.requires _ _ _ c.pack-p.ensures _ _ _ c.loop-j-test.true c.loop-i-test.true c.loop-j.invariant
    (elim c.else-column-j.branch [
      | else-column-j-via-then-column-j+else-claims w ↦ sym w.claims.ensures ∙ w.if-claims.false
      | else-column-j-via-else-column-j w ↦ packed-other _ _ c.requires _ _ _ c.pack-p.ensures _ _ (omega arith) w.if-column-j.false
    ])

pub loop-i-preserved : goal.loop-i-preserved
loop-i-preserved c =
    claims-anew _ _ _ c.loop-i.invariant c.loop-i-test.true _ (sym (rw c.deref.ensures.0 at c.outside.ensures) ∙ c.if-outside.false) _ c.loop-j-test.false c.loop-j.invariant

pub returns-then-claims : goal.returns-then-claims
returns-then-claims c =
    claims-twice _ _ _ c.loop-i.invariant c.loop-i-test.true _ _ c.loop-j-test.true (sym c.claims.ensures ∙ c.if-claims.true) _
    (ap (λ n. n + 1 + c.loop-i.i) c.len-then-claims.ensures.value)
