use Rattle.std.proofs.Common.{rules, ◌≡◌, Err, sym, ap, ◌∙◌}
use Rattle.model.specs.Requests.{row4, row6_from}
use Rattle.verifier.proofs.Refusals.{stopped-5, stopped-6, past-6}
use Rattle.verifier.proofs.audits.check_batch.Goals as goal

pub returns-in_err-in_row-2 : goal.returns-in_err-in_row-2
returns-in_err-in_row-2 c =
    let e : c.from_residual-in_err-in_row-2.result ≡ Err c.in_err-in_row-2.field-0.0 = search rules in
    rw e (stopped-5 _ _ _ _ _ _ (c.row_4.ensures ∙ ap (row4 _) c.deref.ensures.0) _ (sym c.in_row.ensures ∙ c.in_ok-in_row.was)
    _ c.read_report.ensures _ (sym c.in_row-2.ensures ∙ c.in_err-in_row-2.was))

pub returns-in_err-in_row-3 : goal.returns-in_err-in_row-3
returns-in_err-in_row-3 c =
    let e : c.from_residual-in_err-in_row-3.result ≡ Err c.in_err-in_row-3.field-0.0 = search rules in
    rw e (stopped-6 _ _ _ _ _ _ (c.row_4.ensures ∙ ap (row4 _) c.deref.ensures.0) _ (sym c.in_row.ensures ∙ c.in_ok-in_row.was)
    _ c.read_report.ensures _ (sym c.in_row-2.ensures ∙ c.in_ok-in_row-2.was)
    _ (c.row_6.ensures ∙ (λ i. row6_from 1 (c.deref-2.ensures.0 i) (c.deref-3.ensures.0 i)))
    _ (sym c.in_row-3.ensures ∙ c.in_err-in_row-3.was))

pub returns : goal.returns
returns c =
    rw c.in_row-4.ensures (past-6 _ _ _ _ _ _ (c.row_4.ensures ∙ ap (row4 _) c.deref.ensures.0) _ (sym c.in_row.ensures ∙ c.in_ok-in_row.was)
    _ c.read_report.ensures _ (sym c.in_row-2.ensures ∙ c.in_ok-in_row-2.was)
    _ (c.row_6.ensures ∙ (λ i. row6_from 1 (c.deref-2.ensures.0 i) (c.deref-3.ensures.0 i)))
    _ (sym c.in_row-3.ensures ∙ c.in_ok-in_row-3.was) _ c.row_7.ensures)
