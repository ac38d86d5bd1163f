use Rattle.std.proofs.Common.{rules, ◌≡◌, Err, sym, ◌∙◌}
use Rattle.verifier.proofs.Refusals.{stopped-1, past-1}
use Rattle.verifier.proofs.audits.check_programs.Goals as goal

pub returns-in_err-in_row : goal.returns-in_err-in_row
returns-in_err-in_row c =
    let e : c.from_residual.result ≡ Err c.in_err-in_row.field-0.0 = search rules in
    rw e (stopped-1 _ _ _ c.read_programs.ensures _ (sym c.in_row.ensures ∙ c.in_err-in_row.was))

pub returns : goal.returns
returns c =
    rw c.in_row-2.ensures (past-1 _ _ _ c.read_programs.ensures _ (sym c.in_row.ensures ∙ c.in_ok-in_row.was) _ c.check_rules.ensures)
