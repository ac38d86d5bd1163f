use Rattle.std.proofs.Common.{rules, arith, ◌≡◌, Err, sym, ap, ◌∙◌}
use Rattle.machine.specs.Objects.{at_start}
use Rattle.machine.proofs.Performing.{no-objects-start}
use Rattle.verifier.specs.Faults.{audited}
use Rattle.model.specs.Checks.{verdict}
use Rattle.verifier.proofs.Refusals.{stopped-1-or-2, stopped-3, stopped-4-to-7, stopped-8-to-12, past-12, ordered-12}
use Rattle.verifier.proofs.audits.order.Goals as goal

pub returns-in_err-check_programs : goal.returns-in_err-check_programs
returns-in_err-check_programs c =
    let e : c.from_residual.result ≡ Err c.in_err-check_programs.field-0.0 = search rules in
    rw e (stopped-1-or-2 _ _ _ _ c.check_programs.new.table _ c.in_err-check_programs.ensures)

pub returns-in_err-in_row : goal.returns-in_err-in_row
returns-in_err-in_row c =
    let e : c.from_residual-in_err-in_row.result ≡ Err c.in_err-in_row.field-0.0 = search rules in
    rw e (stopped-3 _ _ _ _ _ c.in_ok-check_programs.ensures _ _ c.read_trace.ensures _ (sym c.in_row.ensures ∙ c.in_err-in_row.was))

pub returns-in_err-check_batch : goal.returns-in_err-check_batch
returns-in_err-check_batch c =
    let e : c.from_residual-in_err-check_batch.result ≡ Err c.in_err-check_batch.field-0.0 = search rules in
    rw e (stopped-4-to-7 _ _ _ _ _ c.in_ok-check_programs.ensures _ _ c.read_trace.ensures _ (sym c.in_row.ensures ∙ c.in_ok-in_row.was)
    c.check_batch.new.ofs.items c.check_batch.new.log.items _ c.in_err-check_batch.ensures)

pub returns-in_err-judge : goal.returns-in_err-judge
returns-in_err-judge c =
    let e : c.from_residual-in_err-judge.result ≡ Err c.in_err-judge.field-0.0 = search rules in
    rw e (stopped-8-to-12 _ _ _ _ _ c.in_ok-check_programs.ensures _ _ c.read_trace.ensures _ (sym c.in_row.ensures ∙ c.in_ok-in_row.was)
    _ _ c.in_ok-check_batch.ensures _ (c.judge.ensures.judges at_start (rw c.new.ensures no-objects-start) (rw c.new.ensures (omega arith)))
    _ c.in_err-judge.was c.in_err-judge.ensures.refuses)

pub returns : goal.returns
returns c =
    let held = c.in_ok-check_programs.ensures in
    let read = sym c.in_row.ensures ∙ c.in_ok-in_row.was in
    let batch = c.in_ok-check_batch.ensures in
    let judged = c.judge.ensures.judges at_start (rw c.new.ensures no-objects-start) (rw c.new.ensures (omega arith)) in
    let found = past-12 _ _ _ c.args.out.now _ held _ _ c.read_trace.ensures _ read _ _ batch _ judged _ c.in_ok-judge.was in
    let order = ordered-12 _ _ _ c.args.out.now _ held _ _ c.read_trace.ensures _ read _ _ batch _ judged _ c.in_ok-judge.was in
    (c.accepted.ensures ∙ (λ i. audited (verdict 0 0) (c.len.ensures.value i) (c.len-2.ensures.value i)) ∙ found, c.put_numbers.ensures _ order)
