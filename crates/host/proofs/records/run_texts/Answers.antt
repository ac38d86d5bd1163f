-- Each check that finds a fault refuses, and behind the last the texts are written.
use Rattle.std.proofs.Common.{◌≡◌, length, ap, ◌∙◌, rules, Err}
use Rattle.host.specs.declared.refusals.Refusal.TheVariants.{Programs, Rules, Schedule}
use Rattle.host.proofs.Promises.{left-by, error-was, ok-was}
use Rattle.host.proofs.Recording.{refuses, at_1, at-2, at-13, programs-known, scheduled, past-13}
use Rattle.host.proofs.records.run_texts.Goals as goal

pub returns-in_err-map_err : goal.returns-in_err-map_err
returns-in_err-map_err c =
    let f = c.in_err-map_err.field-0.0 in
    let w = error-was c.read_programs.result c.map_err.result _ c.map_err.ensures.cases f c.in_err-map_err.was in
    let is : f ≡ Programs w.0 = search rules in
    refuses _ _ _ _ (Programs w.0) (left-by _ f c.from_residual.ensures.1 ∙ ap Err is)
    (at_1 _ _ _ _ _ _ c.read_programs.ensures w.0 w.1)

pub returns-in_err-map_err-2 : goal.returns-in_err-map_err-2
returns-in_err-map_err-2 c =
    let f = c.in_err-map_err-2.field-0.0 in
    let w = error-was c.check_rules.result c.map_err-2.result _ c.map_err-2.ensures.cases f c.in_err-map_err-2.was in
    let is : f ≡ Rules w.0 = search rules in
    refuses _ _ _ _ (Rules w.0) (left-by _ f c.from_residual-in_err-map_err-2.ensures.1 ∙ ap Err is)
    (at-2 _ _ _ _ _ _ c.read_programs.ensures
    _ (ok-was c.read_programs.result c.map_err.result _ c.map_err.ensures.cases _ c.in_ok-map_err.was) _ c.check_rules.ensures w.0 w.1)

pub returns-in_err-map_err-3 : goal.returns-in_err-map_err-3
returns-in_err-map_err-3 c =
    let f = c.in_err-map_err-3.field-0.0 in
    let w = error-was c.read_schedule.result c.map_err-3.result _ c.map_err-3.ensures.cases f c.in_err-map_err-3.was in
    let is : f ≡ Schedule w.0 = search rules in
    refuses _ _ _ _ (Schedule w.0) (left-by _ f c.from_residual-in_err-map_err-3.ensures.1 ∙ ap Err is)
    (at-13 _ _ _ _ _ _ c.read_programs.ensures
    _ (ok-was c.read_programs.result c.map_err.result _ c.map_err.ensures.cases _ c.in_ok-map_err.was) _ c.check_rules.ensures
    _ (ok-was c.check_rules.result c.map_err-2.result _ c.map_err-2.ensures.cases _ c.in_ok-map_err-2.was) _ _ c.read_schedule.ensures.read w.0 w.1)

pub record_moves-requires : goal.record_moves-requires
record_moves-requires c = record {
  programs = programs-known _ c.args.schedule.now 0 0 _ _ c.read_programs.ensures _ (ok-was c.read_programs.result c.map_err.result _ c.map_err.ensures.cases _ c.in_ok-map_err.was);
  schedule = scheduled _ _ 0 0 _ _ c.read_programs.ensures
      _ (ok-was c.read_programs.result c.map_err.result _ c.map_err.ensures.cases _ c.in_ok-map_err.was) _ c.check_rules.ensures
      _ (ok-was c.check_rules.result c.map_err-2.result _ c.map_err-2.ensures.cases _ c.in_ok-map_err-2.was) _ _ c.read_schedule.ensures.read
      _ (ok-was c.read_schedule.result c.map_err-3.result _ c.map_err-3.ensures.cases _ c.in_ok-map_err-3.was);
}

pub returns : goal.returns
returns c =
    let e =
    past-13 c.args.programs.now c.args.schedule.now (length c.args.trace.now) (length c.args.report.now) _ _ c.read_programs.ensures
    _ (ok-was c.read_programs.result c.map_err.result _ c.map_err.ensures.cases _ c.in_ok-map_err.was) _ c.check_rules.ensures
    _ (ok-was c.check_rules.result c.map_err-2.result _ c.map_err-2.ensures.cases _ c.in_ok-map_err-2.was) _ _ c.read_schedule.ensures.read
    _ (ok-was c.read_schedule.result c.map_err-3.result _ c.map_err-3.ensures.cases _ c.in_ok-map_err-3.was) in
    rw e c.record_moves.ensures
