-- A line that breaks row 14 refuses, and behind the last the texts are written.
use Rattle.std.proofs.Common.{◌≡◌, length, ap, ◌∙◌, rules, Err}
use Rattle.host.specs.declared.refusals.Refusal.TheVariants.{Run}
use Rattle.host.proofs.Promises.{left-by, error-was, ok-was}
use Rattle.host.proofs.Recording.{refuses, ready, at-14, past-14}
use Rattle.host.proofs.records.record_moves.Goals as goal

pub play-requires : goal.play-requires
play-requires c = ready _ _ c.requires.programs c.requires.schedule c.new-run.result c.new-run.ensures

pub returns-in_err-map_err : goal.returns-in_err-map_err
returns-in_err-map_err c =
    let f = c.in_err-map_err.field-0.0 in
    let w = error-was c.play.result c.map_err.result _ c.map_err.ensures.cases f c.in_err-map_err.was in
    let is : f ≡ Run w.0 = search rules in
    refuses _ _ _ _ (Run w.0) (left-by _ f c.from_residual.ensures.1 ∙ ap Err is)
    (at-14 _ _ _ _ _ _ c.new-run.ensures _ c.play.ensures w.0 w.1)

pub returns : goal.returns
returns c =
    let a = c.args in
    let e =
    past-14 a.programs.now a.schedule.now (length a.trace.now) (length a.report.now) _ _ c.new-run.ensures _ c.play.ensures _
    (ok-was c.play.result c.map_err.result _ c.map_err.ensures.cases _ c.in_ok-map_err.was) in
    rw e c.write_run.ensures
