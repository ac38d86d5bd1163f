-- Each line is the model's, and at the end what is kept is the state behind the whole.
use Rattle.std.proofs.Common.{◌≡◌, ℕ, ◌+◌, ◌<◌, List, length, get_or, slice_get, Some, sym, ap, subst, ◌∙◌, arith, rules}
use Rattle.std.proofs.lemmas.Option.{slice_get-get_or}
use Rattle.text.specs.Held.{no_move}
use Rattle.text.specs.declared.schedule.Move.{Move}
use Rattle.std.proofs.lemmas.Result.{err_from_is_err_and}
use Rattle.host.specs.Moves.{StepIs}
use Rattle.host.specs.Runs.{RunIs}
use Rattle.host.proofs.Promises.{error-was, ok-was}
use Rattle.host.proofs.Running.{run-start, run_ends}
use Rattle.host.proofs.Turned.{step-room, step-breaks, step-on}
use Rattle.host.proofs.runs.Run.play.Goals as goal

pub loop-i-init : goal.loop-i-init
loop-i-init c = λ opening held. run-start opening _ _ _ c.requires held

-- line i of a schedule
line-at : (ms : List Move) (i n : ℕ) (m : Move) → i < n → n ≡ length ms → m ≡ get_or ms i no_move → slice_get ms i ≡ Some m
line-at ms i n m h e d = slice_get-get_or ms i no_move (omega arith) ∙ ap Some (sym d)

pub step-requires : goal.step-requires
step-requires c =
    let p = c.requires in
    step-room p.programs_known (c.loop-i.invariant p.opening p.held) c.move_at.result
    (line-at _ _ _ _ c.loop-i-test.true c.len-i-end.ensures.count c.move_at.ensures.line)

pub loop-i-preserved : goal.loop-i-preserved
loop-i-preserved c = λ opening held.
    let g = c.loop-i.invariant opening held in
    let programs = c.args.programs.now in
    let m = c.move_at.result in
    let e = ok-was c.step.result c.map_err.result _ c.map_err.ensures.cases c.in_ok-map_err.field-0 c.in_ok-map_err.was in
    let f = subst (StepIs programs m c.loop-i.self c.step.new.self) e c.step.ensures in
    step-on c.requires.programs_known g c.step.new.self m
    (line-at _ _ _ _ c.loop-i-test.true c.len-i-end.ensures.count c.move_at.ensures.line) c.in_ok-map_err.field-0 f

pub returns-in_err-map_err : goal.returns-in_err-map_err
unfolding RunIs
returns-in_err-map_err c = λ opening held.
    let g = c.loop-i.invariant opening held in
    let p = err_from_is_err_and c.from_residual.result c.from_residual.ensures.1 in
    let w = error-was c.step.result c.map_err.result _ c.map_err.ensures.cases c.in_err-map_err.field-0.0 c.in_err-map_err.was in
    let f = subst (StepIs c.args.programs.now c.move_at.result c.loop-i.self c.step.new.self) w.1 c.step.ensures in
    let line : c.in_err-map_err.field-0.0.line ≡ c.loop-i.i-counter + 1 = search rules in
    rw (p.1, p.2, line)
    (step-breaks c.requires.programs_known g c.step.new.self c.move_at.result (line-at _ _ _ _ c.loop-i-test.true c.len-i-end.ensures.count c.move_at.ensures.line) w.0 f)

pub returns : goal.returns
unfolding RunIs
returns c = λ opening held. run_ends (c.loop-i.invariant opening held) (omega arith)
