-- `answer_of` meets its contract.
use Rattle.std.proofs.Common.{◌≡◌, sym, ap, ◌∙◌}
use Rattle.replay.proofs.Claimed.{answers-none, answers-some}
use Rattle.replay.proofs.claims.Claims.answer_of.Goals as goal

pub returns-in_err-i : goal.returns-in_err-i
returns-in_err-i c = answers-none _ _ _ _ (sym c.line_of.ensures.line ∙ c.in_err-i.was) _ c.from_residual.ensures

pub returns : goal.returns
returns c =
    let log : c.deref.result.now ≡ c.args.self.now.log = c.deref.ensures.0 ∙ ap (λ v. v.log) c.self.view_is in
    let same = rw (log, c.shown.ensures) at c.eq.ensures in
    answers-some _ _ _ _ _ (sym c.line_of.ensures.line ∙ c.in_ok-i.was) _
    (rw (same, ap (λ v. v.answers) c.self.view_is) at c.then_some.ensures)
