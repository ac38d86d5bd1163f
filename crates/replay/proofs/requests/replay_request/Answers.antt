-- `replay_request` meets its contract.
use Rattle.std.proofs.Common.{refl, sym, ◌∙◌}
use Rattle.replay.proofs.Looking.{no-request, replay-request}
use Rattle.replay.proofs.requests.replay_request.Goals as goal

pub returns-in_err-start : goal.returns-in_err-start
returns-in_err-start c =
    no-request _ _ _ _ _ (sym c.arrival_of.ensures ∙ c.in_err-start.was) _ _ c.from_residual.ensures

pub returns : goal.returns
returns c =
    replay-request _ _ _ _ _ _ (sym c.arrival_of.ensures ∙ c.in_ok-start.was) _ refl _ c.replay.ensures
