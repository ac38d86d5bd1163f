-- `new` meets its contract.
use Rattle.std.proofs.Common.{rules}
use Rattle.replay.proofs.Claimed.{answers-prepared}
use Rattle.replay.proofs.claims.Claims.new.Goals as goal

pub returns : goal.returns
returns c = answers-prepared _ _ _ _ _ c.link.ensures.few (rw c.deref.ensures.0 at c.answers.ensures) (search rules)
