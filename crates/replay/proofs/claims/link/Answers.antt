-- `link` meets its contract.
use Rattle.std.proofs.Common.{arith}
use Rattle.replay.proofs.Links.{linked-start}
use Rattle.replay.proofs.claims.link.Goals as goal

pub loop-i-init : goal.loop-i-init
loop-i-init c = rw c.len-i.ensures.value (linked-start _ _ _ (omega arith) c.requires c.told-afters)
