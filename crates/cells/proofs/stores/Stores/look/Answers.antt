-- What the stores hold at the key, by the cell that was found.
use Rattle.std.proofs.Common.{sym, ◌∙◌}
use Rattle.cells.proofs.Looking.{held-none, held-some}
use Rattle.cells.proofs.stores.Stores.look.Goals as goal

pub returns-in_err-i : goal.returns-in_err-i
returns-in_err-i c = λ contents h. c.from_residual.ensures ∙ sym (held-none h _ _ _ c.find.ensures.walked c.in_err-i.was)

pub returns : goal.returns
returns c = λ contents h. sym (held-some h _ _ _ c.find.ensures.walked _ c.in_ok-i.was)
