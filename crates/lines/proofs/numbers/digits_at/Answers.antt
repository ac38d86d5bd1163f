-- `digits_at` meets its contract.
use Rattle.std.proofs.Common.{sym, ◌∙◌, rules}
use Rattle.lines.proofs.Spelling.{spelling-ends}
use Rattle.lines.proofs.numbers.digits_at.Goals as goal

pub returns-in-None : goal.returns-in-None
returns-in-None c =
    let l = c.loop-i in
    c.then_some.ensures
    ∙ spelling-ends l.v _ l.i _ (search rules) c.ends.ensures (sym c.in-None.is ∙ c.push.ensures)
    ∙ sym l.invariant
