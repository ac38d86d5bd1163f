-- `teaselshears_order` meets its contract: the numbers of the audit and the order in front of the two slices, or nothing.
use Rattle.std.proofs.Common.{ap, ◌∙◌}
use Rattle.lines.specs.Put.{front}
use Rattle.export.proofs.Orders.{not-placed, not-ordered, ordered, first-number}
use Rattle.export.proofs.teaselshears_order.Goals as goal

pub returns-then-out-lt7-clause-meaning : goal.returns-then-out-lt7-clause-meaning
returns-then-out-lt7-clause-meaning c = not-placed _ _ _ _ c.if-out-lt7.true

pub returns-in_default-clause-meaning : goal.returns-in_default-clause-meaning
returns-in_default-clause-meaning c = not-ordered _ _ _ _ _ _ c.audit_order-r.ensures.order c.in_default.is

pub returns-clause-meaning : goal.returns-clause-meaning
returns-clause-meaning c =
    let r = c.audit_order-r.ensures in
    ordered _ _ _ _ _ _ r.order _ c.in-Some.is _ r.meaning c.if-out-lt7.false _
    (c.fill.ensures ∙ ap (λ v. front v c.args.out.now) c.numbers_of.ensures)

pub returns-clause-read : goal.returns-clause-read
returns-clause-read c = λ e.
    first-number _ _ _ _ (c.fill.ensures ∙ ap (λ v. front v c.args.out.now) c.numbers_of.ensures) c.audit_order-r.ensures.read
