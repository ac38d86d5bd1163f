-- `fields_at` meets its contract.
use Rattle.std.proofs.Common.{eqb, sym, ap, ◌∙◌, arith, rules}
use Rattle.lines.specs.Place.{found_in}
use Rattle.lines.proofs.Spelling.{comma-is}
use Rattle.lines.proofs.FieldLaws.{no-range, no_number, too-high, goes_on, last}
use Rattle.lines.proofs.lines.fields_at.Goals as goal

pub returns-in_err-x : goal.returns-in_err-x
unfolding found_in
returns-in_err-x g c =
    ap found_in c.from_residual.ensures ∙ no_number c.loop-i.invariant (search rules) (sym c.in_err-x.was ∙ c.number_at.ensures)

pub returns-then-most-i : goal.returns-then-most-i
unfolding found_in
returns-then-most-i g c =
    too-high c.loop-i.invariant (search rules) _ _ (sym c.in_ok-x.was ∙ c.number_at.ensures) (search rules)

pub returns-then-not-comma : goal.returns-then-not-comma
returns-then-not-comma g c =
    ap found_in c.then_some.ensures
    ∙ last c.loop-i.invariant (search rules) _ _ (sym c.in_ok-x.was ∙ c.number_at.ensures) (search rules)
    (sym c.comma.ensures ∙ c.if-not-comma.true) _ (ap (eqb _) (search rules))

pub overflow_add-p : goal.overflow_add-p
overflow_add-p g c =
    let h = (comma-is _ _ (sym c.comma.ensures ∙ c.if-not-comma.false)).0 in omega arith

pub loop-i-preserved : goal.loop-i-preserved
loop-i-preserved g c =
    goes_on c.loop-i.invariant (search rules) _ _ (sym c.in_ok-x.was ∙ c.number_at.ensures) (search rules)
    (sym c.comma.ensures ∙ c.if-not-comma.false)

pub returns : goal.returns
unfolding found_in
returns g c = no-range c.loop-i.invariant (search rules)
