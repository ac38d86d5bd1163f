-- At the end of the chain no cell is left; a cell of the key ends the walk, and another leads on.
use Rattle.std.proofs.Common.{◌≡◌, ◌-◌, sym, ◌∙◌, arith}
use Rattle.cells.specs.Chains.{walk}
use Rattle.cells.proofs.Walks.{walk-none, walk-hit, walk-on}
use Rattle.cells.proofs.stores.Stores.find.Goals as goal

pub returns-then-place-eq0-clause-walked : goal.returns-then-place-eq0-clause-walked
returns-then-place-eq0-clause-walked c = rw (← c.loop.invariant, c.if-place-eq0.true, walk-none)

pub returns-then-is_of-clause-walked : goal.returns-then-is_of-clause-walked
returns-then-is_of-clause-walked c =
    rw (← c.loop.invariant)
    (sym (walk-hit _ _ _ _ _ _ c.loop-test.true c.if-place-eq0.false (sym c.is_of.ensures ∙ c.if-is_of.true)))

pub loop-preserved : goal.loop-preserved
loop-preserved c =
    walk-on _ _ _ _ _ _ c.loop-test.true c.if-place-eq0.false (sym c.is_of.ensures ∙ c.if-is_of.false) ∙ c.loop.invariant

pub returns-clause-walked : goal.returns-clause-walked
unfolding walk
returns-clause-walked c =
    let z : 2048 - c.loop.counter ≡ 0 = omega arith in
    rw (← c.loop.invariant, z)
