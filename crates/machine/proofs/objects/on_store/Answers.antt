-- A put leaves the stores that hold it, and a look leaves them as they were.
use Rattle.std.proofs.Common.{eq-eqb, ne_eqb}
use Rattle.machine.proofs.Performing.{store-put, store-look}
use Rattle.machine.proofs.objects.on_store.Goals as goal

pub returns-then-x-eq-PUT : goal.returns-then-x-eq-PUT
returns-then-x-eq-PUT c = λ contents h g. store-put contents _ _ _ (eq-eqb _ _ c.if-x-eq-PUT.true) g (c.put.ensures contents h)

pub returns : goal.returns
returns c = λ contents h g.
    store-look contents _ _ _ _ (ne_eqb _ _ c.if-x-eq-PUT.false) (c.look.ensures contents h) c.finds.ensures h
