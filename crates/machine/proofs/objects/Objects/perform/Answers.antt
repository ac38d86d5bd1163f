-- A register is set in its place, and a store by the operation on it.
use Rattle.machine.proofs.Performing.{performs-register, performs-store}
use Rattle.machine.proofs.objects.Objects.perform.Goals as goal

pub returns-then-x-lt-FIRST_STORE : goal.returns-then-x-lt-FIRST_STORE
returns-then-x-lt-FIRST_STORE c = λ cs h g.
    rw c.on_register.ensures.left (performs-register _ cs h _ c.if-x-lt-FIRST_STORE.true _ c.on_register.ensures.answer)

pub returns-else-x-lt-FIRST_STORE : goal.returns-else-x-lt-FIRST_STORE
returns-else-x-lt-FIRST_STORE c = λ cs h g. performs-store _ cs h _ c.if-x-lt-FIRST_STORE.false (c.on_store.ensures _ h.contents g)
