-- A held key, a new one without room, and a new one with room.
use Rattle.cells.proofs.Putting.{put-changed, put-full, put-added}
use Rattle.cells.proofs.stores.Stores.put.Goals as goal

pub returns-in-Some : goal.returns-in-Some
returns-in-Some c = λ contents h. put-changed h _ _ _ _ c.find.ensures.walked _ c.in-Some.is

pub returns-then-self-ge-CELLS : goal.returns-then-self-ge-CELLS
returns-then-self-ge-CELLS c = λ contents h. put-full h _ _ _ _ c.find.ensures.walked c.in_default.is c.if-self-ge-CELLS.true

pub returns : goal.returns
returns c = λ contents h.
    put-added h _ _ _ _ c.find.ensures.walked c.in_default.is c.if-self-ge-CELLS.false _ _ (cc) (cc)
