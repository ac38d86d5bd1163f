-- The lines of each object have room, and join.
use Rattle.std.proofs.Common.{◌++◌, length, sym, ap, ◌∙◌, arith}
use Rattle.model.specs.Batch.{log_of}
use Rattle.host.proofs.Sorting.{object-next, room-left}
use Rattle.host.proofs.logs.by_object.Goals as goal

pub push_object-requires : goal.push_object-requires
push_object-requires c =
    let a = c.args in
    omega (arith, ap length c.loop-object.invariant, room-left a.log.now c.loop-object.object, c.requires.few)

pub loop-object-preserved : goal.loop-object-preserved
loop-object-preserved c =
    let a = c.args in
    c.push_object.ensures ∙ ap (λ ls. ls ++ log_of c.loop-object.object a.log.now) c.loop-object.invariant
    ∙ sym (object-next a.log.now c.loop-object.object)
