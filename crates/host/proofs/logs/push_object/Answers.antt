-- A line of the object has room, and joins; another leaves what was sorted.
use Rattle.std.proofs.Common.{◌++◌, ◌∷◌, [], sym, ap, ◌∙◌, arith, length, take, append_assoc, length-append}
use Rattle.model.specs.Batch.{log_of}
use Rattle.host.proofs.Sorting.{line_at, more-own, more-other, own-fits}
use Rattle.host.proofs.logs.push_object.Goals.{then-l-object, else-l-object}
use Rattle.host.proofs.logs.push_object.Goals as goal

pub push-requires : goal.push-requires
push-requires c =
    let a = c.args in
    let h = own-fits a.log.now a.object c.loop-l.l-index c.loop-l-test.true c.if-l-object.true in
    let z = ap length c.loop-l.invariant in
    (omega arith, omega (arith, h, z, length-append a.sorted.now.items (log_of a.object (take c.loop-l.l-index a.log.now)), c.requires))

pub loop-l-preserved : goal.loop-l-preserved
loop-l-preserved c =
    let a = c.args in
    elim c.if-l-object.branch [
      | then-l-object w ↦
          ap (λ v. v.items) w.sorted-is ∙ w.push.ensures.items
          ∙ ap (λ ls. ls ++ line_at a.log.now c.loop-l.l-index ∷ []) c.loop-l.invariant
          ∙ append_assoc a.sorted.now.items _ _
          ∙ ap (λ ls. a.sorted.now.items ++ ls) (sym (more-own a.log.now a.object c.loop-l.l-index c.loop-l-test.true w.if-l-object.true))
      | else-l-object w ↦
          ap (λ v. v.items) w.sorted-is ∙ c.loop-l.invariant
          ∙ ap (λ ls. a.sorted.now.items ++ ls) (sym (more-other a.log.now a.object c.loop-l.l-index c.loop-l-test.true w.if-l-object.false))
    ]
