-- Each line adds its answer, and leaves the objects behind it.
use Rattle.std.proofs.Common.{◌≡◌, take, ap, ◌∙◌, arith, take_all}
use Rattle.std.proofs.lemmas.List.{take_min}
use Rattle.machine.proofs.Performing.{answered-room, answered-more}
use Rattle.machine.proofs.objects.Objects.answers.Goals as goal

pub loop-i-preserved : goal.loop-i-preserved
loop-i-preserved c = λ cs held g.
    let a = c.loop-i.invariant cs held g in
    let inside = c.loop-i-test.true in
    let room = answered-room _ _ cs _ _ _ _ inside a (omega (arith, inside, g)) in
    answered-more _ _ cs _ _ _ _ inside a _ _ _ (c.perform.ensures _ a.held room)

pub returns : goal.returns
returns c = λ cs held g.
    let ls = take c.min.result c.args.log.now in
    let e : ls ≡ take 1024 c.args.log.now = ap (λ n. take n c.args.log.now) c.min.ensures ∙ take_min 1024 c.args.log.now in
    let all : take c.loop-i.i ls ≡ ls = take_all c.loop-i.i ls (omega arith) in
    rw (← e, ← all) (c.loop-i.invariant cs held (rw e g))
