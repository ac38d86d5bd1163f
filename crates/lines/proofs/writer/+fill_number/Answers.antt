-- `fill_number` meets its contract: the digits of v are those of v / 100 and two more.
use Rattle.std.proofs.Common.{[], refl, arith, length-set, rules}
use Rattle.lines.proofs.Decimals.{decimal-small, decimal-two, decimal-tens, decimal-two-more, decimal-hundreds, decimal-one}
use Rattle.lines.proofs.Puts.{front-none, front-next, front-two}
use Rattle.lines.proofs.writer.+fill_number.Goals as goal

pub returns-then-v-lt10-clause-out_after : goal.returns-then-v-lt10-clause-out_after
returns-then-v-lt10-clause-out_after t c =
    let h = c.if-v-lt10.true in
    front-next [] _ _ c.args.out.now _ 0 (decimal-small c.args.v h) refl (front-none _) (omega (arith, decimal-one c.args.v h))

pub bounds-out-1 : goal.bounds-out-1
bounds-out-1 t c = simp length-set (omega (arith, decimal-two c.args.v (search rules) (search rules)))

pub returns-then-v-lt100-clause-out_after : goal.returns-then-v-lt100-clause-out_after
returns-then-v-lt100-clause-out_after t c =
    let e = decimal-tens c.args.v (search rules) (search rules) in
    front-two [] _ _ _ c.args.out.now _ 0 e refl (front-none _) (search rules)

pub bounds-out-n-2 : goal.bounds-out-n-2
bounds-out-n-2 t c = simp length-set (omega (arith, decimal-two-more, c.fill_number-n.ensures.value, c.fill_number-n.auto.out))

pub returns-clause-out_after : goal.returns-clause-out_after
returns-clause-out_after t c =
    let f = c.fill_number-n in
    front-two _ _ _ _ c.args.out.now _ _ (decimal-hundreds c.args.v (search rules)) f.ensures.value f.ensures.out_after (search rules)
