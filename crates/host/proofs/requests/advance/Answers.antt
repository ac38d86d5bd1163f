-- Each instruction is the definition's.
use Rattle.std.proofs.Common.{◌≡◌, [], sym, ap, ◌∙◌, arith}
use Rattle.machine.specs.Processes.{advanced, stop_at}
use Rattle.machine.specs.declared.processes.Next.TheVariants.{Cut}
use Rattle.host.proofs.Advancing.{went, cut_off}
use Rattle.host.proofs.requests.advance.Goals as goal

pub loop-carried-preserved : goal.loop-carried-preserved
loop-carried-preserved c = (
  omega arith,
  went c.args.code.now c.loop-carried.l c.loop-carried.at c.loop-carried.carried c.loop-carried-test.true _ _ c.in-Goes.ensures
      ∙ c.loop-carried.invariant.1,
)

pub returns-in-Asks : goal.returns-in-Asks
returns-in-Asks c =
    went c.args.code.now c.loop-carried.l c.loop-carried.at c.loop-carried.carried c.loop-carried-test.true _ _ c.in-Asks.ensures
    ∙ c.loop-carried.invariant.1

pub returns-in-Replies : goal.returns-in-Replies
returns-in-Replies c =
    went c.args.code.now c.loop-carried.l c.loop-carried.at c.loop-carried.carried c.loop-carried-test.true _ _ c.in-Replies.ensures
    ∙ c.loop-carried.invariant.1

pub returns : goal.returns
returns c =
    let e : c.max.result ≡ c.loop-carried.carried = omega arith in
    ap (λ done. advanced c.loop-carried.l (stop_at c.loop-carried.at done Cut) []) e
    ∙ sym (cut_off c.args.code.now c.loop-carried.l c.loop-carried.at c.loop-carried.carried c.loop-carried-test.false)
    ∙ c.loop-carried.invariant.1
