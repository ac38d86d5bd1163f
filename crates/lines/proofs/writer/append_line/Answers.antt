-- `append_line` meets its contract.
use Rattle.std.proofs.Common.{arith}
use Rattle.lines.proofs.Writing.{append-within, append-behind}
use Rattle.lines.proofs.writer.append_line.Goals as goal

pub returns-then-out-at : goal.returns-then-out-at
returns-then-out-at c = append-behind _ _ _ c.if-out-at.true

pub overflow_add-result : goal.overflow_add-result
overflow_add-result c =
    let a = c.args in
    omega (arith, append-within _ a.out.now a.at _ _ c.if-out-at.false c.put_line.ensures, c.unwrap_or.ensures)
