-- `first_rows` meets its contract.
use Rattle.std.proofs.Common.{◌≡◌, ◌/◌, length, take, ap, ◌∙◌, arith, rules}
use Rattle.writing.specs.Order.{rows}
use Rattle.writing.proofs.OrderWriting.{take-rows}
use Rattle.writing.proofs.orders.first_rows.Goals as goal

pub returns-clause-value : goal.returns-clause-value
returns-clause-value c =
    let items = c.args.items.now in
    let h : c.as_chunks.result.0.now ≡ rows items (length items / 2) = c.as_chunks.ensures.front in
    let l : length items ≡ 2304 = search rules in
    ap (take c.min.result) h
    ∙ take-rows items c.min.result (length items / 2) (omega (arith, c.min.ensures))
    ∙ ap (rows items) c.min.ensures
