-- `put_order` meets its contract.
use Rattle.std.proofs.Common.{List, ℕ, ap, ◌∙◌, subst, min}
use Rattle.lines.specs.Put.{PutIs}
use Rattle.text.specs.Held.{most_items}
use Rattle.text.specs.Written.{lines_text}
use Rattle.writing.specs.Order.{item_text, item_of}
use Rattle.writing.proofs.OrderWriting.{rows-text}
use Rattle.writing.proofs.orders.put_order.Goals as goal

pub returns : goal.returns
returns c =
    let e = ap (lines_text (λ r. item_text (item_of r))) c.first_rows.ensures.value ∙ rows-text c.args.items.now (min c.args.n most_items) in
    subst (λ (t : List ℕ). PutIs t c.args.out.now c.put_lines.new.out c.put_lines.result) e c.put_lines.ensures
