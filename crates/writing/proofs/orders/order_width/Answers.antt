-- `order_width` meets its contract.
use Rattle.std.proofs.Common.{ap, ◌∙◌, length, min}
use Rattle.text.specs.Held.{most_items}
use Rattle.text.specs.Written.{lines_text}
use Rattle.writing.specs.Order.{item_text, item_of}
use Rattle.writing.proofs.OrderWriting.{rows-text}
use Rattle.writing.proofs.orders.order_width.Goals as goal

pub returns-clause-value : goal.returns-clause-value
returns-clause-value c =
    c.widths.ensures.value
    ∙ ap length (ap (lines_text (λ r. item_text (item_of r))) c.first_rows.ensures.value ∙ rows-text c.args.items.now (min c.args.n most_items))
