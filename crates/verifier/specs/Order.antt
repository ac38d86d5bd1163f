-- The order of an accepted batch: its items, in numbers and as lines.
use Rattle.std.specs.Prelude.{ℕ, suc, cond, List, [], ◌∷◌, ◌++◌, map, eqb}
use Rattle.text.specs.Report.{no_lines, read_report}
use Rattle.text.specs.Trace.{read_trace}
use Rattle.writing.specs.Order.{event_item, operation_item}
use Rattle.model.specs.Batch.{Batch, batch_of}
use Rattle.model.specs.Checks.{contents}
use Rattle.model.specs.Nodes.{merge_of}
use Rattle.model.specs.ByRule.{item_of}
use Rattle.model.specs.PlainRun.{Item, event, operation}
use Rattle.verifier.specs.Faults.{audit_of}

-- the batch that was read
abbrev pub batch_read : (trace report : List ℕ) → Batch
batch_read trace report = batch_of (contents [] (read_trace trace)) (contents no_lines (read_report report))

-- the items in the order that the merge makes of them, which `OrderRead` says without the merge; none of a refused batch
unfoldable pub order_of : (programs trace report : List ℕ) → List Item
order_of programs trace report =
    cond (eqb (audit_of programs trace report).verdict 0) (map item_of (merge_of (batch_read trace report)).0) []

-- Two numbers for each item: an event its trace line, which is n for the first, and 0; an operation its request and its number there.
unfoldable pub order_numbers : (n : ℕ) → List Item → List ℕ
order_numbers n [] = []
order_numbers n (event e ∷ xs) = n ∷ 0 ∷ order_numbers (suc n) xs
order_numbers n (operation r k ∷ xs) = r ∷ k ∷ order_numbers n xs

-- A line for each item: `event=n` and `op=rid,num`.
unfoldable pub order_text : (n : ℕ) → List Item → List ℕ
order_text n [] = []
order_text n (event e ∷ xs) = event_item n ++ order_text (suc n) xs
order_text n (operation r k ∷ xs) = operation_item r k ++ order_text n xs
