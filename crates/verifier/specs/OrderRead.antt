-- An order to read, for texts: what has to hold of the order that an acceptance carries. It says nothing of how the audit finds it.
use Rattle.std.specs.Prelude.{ℕ, List, map, ◌≡◌}
use Rattle.model.specs.Allowed.{Allowed}
use Rattle.model.specs.Batch.{Node, batch_of}
use Rattle.model.specs.ByRule.{item_of, ByRule}
use Rattle.model.specs.PlainRun.{Item}
use Rattle.machine.specs.Instance.{machine_of}
use Rattle.verifier.specs.Readings.{Readings, opening}

pub record OrderRead (programs trace report : List ℕ) (order : List Item) : Type 0 where
  pub texts : Readings programs trace report
  -- demand 3 allows it
  pub allowed : Allowed (machine_of texts.table) (opening texts) (batch_of texts.events texts.lines)
  pub allows : allowed.order ≡ order
  -- it has every trace event and every operation once, each as it is next by the rule,
  pub items : List Node
  pub stands_for : map item_of items ≡ order
  pub by_rule : ByRule (batch_of texts.events texts.lines) items
  -- and no other order is by the rule
  pub only : (other : List Node) → ByRule (batch_of texts.events texts.lines) other → other ≡ items
