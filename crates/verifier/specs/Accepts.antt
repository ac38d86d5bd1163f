-- Demand 3 for texts: what has to hold of three texts that are accepted. It says nothing of how the audit finds it.
use Rattle.std.specs.Prelude.{ℕ, List}
use Rattle.model.specs.Batch.{batch_of}
use Rattle.model.specs.Demand.{Demand3}
use Rattle.machine.specs.Instance.{machine_of}
use Rattle.text.specs.Programs.{known}
use Rattle.verifier.specs.Readings.{Readings, opening}

pub record Accepts (programs trace report : List ℕ) : Type 0 where
  -- the texts are readable, and no program rule is broken
  pub texts : Readings programs trace report
  -- rows 4 and 6 do not hold, and an order is allowed that gives the trace, the counts, the logs and a path for each group
  pub demand : Demand3 (machine_of texts.table) (opening texts) (known texts.table) (batch_of texts.events texts.lines)
