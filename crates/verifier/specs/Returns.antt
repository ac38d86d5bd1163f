-- Verdict 9 for texts: what has to hold of three texts whose order returns to itself. It says nothing of how the audit finds it.
use Rattle.std.specs.Prelude.{ℕ, List}
use Rattle.model.specs.Batch.{batch_of}
use Rattle.model.specs.Claims.{NoneTo8}
use Rattle.model.specs.Precedes.{Returns}
use Rattle.text.specs.Programs.{known}
use Rattle.verifier.specs.Readings.{Readings}

pub record OrderReturns (programs trace report : List ℕ) : Type 0 where
  -- no row from 1 to 8 holds,
  pub texts : Readings programs trace report
  pub none_to_8 : NoneTo8 (known texts.table) (batch_of texts.events texts.lines)
  -- and a chain of "comes before" among the events and log lines returns to its start
  pub returns : Returns (batch_of texts.events texts.lines)
