-- Programs and a schedule of which no check finds a fault, and what the run made.
use Rattle.std.specs.Prelude.{ℕ, List, ◌≡◌}
use Rattle.std.proofs.Math.Option.{none}
use Rattle.text.specs.Programs.{read_programs}
use Rattle.text.specs.Schedule.{read_schedule}
use Rattle.text.specs.Text.{readable}
use Rattle.text.specs.declared.programs.Program.{Program}
use Rattle.text.specs.declared.schedule.Move.{Move}
use Rattle.model.specs.Batch.{Batch}
use Rattle.model.specs.Host.{made}
use Rattle.machine.specs.Objects.{at_start}
use Rattle.machine.specs.Rules.{row2}
use Rattle.host.specs.Recorded.{run_of, texts_of, row16}

-- the run that made a batch
pub record Ran (programs schedule : List ℕ) (batch : Batch) : Type 0 where
  -- rows 1, 2 and 13
  pub table : List Program
  pub table_read : read_programs programs ≡ readable table
  pub rules : row2 table ≡ none
  pub moves : List Move
  pub moves_read : read_schedule schedule ≡ readable moves
  -- row 14
  pub run : run_of at_start table moves ≡ made batch

pub record Records (programs schedule : List ℕ) (room_for_trace room_for_report : ℕ) : Type 0 where
  pub batch : Batch
  pub ran : Ran programs schedule batch
  -- row 16
  pub fits : row16 room_for_trace room_for_report (texts_of batch) ≡ none
