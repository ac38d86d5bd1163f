-- Three texts that are readable, and programs that keep the rules: what was read.
use Rattle.std.specs.Prelude.{ℕ, List, ◌≡◌}
use Rattle.std.proofs.Math.Option.{none}
use Rattle.text.specs.Programs.{read_programs}
use Rattle.text.specs.Report.{Report, read_report}
use Rattle.text.specs.Text.{readable}
use Rattle.text.specs.Trace.{read_trace}
use Rattle.text.specs.declared.programs.Program.{Program}
use Rattle.text.specs.declared.trace.Event.{Event}
use Rattle.machine.specs.Objects.{Content, at_start}
use Rattle.machine.specs.Rules.{row2}

pub record Readings (programs trace report : List ℕ) : Type 0 where
  pub table : List Program
  pub table_read : read_programs programs ≡ readable table
  pub events : List Event
  pub events_read : read_trace trace ≡ readable events
  pub lines : Report
  pub lines_read : read_report report ≡ readable lines
  pub rules : row2 table ≡ none

-- what the objects hold at the start
abbrev pub opening : {programs trace report : List ℕ} → Readings programs trace report → ℕ → Content
opening x = at_start
