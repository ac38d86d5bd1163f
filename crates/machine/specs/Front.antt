-- Rows 1 and 2, with which the audit and the host begin.
use Rattle.std.specs.Prelude.{List, [], ◌∷◌}
use Rattle.text.specs.Text.{Read}
use Rattle.text.specs.declared.programs.Program.{Program}
use Rattle.model.specs.Checks.{Check, check, bad_line, contents}
use Rattle.machine.specs.Rules.{row2}

abbrev pub program_checks : Read (List Program) → List Check
program_checks programs = check 1 (bad_line programs) ∷ check 2 (row2 (contents [] programs)) ∷ []
