-- The table is what was read, or it is emptied.
use Rattle.std.proofs.Common.{refl, sym, ◌∙◌}
use Rattle.basics.specs.Firsts.{firsts}
use Rattle.text.proofs.ProgramsReading.{programs-filled, programs-unread}
use Rattle.text.proofs.programs.read_programs.Goals as goal

pub read_lines-result-requires-clause-nothing : goal.read_lines-result-requires-clause-nothing
unfolding firsts
read_lines-result-requires-clause-nothing c = refl

pub returns-then-is_err : goal.returns-then-is_err
returns-then-is_err c =
    programs-unread _ _ c.read_lines-result.new.into _ (sym c.is_err.ensures.value ∙ c.if-is_err.true) c.read_lines-result.ensures.read
    c.new.ensures

pub returns-else-is_err : goal.returns-else-is_err
returns-else-is_err c =
    programs-filled _ _ _ (sym c.is_err.ensures.value ∙ c.if-is_err.false) c.read_lines-result.ensures.read c.read_lines-result.ensures.kept
