-- `fill_numbers` has written the numbers before i.
use Rattle.std.proofs.Common.{drop}
use Rattle.lines.specs.LineText.{numbers_text}
use Rattle.lines.proofs.Writing.{Writing}
use Rattle.lines.proofs.writer.fill_numbers.Given as goal

abbrev pub invariant-loop-i : goal.invariant-loop-i
invariant-loop-i l = Writing (numbers_text l.numbers) l.initial.out l.out l.at (numbers_text (drop l.i l.numbers))
