-- `fill` has written the records before this one.
use Rattle.std.proofs.Common.{drop}
use Rattle.lines.proofs.Writing.{Writing}
use Rattle.text.specs.Written.{lines_text}
use Rattle.writing.proofs.records.fill.Given as goal

abbrev pub invariant-loop-x : goal.invariant-loop-x
invariant-loop-x g l =
    Writing (lines_text g.L.Line.text l.records) l.initial.out l.out l.at (lines_text g.L.Line.text (drop l.x-index l.records))
