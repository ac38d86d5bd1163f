-- `widths` has measured the records before this one.
use Rattle.std.proofs.Common.{◌≡◌, ◌+◌, ◌*◌, ◌≤◌, length, drop}
use Rattle.text.specs.Written.{lines_text}
use Rattle.writing.proofs.records.widths.Given as goal

abbrev pub invariant-loop-x : goal.invariant-loop-x
invariant-loop-x g l =
    (l.at + length (lines_text g.L.Line.text (drop l.x-index l.records)) ≡ length (lines_text g.L.Line.text l.records))
    × (l.at ≤ g.L.Line.most * l.x-index)
