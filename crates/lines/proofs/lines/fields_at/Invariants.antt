-- `fields_at` has read the fields before i.
use Rattle.lines.proofs.FieldLaws.{Filling}
use Rattle.lines.proofs.lines.fields_at.Given as goal

abbrev pub invariant-loop-i : goal.invariant-loop-i
invariant-loop-i g l = Filling l.s l.most l.at l.numbers l.i l.p
