-- `digits_at` has read the digits before i.
use Rattle.std.proofs.Common.{◌≡◌}
use Rattle.lines.specs.Steps.{spelling}
use Rattle.lines.proofs.numbers.digits_at.Given as goal

abbrev pub invariant-loop-i : goal.invariant-loop-i
invariant-loop-i l = spelling l.first l.s l.at ≡ spelling l.v l.s l.i
