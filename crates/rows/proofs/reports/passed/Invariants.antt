-- None of the claims passed is p.
use Rattle.std.proofs.Common.{◌≡◌, ◌==◌, ◌-◌, ◌≤◌, false, length, take}
use Rattle.std.specs.List.{list_any}
use Rattle.rows.proofs.reports.passed.Given as goal

abbrev pub invariant-loop-block : goal.invariant-loop-block
invariant-loop-block l = record { within : l.j ≤ length l.column; none : list_any (λ x. x == l.p) (take l.j l.column) ≡ false }

abbrev pub decreases-loop-block : goal.decreases-loop-block
decreases-loop-block l = length l.column - l.j
