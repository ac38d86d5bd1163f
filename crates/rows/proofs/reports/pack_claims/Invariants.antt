-- The claims of the lines passed stand in the column.
use Rattle.std.proofs.Common.{◌≡◌, map, take}
use Rattle.rows.specs.Steps.{packed_claim}
use Rattle.rows.proofs.reports.pack_claims.Given as goal

abbrev pub invariant-loop-entry : goal.invariant-loop-entry
invariant-loop-entry l = l.column.items ≡ map packed_claim (take l.entry-index l.log.items)
