-- Lines: none of those passed is bad; within one: no line passed claims its operation.
use Rattle.std.proofs.Common.{◌≡◌, suc, false, length, take}
use Rattle.std.specs.List.{list_any}
use Rattle.model.specs.Claims.{bad7}
use Rattle.model.specs.Batch.{claims}
use Rattle.rows.proofs.Scans.{Scanned}
use Rattle.rows.proofs.reports.scan_claims.Given as goal

abbrev pub invariant-loop-j : goal.invariant-loop-j
invariant-loop-j l = list_any (claims l.rid l.num) (take l.j l.log) ≡ false

abbrev pub invariant-loop-i : goal.invariant-loop-i
invariant-loop-i l = Scanned (bad7 l.ofs.items) (suc (length l.ofs.items)) l.log l.i
