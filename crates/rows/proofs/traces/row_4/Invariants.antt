-- Lines: none of those passed is bad; within one: no event passed is like it.
use Rattle.std.proofs.Common.{◌≡◌, false, ltb, take}
use Rattle.std.specs.List.{list_any}
use Rattle.model.specs.Requests.{bad4}
use Rattle.rows.specs.Steps.{alike}
use Rattle.rows.proofs.Scans.{Scanned}
use Rattle.rows.proofs.traces.row_4.Given as goal

abbrev pub invariant-loop-earlier : goal.invariant-loop-earlier
invariant-loop-earlier l = list_any (λ d. alike d l.event) (take l.earlier-index l.above) ≡ false

abbrev pub invariant-loop-i : goal.invariant-loop-i
invariant-loop-i l = Scanned (bad4 (λ prog. ltb prog l.programs)) 1 l.events l.i
