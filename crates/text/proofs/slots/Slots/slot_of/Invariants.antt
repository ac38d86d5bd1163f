-- The lines passed are not of the request.
use Rattle.std.proofs.Common.{◌≤◌, get_or}
use lib.Dec.{eqb}
use Rattle.basics.proofs.Scans.{Passed}
use Rattle.text.specs.Held.{of_at}
use Rattle.text.specs.Slots.{slot_bucket}
use Rattle.text.proofs.slots.Slots.slot_of.Given as goal

abbrev pub invariant-loop-i : goal.invariant-loop-i
invariant-loop-i l =
    let head = get_or l.self.heads (slot_bucket l.rid) 0 in
    (head ≤ l.i) × Passed (λ i. eqb (of_at l.ofs i).rid l.rid) head l.i
