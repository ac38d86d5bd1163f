-- The heads are those of the lines from i on.
use Rattle.std.proofs.Common.{◌≤◌, length}
use Rattle.basics.specs.Scans.{Heads}
use Rattle.text.specs.Held.{of_at}
use Rattle.text.specs.Slots.{slot_bucket}
use Rattle.text.proofs.slots.Slots.of.Given as goal

abbrev pub invariant-loop-i : goal.invariant-loop-i
invariant-loop-i l =
    (l.i ≤ length l.ofs.items) × Heads (λ j. slot_bucket (of_at l.ofs.items j).rid) 256 (length l.ofs.items) l.i l.heads
