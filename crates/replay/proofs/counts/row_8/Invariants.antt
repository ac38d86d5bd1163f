-- Lines: none of those passed is bad; within one: the operations behind k have log lines.
use Rattle.std.proofs.Common.{length}
use Rattle.text.specs.Held.{of_at}
use Rattle.model.specs.Claims.{bad8}
use Rattle.model.proofs.LineScans.{Scanned}
use Rattle.replay.proofs.Counting.{Counting}
use Rattle.replay.proofs.counts.row_8.Given as goal

abbrev pub invariant-loop-k : goal.invariant-loop-k
invariant-loop-k l = Counting l.claims.log l.x.rid l.x.count l.k

abbrev pub invariant-loop-i : goal.invariant-loop-i
invariant-loop-i l = Scanned (bad8 l.claims.log) (of_at l.ofs) 1 (length l.ofs) l.i
