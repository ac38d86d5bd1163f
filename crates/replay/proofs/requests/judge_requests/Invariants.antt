-- The requests below slot k broke no row, and their ways are kept.
use Rattle.replay.proofs.Judging.{Judging, batch_of}
use Rattle.replay.proofs.requests.judge_requests.Given as goal

abbrev pub invariant-loop-k : goal.invariant-loop-k
invariant-loop-k l = Judging l.ps.table (batch_of l.events l.ofs l.batch.log.now.items) l.claims l.paths.items l.k
