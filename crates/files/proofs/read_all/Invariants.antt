-- What was read fits.
use Rattle.std.proofs.Common.{length, ◌≤◌}
use Rattle.files.proofs.read_all.Given as goal

abbrev pub invariant-loop : goal.invariant-loop
invariant-loop g l = l.done ≤ length l.buf
