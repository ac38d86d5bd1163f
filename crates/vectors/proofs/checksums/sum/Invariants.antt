-- The sum so far, gone on with over the bytes that are left, is the sum of all.
use Rattle.std.proofs.Common.{◌≡◌, ◌<◌, drop}
use Rattle.vectors.specs.Sums.{sum_of}
use Rattle.vectors.proofs.checksums.sum.Given as goal

abbrev pub invariant-loop-b : goal.invariant-loop-b
invariant-loop-b l = record {
  small : l.h < 4294967291;
  so_far : sum_of l.h (drop l.b-index l.s) ≡ sum_of 0 l.s;
}
