-- `numbers_width` has measured the numbers before this one.
use Rattle.std.proofs.Common.{◌≡◌, ◌+◌, ◌*◌, ◌≤◌, length, drop}
use Rattle.lines.specs.LineText.{numbers_text}
use Rattle.lines.proofs.writer.numbers_width.Given as goal

abbrev pub invariant-loop-v : goal.invariant-loop-v
invariant-loop-v l =
    (l.n + length (numbers_text (drop l.v-index l.v-items)) ≡ length (numbers_text l.v-items)) × (l.n ≤ 21 * l.v-index)
