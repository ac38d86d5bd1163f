-- `left_behind` has taken the numbers before this one off the room.
use Rattle.std.proofs.Common.{◌≡◌, ◌+◌, length, drop}
use Rattle.lines.specs.LineText.{numbers_text}
use Rattle.lines.proofs.writer.left_behind.Given as goal

abbrev pub invariant-loop-v : goal.invariant-loop-v
invariant-loop-v l =
    l.left + length (numbers_text l.numbers) ≡ l.room + length (numbers_text (drop l.v-index l.numbers))
