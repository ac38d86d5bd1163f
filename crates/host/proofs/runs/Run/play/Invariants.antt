-- What is kept before line i is the state of the model's host.
use Rattle.std.proofs.Common.{ℕ}
use Rattle.text.specs.Held.{moves_in}
use Rattle.machine.specs.Held.{ObjectsHeld}
use Rattle.machine.specs.Objects.{Content}
use Rattle.host.specs.Runs.{full_table}
use Rattle.host.proofs.Running.{Running}
use Rattle.host.proofs.runs.Run.play.Given as goal

abbrev pub invariant-loop-i : goal.invariant-loop-i
invariant-loop-i l =
    (opening : ℕ → Content) → ObjectsHeld l.fn.self.objects opening →
    Running opening (full_table l.programs) (moves_in l.schedule) l.i-counter l.self
