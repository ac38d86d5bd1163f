-- The objects are those above line i, and the answers so far stand in front.
use Rattle.std.proofs.Common.{ℕ, ◌+◌, ◌≤◌, take, length}
use Rattle.machine.specs.Objects.{Content}
use Rattle.machine.specs.Held.{ObjectsHeld, AnsweredIs}
use Rattle.machine.proofs.objects.Objects.answers.Given as given

abbrev pub invariant-loop-i : given.invariant-loop-i
invariant-loop-i l =
    (cs : ℕ → Content) → ObjectsHeld l.initial.self cs → l.initial.self.stores.used + length l.log ≤ 2048 →
    AnsweredIs l.initial.self cs (take l.i l.log) l.initial.out l.self l.out
