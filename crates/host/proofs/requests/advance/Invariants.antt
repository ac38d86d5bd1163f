-- The definition at where the request stands gives what it gives at the start.
use Rattle.std.proofs.Common.{◌≡◌, ◌≤◌, max}
use Rattle.machine.specs.Processes.{limit, advance_of}
use Rattle.host.specs.Requests.{pathless}
use Rattle.host.proofs.requests.advance.Given as goal

abbrev pub invariant-loop-carried : goal.invariant-loop-carried
invariant-loop-carried l =
    (l.carried ≤ max l.done limit)
    × (pathless (advance_of limit l.code l.l l.at l.carried) ≡ pathless (advance_of limit l.code l.fn.l l.fn.at l.done))
