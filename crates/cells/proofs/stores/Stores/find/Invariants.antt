-- The walk from here gives what the walk from the start gives.
use Rattle.std.proofs.Common.{◌≡◌, ◌-◌}
use Rattle.cells.specs.Chains.{walk}
use Rattle.cells.specs.Stores.{head_of}
use Rattle.cells.proofs.stores.Stores.find.Given as given

abbrev pub invariant-loop : given.invariant-loop
invariant-loop l =
    walk l.self.cells l.object l.key (2048 - l.counter) l.place ≡ walk l.self.cells l.object l.key 2048 (head_of l.self l.object l.key)
