-- The invariants are those of the scan.
use Rattle.std.proofs.Common.{◌≡◌, Ok, length}
use Rattle.machine.proofs.Scan.{AtProgram, AtInstruction}
use Rattle.machine.proofs.rules.check_rules.Given as given

abbrev pub invariant-loop-j : given.invariant-loop-j
invariant-loop-j l = AtInstruction l.ps.table (length l.p-items) l.k l.j l.line × (l.ruling ≡ Ok tt)

abbrev pub invariant-table : given.invariant-table
invariant-table l = AtProgram l.ps.table (length l.p-items) l.k l.line × (l.ruling ≡ Ok tt)
