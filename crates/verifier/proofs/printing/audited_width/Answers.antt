-- `audited_width` meets its contract.
use Rattle.std.proofs.Common.{arith}
use Rattle.verifier.proofs.PrintedLines.{printed-length}
use Rattle.verifier.proofs.printing.audited_width.Goals as goal

pub returns-clause-value : goal.returns-clause-value
returns-clause-value c = omega (arith, printed-length c.args.a, c.numbers_width.ensures.value)
