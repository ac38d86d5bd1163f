-- `width` meets its contract.
use Rattle.std.proofs.Common.{◌≡◌, ℕ, ◌+◌, ◌*◌, ◌^◌, ◌<◌, ◌≤◌, length, Option, Some, None, IfSome, IfNone, unwrap_or, arith}
use Rattle.lines.specs.Decimal.{decimal}
use Rattle.lines.proofs.Decimals.{decimal-one, decimal-power}
use Rattle.lines.proofs.writer.width.Goals as goal

-- from the logarithm, which 0 has not
counted : (v : ℕ) (o : Option ℕ) → IfNone o (v ≡ 0) → IfSome o (λ k. 10 ^ k ≤ v) → IfSome o (λ k. v < 10 * 10 ^ k) →
    unwrap_or o 0 + 1 ≡ length (decimal v)
counted v (Some k) z h g = omega (arith, decimal-power k v h g)
counted v None z h g = omega (arith, decimal-one v (omega arith))

pub returns-clause-value : goal.returns-clause-value
returns-clause-value c =
    let l = c.checked_ilog10.ensures in
    omega (arith, counted _ _ l.none l.power_le l.next_power_gt, c.unwrap_or.ensures)
