-- `push` meets its contract.
use Rattle.std.proofs.Common.{◌≡◌, ℕ, ◌+◌, ◌*◌, ◌^◌, ◌<◌, ◌≤◌, Option, Some, None, SomeIff, refl, ◌∙◌, arith, rules}
use Rattle.lines.specs.Number.{push_of}
use Rattle.lines.proofs.Numerals.{push-value, push-above}
use Rattle.lines.proofs.numbers.push.Goals as goal

pub returns-then-v : goal.returns-then-v
returns-then-v c =
    let d = c.digit-d in
    push-value _ _ d.result (d.ensures.result_value (search rules)) (search rules) _ refl (omega arith)

pub returns-in_err-checked_mul : goal.returns-in_err-checked_mul
returns-in_err-checked_mul c =
    let d = c.digit-d in
    c.from_residual.ensures ∙ push-above _ _ d.result (d.ensures.result_value (search rules)) (search rules) (omega arith)

-- the sum, where it fits
summed : (v b d u : ℕ) (r : Option ℕ) → d + 48 ≡ b → d ≤ 9 → u ≡ v * 10 → SomeIff r (u + d < 2 ^ 64) (u + d) → r ≡ push_of v b
summed v b d u (Some w) e h k (l, i) = push-value v b d e h w (omega arith) (omega arith)
summed v b d u None e h k n = push-above v b d e h (omega arith)

pub returns : goal.returns
returns c =
    let d = c.digit-d in
    summed _ _ d.result _ _ (d.ensures.result_value (search rules)) (search rules) c.in_ok-checked_mul.ensures.1 c.checked_add.ensures
