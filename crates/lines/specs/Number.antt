-- A decimal number as bytes: digits with no sign and no leading zero, at most 2^64 − 1.
use Rattle.std.specs.Prelude.{ℕ, ◌+◌, ◌-◌, ◌*◌, ◌^◌, true, false, ◌&&◌, List, [], ◌∷◌, length, Option, Some, None, ◌==◌, nat_le, nat_lt}

-- v with the digit b behind it: none where b is no digit or the value reaches 2^64
unfoldable pub push_of : ℕ → ℕ → Option ℕ
push_of v b =
    elim (nat_le 48 b && nat_le b 57 && nat_lt (v * 10 + (b - 48)) (2 ^ 64)) [
      | true ↦ Some (v * 10 + (b - 48))
      | false ↦ None
    ]

-- the digits s behind the number v
unfoldable pub digits_of : ℕ → List ℕ → Option ℕ
digits_of v [] = Some v
digits_of v (b ∷ s) = elim (push_of v b) [ Some w ↦ digits_of w s | None ↦ None ]

-- all of s is one number: digits, the first of which is 0 in 0 itself alone
unfoldable pub number_of : List ℕ → Option ℕ
number_of [] = None
number_of (b ∷ s) =
    elim (b == 48) [
      | true ↦ elim (length s == 0) [ true ↦ Some 0 | false ↦ None ]
      | false ↦ digits_of 0 (b ∷ s)
    ]
