-- A number written in decimal.
use Rattle.std.specs.Prelude.{ℕ, zero, suc, ◌+◌, ◌/◌, ◌%◌, true, false, List, [], ◌∷◌, ◌++◌, nat_lt}

-- the digits of v, found by at most k divisions
unfoldable pub digits_in : ℕ → ℕ → List ℕ
digits_in zero v = (48 + v) ∷ []
digits_in (suc k) v = elim (nat_lt v 10) [ true ↦ (48 + v) ∷ [] | false ↦ digits_in k (v / 10) ++ (48 + v % 10) ∷ [] ]

unfoldable pub decimal : ℕ → List ℕ
decimal v = digits_in v v
