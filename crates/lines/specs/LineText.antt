-- A line as bytes, its line feed included.
use Rattle.std.specs.Prelude.{ℕ, ◌+◌, true, false, List, [], ◌∷◌, ◌++◌, length, nat_lt}
use Rattle.lines.specs.Decimal.{decimal}

-- what stands behind number i of n, counted from 1: a comma, or behind the last a line feed
unfoldable pub separator_of : ℕ → ℕ → ℕ
separator_of i n = elim (nat_lt i n) [ true ↦ 44 | false ↦ 10 ]

-- numbers parted by single commas, and a line feed
unfoldable pub numbers_text : List ℕ → List ℕ
numbers_text [] = []
numbers_text (v ∷ vs) = decimal v ++ separator_of 0 (length vs) ∷ numbers_text vs

unfoldable pub line_text : List ℕ → List ℕ → List ℕ
line_text w vs = w ++ numbers_text vs

-- the most bytes that numbers up to these take as text
abbrev pub widest : (largest : List ℕ) → ℕ
widest [] = 0
widest (m ∷ ms) = length (decimal m) + 1 + widest ms
