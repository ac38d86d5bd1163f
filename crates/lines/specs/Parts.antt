-- A list of bytes as the parts between one byte: a text's lines at line feeds, a line's fields at commas.
use Rattle.std.specs.Prelude.{ℕ, true, false, List, [], ◌∷◌, ◌==◌}

-- the bytes before the first c, or all
unfoldable pub until : ℕ → List ℕ → List ℕ
until c [] = []
until c (b ∷ s) = elim (b == c) [ true ↦ [] | false ↦ b ∷ until c s ]

-- one byte more in front of the first part
unfoldable pub onto : ℕ → List (List ℕ) → List (List ℕ)
onto b [] = (b ∷ []) ∷ []
onto b (p ∷ ps) = (b ∷ p) ∷ ps

-- the parts of s between the bytes c: one more than there are of these
unfoldable pub parts : ℕ → List ℕ → List (List ℕ)
parts c [] = [] ∷ []
parts c (b ∷ s) = elim (b == c) [ true ↦ [] ∷ parts c s | false ↦ onto b (parts c s) ]
