-- A line without its line feed: a word, and numbers parted by single commas, each in its range.
use Rattle.std.specs.Prelude.{ℕ, ◌-◌, ◌^◌, ◌<◌, ◌≤◌, Bool, true, false, ◌&&◌, List, [], ◌∷◌, length, drop, ◌==◌, nat_le}
use Rattle.std.proofs.Math.Option.{Option, some, none}
use Rattle.lines.specs.Number.{number_of}
use Rattle.lines.specs.Parts.{parts}
use Rattle.std.specs.Prelude.{Some, None}
use Rattle.std.specs.Prelude.{Option as RustOption}

-- the word that begins a line, its '=' included, and the largest number of each field
pub record Format : Type 0 where
  pub word : List ℕ
  pub largest : List ℕ

-- s begins with w
unfoldable pub prefix : List ℕ → List ℕ → Bool
prefix [] s = true
prefix (x ∷ w) [] = false
prefix (x ∷ w) (b ∷ s) = b == x && prefix w s

-- one field more in front of those read
abbrev pub in_front : ℕ → Option (List ℕ) → Option (List ℕ)
in_front v (some vs) = some (v ∷ vs)
in_front v none = none

-- a field is a number up to its largest
unfoldable pub field_of : (most : ℕ) → List ℕ → RustOption ℕ
field_of most p = elim (number_of p) [ Some v ↦ elim (nat_le v most) [ true ↦ Some v | false ↦ None ] | None ↦ None ]

-- each part is a field, and there are as many parts as fields
unfoldable pub fields_of : (largest : List ℕ) → List (List ℕ) → Option (List ℕ)
fields_of [] [] = some []
fields_of [] (p ∷ ps) = none
fields_of (m ∷ ms) [] = none
fields_of (m ∷ ms) (p ∷ ps) = elim (field_of m p) [ Some v ↦ in_front v (fields_of ms ps) | None ↦ none ]

-- the numbers of the line s, where it is one of the format f
unfoldable pub line_of : Format → List ℕ → Option (List ℕ)
line_of f s =
    elim (prefix f.word s) [
      | true ↦ fields_of f.largest (parts 44 (drop (length f.word) s))
      | false ↦ none
    ]

-- a number of 64 bits, up to the largest of its field
pub record InRange (most v : ℕ) : Type 0 where
  pub below : v ≤ most
  pub fits : v < 2 ^ 64

-- as many numbers as fields, each in its range
abbrev pub InRanges : (largest : List ℕ) → List ℕ → Type 0
InRanges [] [] = Unit {0}
InRanges [] (v ∷ vs) = ⊥
InRanges (m ∷ ms) [] = ⊥
InRanges (m ∷ ms) (v ∷ vs) = InRange m v × InRanges ms vs

-- the largest of a field with no other range
abbrev pub any : ℕ
any = 2 ^ 64 - 1
