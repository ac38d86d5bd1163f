-- A number and a line that begin at a place of a text, and where they end.
use Rattle.std.specs.Prelude.{ℕ, ◌+◌, true, false, List, length, drop, Some, None}
use Rattle.std.specs.Prelude.{Option as RustOption}
use Rattle.std.proofs.Math.Option.{Option, some, none}
use Rattle.lines.specs.Number.{number_of}
use Rattle.lines.specs.Parts.{until, parts}
use Rattle.lines.specs.Line.{Format, prefix, fields_of}

-- the first line of t, up to its line feed or the end of t
abbrev pub line : List ℕ → List ℕ
line t = until 10 t

-- the first field of that line
abbrev pub field : List ℕ → List ℕ
field t = until 44 (until 10 t)

-- where the line that begins at a place ends
abbrev pub line_end : List ℕ → ℕ → ℕ
line_end s at = at + length (line (drop at s))

-- a number and the place behind it
abbrev pub spell : RustOption ℕ → ℕ → RustOption (ℕ × ℕ)
spell (Some v) e = Some (v, e)
spell None e = None

-- the number from a place on, up to a comma, a line feed or the end
unfoldable pub spelled_at : List ℕ → ℕ → RustOption (ℕ × ℕ)
spelled_at s at = spell (number_of (field (drop at s))) (at + length (field (drop at s)))

-- the numbers of a line and where it ends; or nothing
pub data Found : Type 0 where
  found : List ℕ → ℕ → Found
  nothing : Found

abbrev pub found_at : Option (List ℕ) → ℕ → Found
found_at (some vs) e = found vs e
found_at none e = nothing

-- the fields from a place on to the line's end
unfoldable pub fields_at : (largest : List ℕ) → List ℕ → ℕ → Found
fields_at ms s at = found_at (fields_of ms (parts 44 (line (drop at s)))) (line_end s at)

-- the line of the format f from a place on: its word stands there, and its fields go on to the line's end
unfoldable pub line_at : Format → List ℕ → ℕ → Found
line_at f s at =
    elim (prefix f.word (drop at s)) [
      | true ↦ fields_at f.largest s (at + length f.word)
      | false ↦ nothing
    ]

-- the word w, and as many fields as there are numbers in `most`
abbrev pub format_of : (w most : List ℕ) → Format
format_of w most = record { word = w; largest = most }

-- what an answer says: the numbers of a line and where it ends; or nothing
unfoldable pub found_in : RustOption (List ℕ × ℕ) → Found
found_in (Some (vs, e)) = found vs e
found_in None = nothing
