-- The verdict with its line, which both programs print first.
use Rattle.std.specs.Prelude.{ℕ, List, [], ◌∷◌, ◌++◌}
use Rattle.lines.specs.Bytes.{bytes}
use Rattle.lines.specs.LineText.{line_text}

unfoldable pub verdict_text : (verdict line : ℕ) → List ℕ
verdict_text verdict line = line_text (bytes "verdict=") (verdict ∷ []) ++ line_text (bytes "line=") (line ∷ [])
