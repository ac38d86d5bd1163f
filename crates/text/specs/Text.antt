-- A text is its lines, each of one of the text's kinds and ended by a line feed.
use Rattle.std.specs.Prelude.{ℕ, suc, List, [], ◌∷◌, true, false, length, ltb}
use Rattle.std.proofs.Math.Option.{Option, some, none}
use Rattle.lines.specs.Parts.{parts}
use Rattle.lines.specs.Line.{Format, line_of}
use Rattle.text.specs.Formats.{most_bytes}

-- what reading a text gives; or the number of the first unreadable line
pub data Read (S : Type 0) : Type 0 where
  readable : S → Read S
  unreadable : ℕ → Read S

-- a kind of line: its format, and what its numbers add to what was read, where they may
pub record Kind (S : Type 0) : Type 0 where
  pub format : Format
  pub add : S → List ℕ → Option S

-- one more, where fewer than the limit stand
unfoldable pub within : {A : Type 0} → ℕ → ℕ → A → Option A
within n limit x = elim (ltb n limit) [ true ↦ some x | false ↦ none ]

module _ {S : Type 0} where
  -- the line p, of the first kind that it fits, joins what was read
  unfoldable pub add_line : List (Kind S) → S → List ℕ → Option S
  add_line [] x p = none
  add_line (k ∷ ks) x p = elim (line_of k.format p) [ some vs ↦ k.add x vs | none ↦ add_line ks x p ]

  -- the lines from line n on; behind the last line feed nothing may stand
  unfoldable pub read_lines : List (Kind S) → ℕ → S → List (List ℕ) → Read S
  read_lines ks n x [] = readable x
  read_lines ks n x (p ∷ []) = elim (ltb 0 (length p)) [ true ↦ unreadable n | false ↦ readable x ]
  read_lines ks n x (p ∷ q ∷ ps) =
      elim (add_line ks x p) [ some y ↦ read_lines ks (suc n) y (q ∷ ps) | none ↦ unreadable n ]

  -- an overlong text is unreadable at line 0, before its lines are looked at
  unfoldable pub read_text : List (Kind S) → S → List ℕ → Read S
  read_text ks x s = elim (ltb most_bytes (length s)) [ true ↦ unreadable 0 | false ↦ read_lines ks 1 x (parts 10 s) ]
