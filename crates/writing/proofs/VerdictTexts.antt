-- The verdict and its line as two pieces, and how long they are.
use Prim.Native.Nat.{ℕ, ◌+◌, ◌≤◌}
use mathlib.Core.List.{List, [], ◌∷◌, ◌++◌, append-nil}
use mathlib.Core.Path.{◌≡◌, sym, ap}
use native.Mathlib.Omega.{arith}
use lib.ListN.{length, length-append}
use mir.Syntax.{w64}
use mir.Val.{Fits}
use Rattle.lines.specs.Bytes.{bytes}
use Rattle.lines.specs.LineText.{numbers_text, line_text}
use Rattle.lines.proofs.Decimals.{decimal-20}
use Rattle.lines.proofs.LineTexts.{line-length, number-length}
use Rattle.writing.specs.Verdict.{verdict_text}

-- a number of 64 bits on a line of its own
number-most : {v : ℕ} → Fits w64 v → length (numbers_text (v ∷ [])) ≤ 21
number-most {v} f = omega (arith, number-length v, decimal-20 v f.fits)

module _ (verdict line : ℕ) where
  abbrev line1 : List ℕ
  line1 = line_text (bytes "verdict=") (verdict ∷ [])

  abbrev line2 : List ℕ
  line2 = line_text (bytes "line=") (line ∷ [])

  pub verdict-pieces : verdict_text verdict line ≡ line1 ++ (line2 ++ [])
  unfolding verdict_text
  verdict-pieces = ap (λ t. line1 ++ t) (sym (append-nil line2))

  pub verdict-length : length (verdict_text verdict line) ≡ 13 + length (numbers_text (verdict ∷ [])) + length (numbers_text (line ∷ []))
  unfolding verdict_text
  verdict-length = simp (length-append, line-length) (omega arith)

  pub verdict-most : Fits w64 verdict → Fits w64 line → length (verdict_text verdict line) ≤ 55
  verdict-most f g = omega (arith, verdict-length, number-most f, number-most g)
