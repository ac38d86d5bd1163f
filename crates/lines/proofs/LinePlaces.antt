-- Laws of a line that begins at a place of a text.
use Rattle.std.proofs.Common.{◌≡◌, ℕ, ◌+◌, ◌-◌, ◌<◌, ◌≤◌, Bool, true, false, eqb, List, [], ◌∷◌, length, take, drop, sym, refl, ap, ◌∙◌, arith, drop_of_length-le, drop-drop}
use Rattle.lines.specs.Number.{number_of}
use Rattle.lines.specs.Parts.{until, parts}
use Rattle.lines.specs.Line.{Format, prefix, field_of, fields_of, line_of}
use Rattle.lines.specs.Place.{line, line_end, nothing, found_at, fields_at, line_at}
use Rattle.std.proofs.lemmas.List.{take_rest}
use Rattle.std.specs.List.{starts_with}
use Rattle.lines.proofs.Prefix.{starts_prefix, unbroken, prefix-line, behind-word}

-- no field stands past the end
fields_out : (rs : List ℕ) (s : List ℕ) (at : ℕ) → length s ≤ at → fields_at rs s at ≡ nothing
unfolding fields_at fields_of field_of number_of parts until
fields_out [] s at h = rw (drop_of_length-le s h) refl
fields_out (r ∷ rs) s at h = rw (drop_of_length-le s h) refl

-- what a test of the word in `part`, the text from a place on, tells
pub word_test : (w s part : List ℕ) (at : ℕ) (b v : Bool) → part ≡ take (length s - at) (drop at s) → b ≡ starts_with eqb part w → b ≡ v →
    prefix w (drop at s) ≡ v
word_test w s part at b v h k e = ap (prefix w) (sym (h ∙ take_rest s at)) ∙ sym (starts_prefix w part) ∙ sym k ∙ e

module _ (w : List ℕ) (rs : List ℕ) (s : List ℕ) (at : ℕ) where
  abbrev format : Format
  format = record { word = w; largest = rs }

  pub line-here : prefix w (drop at s) ≡ true → fields_at rs s (at + length w) ≡ line_at format s at
  unfolding line_at
  line-here e = simp (e, line_at)

  pub line_other : prefix w (drop at s) ≡ false → nothing ≡ line_at format s at
  unfolding line_at
  line_other e = simp (e, line_at)

  pub line-out : length s < at → nothing ≡ line_at format s at
  line-out h = go (prefix w (drop at s)) refl
    where
      go : (b : Bool) → prefix w (drop at s) ≡ b → nothing ≡ line_at format s at
      go true e = sym (fields_out rs s (at + length w) (omega arith)) ∙ line-here e
      go false e = line_other e

-- A word without a line feed: the line from a place on is the text's line there.
pub line-of : (f : Format) → unbroken f.word ≡ true → (s : List ℕ) (at : ℕ) →
    line_at f s at ≡ found_at (line_of f (line (drop at s))) (line_end s at)
unfolding line_of fields_at
line-of f u s at = go (prefix f.word (drop at s)) refl
  where
    go : (b : Bool) → prefix f.word (drop at s) ≡ b →
        line_at f s at ≡ found_at (line_of f (line (drop at s))) (line_end s at)
    go true e =
        let w = f.word in
        let b = behind-word w (drop at s) u e in
        let d : line (drop (length w) (drop at s)) ≡ line (drop (at + length w) s) = ap line (drop-drop (length w) at s) in
        let l : line_end s (at + length w) ≡ line_end s at = omega (arith, b.1, ap length d) in
        let i : drop (length w) (line (drop at s)) ≡ line (drop (at + length w) s) = b.0 ∙ d in
        sym (line-here w f.largest s at e)
        ∙ rw (prefix-line w (drop at s) u, e, i, l, line_of) refl
    go false e =
        sym (line_other f.word f.largest s at e)
        ∙ rw (prefix-line f.word (drop at s) u, e, line_of) refl
