-- Laws of lines one behind the other.
use Rattle.std.proofs.Common.{◌≡◌, ℕ, ◌+◌, ◌<◌, ◌≤◌, List, [], ◌++◌, length, get_or, drop, sym, ap, ◌∙◌}
use Rattle.std.proofs.lemmas.List.{at_drop_more, at_drop_all}
use Rattle.lines.proofs.LineTexts.{line-length}
use Rattle.text.specs.Written.{lines_text}

module _ {A : Type 0} (f : A → List ℕ) (xs : List A) (i : ℕ) where
  -- line i and those behind it
  pub lines-next : (x : A) → i < length xs → x ≡ get_or xs i x → lines_text f (drop i xs) ≡ f x ++ lines_text f (drop (i + 1) xs)
  unfolding lines_text
  lines-next x h e = at_drop_more (lines_text f) xs i x h ∙ ap (λ y. f y ++ lines_text f (drop (i + 1) xs)) (sym e)

  pub lines-done : length xs ≤ i → lines_text f (drop i xs) ≡ []
  unfolding lines_text
  lines-done h = at_drop_all (lines_text f) xs i h

-- how long a line is
pub ruleset line_lengths = (line-length)
