-- A text read line by line from a place on, whatever its kinds of line add.
use Rattle.std.proofs.Common.{◌≡◌, ℕ, suc, ◌+◌, ◌<◌, ◌≤◌, Bool, true, false, List, ◌∷◌, length, drop, refl, sym, ap, subst, ◌∙◌, arith, add-one, drop_of_length-le, length-drop}
use mathlib.Core.Option.{Option, some, none}
use lib.Dec.{ltb}
use borrow.Author.Tests.{lt-ltb, le-ltb, ltb-true, ltb-false}
use Rattle.basics.proofs.Tests.{clash}
use Rattle.lines.specs.Parts.{parts}
use Rattle.lines.specs.Place.{line, line_end}
use Rattle.lines.proofs.Parts.{first_part, parts-at-last, parts-at-next}
use Rattle.text.specs.Steps.{Adds, Stands, AddIs}
use Rattle.text.specs.Text.{readable, unreadable, Kind, within, add_line, read_lines, read_text}

-- the limit of a kind of line
module _ {A : Type 0} (n limit : ℕ) (x : A) where
  pub within-yes : n < limit → within n limit x ≡ some x
  unfolding within
  within-yes h = simp (lt-ltb n limit h, within)

  pub within-no : limit ≤ n → within n limit x ≡ none
  unfolding within
  within-no h = simp (le-ltb n limit h, within)

-- the lines before a place gave x, and line nr stands there
pub record Reading {S : Type 0} (ks : List (Kind S)) (x₀ : S) (s : List ℕ) (x : S) (nr at : ℕ) : Type 0 where
  pub inside : at ≤ length s
  pub lines : nr ≤ at + 1
  pub short : length s ≤ 65535
  pub rest : read_text ks x₀ s ≡ read_lines ks nr x (parts 10 (drop at s))

module _ {S : Type 0} (ks : List (Kind S)) (x₀ : S) (s : List ℕ) where
  pub reading-long : 65535 < length s → unreadable 0 ≡ read_text ks x₀ s
  unfolding read_text
  reading-long h = simp (lt-ltb 65535 (length s) h, read_text)

  pub reading-start : length s ≤ 65535 → Reading ks x₀ s x₀ 1 0
  unfolding read_text
  reading-start h =
      record {
        inside = omega arith;
        lines = omega arith;
        short = h;
        rest = simp (le-ltb 65535 (length s) h, read_text);
      }

module _ {S : Type 0} {ks : List (Kind S)} {x₀ : S} {s : List ℕ} {x : S} {nr at : ℕ} (r : Reading ks x₀ s x nr at) where
  pub reading-done : length s ≤ at → readable x ≡ read_text ks x₀ s
  unfolding read_lines parts
  reading-done h = sym (r.rest ∙ rw (drop_of_length-le s h) refl)

  module _ (h : at < length s) where
    -- what follows a line that ends in a line feed
    next : line_end s at < length s →
        read_text ks x₀ s
        ≡ elim (add_line ks x (line (drop at s))) [
          | some y ↦ read_lines ks (suc nr) y (parts 10 (drop (line_end s at + 1) s))
          | none ↦ unreadable nr
        ]
    unfolding read_lines
    next g =
        let p = line (drop at s) in
        let q = first_part 10 (drop (line_end s at + 1) s) in
        r.rest
        ∙ ap (read_lines ks nr x) (parts-at-next 10 s at (line_end s at) refl r.inside g)
        ∙ subst
        (λ (t : List (List ℕ)).
        read_lines ks nr x (p ∷ t) ≡ elim (add_line ks x p) [ some y ↦ read_lines ks (suc nr) y t | none ↦ unreadable nr ])
        (sym q.1)
        refl

    -- the line has no line feed
    pub reading-cut : length s ≤ line_end s at → unreadable nr ≡ read_text ks x₀ s
    unfolding read_lines
    reading-cut g =
        sym (r.rest ∙ rw (
          parts-at-last 10 s at (line_end s at) refl r.inside g,
          lt-ltb 0 (length (drop at s)) (omega (arith, length-drop at s)),
          read_lines,
        ) refl)

    -- the line may not stand here, whether or not it ends in a line feed
    pub reading-none : add_line ks x (line (drop at s)) ≡ none → unreadable nr ≡ read_text ks x₀ s
    reading-none e = go (ltb (line_end s at) (length s)) refl
      where
        go : (b : Bool) → ltb (line_end s at) (length s) ≡ b → unreadable nr ≡ read_text ks x₀ s
        go true p = sym (next (ltb-true _ _ p) ∙ rw e refl)
        go false p = reading-cut (ltb-false _ _ p)

    pub reading-taken : line_end s at < length s → (y : S) → add_line ks x (line (drop at s)) ≡ some y →
        Reading ks x₀ s y (nr + 1) (line_end s at + 1)
    reading-taken g y a =
        let j : read_text ks x₀ s ≡ read_lines ks (suc nr) y (parts 10 (drop (line_end s at + 1) s)) = next g ∙ rw a refl in
        record {
          inside = omega (arith, g);
          lines = omega (arith, r.lines);
          short = r.short;
          rest = subst (λ n. read_text ks x₀ s ≡ read_lines ks n y (parts 10 (drop (line_end s at + 1) s))) (sym (add-one nr)) j;
        }

    -- the same of the line's record
    module _ {L : Type 0} {adds : Adds L S} {least e : ℕ} {l : L} (t : Stands ks adds least s at l e) where
      pub stands-cut : length s ≤ e → unreadable nr ≡ read_text ks x₀ s
      stands-cut g = reading-cut (omega (arith, t.end))

      pub stands-refused : adds l x ≡ none → unreadable nr ≡ read_text ks x₀ s
      stands-refused a = reading-none (t.added x ∙ a)

      pub stands-taken : e < length s → (y : S) → adds l x ≡ some y → Reading ks x₀ s y (nr + 1) (e + 1)
      stands-taken g y a = rw t.end (reading-taken (omega (arith, t.end)) y (t.added x ∙ a))

-- whether a line joined
module _ {S : Type 0} {o : Option S} (y : S) (K : Type 0) where
  pub joined : (b : Bool) → AddIs o y K b → b ≡ true → (o ≡ some y) × K
  joined true h e = h
  joined false h e = clash (cc)

  pub not-joined : (b : Bool) → AddIs o y K b → b ≡ false → o ≡ none
  not-joined true h e = clash (cc)
  not-joined false h e = h
