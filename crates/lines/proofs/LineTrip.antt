-- A line that was written reads back; the numbers of a line that was read are in their ranges.
use Rattle.std.proofs.Common.{◌≡◌, ℕ, zero, suc, ◌+◌, ◌/◌, ◌%◌, ◌<◌, ◌≤◌, Bool, true, false, eqb, ltb, leb, List, [], ◌∷◌, ◌++◌, map, length, drop, sym, refl, ap, ◌∙◌, append_assoc, arith, drop_of_length-le, ltb-false, ltb-true, eq-eqb, ne_eqb, leb-true, Some, None}
use Rattle.std.proofs.Common.{Option as RustOption}
use mathlib.Core.Option.{Option, some, none}
use lib.Seq.{drop-append_seam}
use Rattle.lines.specs.Number.{number_of}
use Rattle.lines.specs.Decimal.{decimal}
use Rattle.lines.specs.Parts.{parts, onto}
use Rattle.lines.specs.Line.{Format, InRange, InRanges, prefix, in_front, field_of, fields_of, line_of}
use Rattle.lines.specs.LineText.{numbers_text, line_text, widest}
use Rattle.lines.proofs.Decimals.{decimal-small, decimal-big, decimal-mono}
use Rattle.lines.proofs.NumberTrip.{number-back, number_fits}
use Rattle.lines.proofs.Prefix.{prefix-self, unbroken, unbroken-head}
use Rattle.lines.proofs.FieldLaws.{field_in, fields_value}
use Rattle.lines.proofs.LineTexts.{separator-comma, separator-feed, numbers_more, line-text, line-length}

-- no byte of s is c
abbrev pub Free : ℕ → List ℕ → Type 0
Free c [] = Unit {0}
Free c (b ∷ s) = (eqb b c ≡ false) × Free c s

pub free-append : (c : ℕ) (s t : List ℕ) → Free c s → Free c t → Free c (s ++ t)
free-append c [] t f g = g
free-append c (b ∷ s) t f g = (f.0, free-append c s t f.1 g)

pub parts_free : (c : ℕ) (s : List ℕ) → Free c s → parts c s ≡ s ∷ []
unfolding parts onto
parts_free c [] f = refl
parts_free c (b ∷ s) f = rw (f.0, parts) (rw (parts_free c s f.1) refl)

pub parts-glue : (c : ℕ) (s r : List ℕ) → Free c s → parts c (s ++ c ∷ r) ≡ s ∷ parts c r
unfolding parts onto
parts-glue c [] r f = rw (eq-eqb c c refl, parts) refl
parts-glue c (b ∷ s) r f = rw (f.0, parts) (rw (parts-glue c s r f.1) refl)

-- digits are no separators
pub decimal-free : (c k v : ℕ) → c < 48 → v ≤ k → Free c (decimal v)
decimal-free c zero v h g = rw (decimal-small v (omega arith)) (ne_eqb (48 + v) c (λ e. omega arith), tt)
decimal-free c (suc k) v h g = go (ltb v 10) refl (decimal-free c k (v / 10) h)
  where
    go : (b : Bool) → ltb v 10 ≡ b → (v / 10 ≤ k → Free c (decimal (v / 10))) → Free c (decimal v)
    go true e ih = rw (decimal-small v (ltb-true v 10 e)) (ne_eqb (48 + v) c (λ e. omega arith), tt)
    go false e ih =
        rw (decimal-big v (ltb-false v 10 e))
        (free-append c (decimal (v / 10)) _ (ih (omega (arith, ltb-false v 10 e))) (ne_eqb (48 + v % 10) c (λ e. omega arith), tt))

-- the numbers without the line feed
unfoldable pub joined : ℕ → List ℕ → List ℕ
joined v [] = decimal v
joined v (u ∷ vs) = decimal v ++ 44 ∷ joined u vs

pub numbers-joined : (v : ℕ) (vs : List ℕ) → numbers_text (v ∷ vs) ≡ joined v vs ++ 10 ∷ []
unfolding numbers_text joined
numbers-joined v [] = ap (λ (b : ℕ). decimal v ++ b ∷ []) (sym (separator-feed 0 0 (omega arith)))
numbers-joined v (u ∷ vs) =
    ap (λ (b : ℕ). decimal v ++ b ∷ numbers_text (u ∷ vs)) (sym (separator-comma 0 (length (u ∷ vs)) (omega arith)))
    ∙ ap (λ (l : List ℕ). decimal v ++ 44 ∷ l) (numbers-joined u vs)
    ∙ sym (append_assoc (decimal v) (44 ∷ joined u vs) (10 ∷ []))

pub joined_free : (v : ℕ) (vs : List ℕ) → Free 10 (joined v vs)
unfolding joined
joined_free v [] = decimal-free 10 v v (omega arith) (omega arith)
joined_free v (u ∷ vs) = free-append 10 (decimal v) _ (decimal-free 10 v v (omega arith) (omega arith)) (refl, joined_free u vs)

parts-joined : (v : ℕ) (vs : List ℕ) → parts 44 (joined v vs) ≡ map decimal (v ∷ vs)
unfolding joined
parts-joined v [] = parts_free 44 (decimal v) (decimal-free 44 v v (omega arith) (omega arith))
parts-joined v (u ∷ vs) =
    parts-glue 44 (decimal v) (joined u vs) (decimal-free 44 v v (omega arith) (omega arith))
    ∙ ap (λ (l : List (List ℕ)). decimal v ∷ l) (parts-joined u vs)

-- each number in its range
pub fields_back : (rs : List ℕ) (vs : List ℕ) → InRanges rs vs → fields_of rs (map decimal vs) ≡ some vs
unfolding fields_of
fields_back [] [] h = refl
fields_back [] (v ∷ vs) h = absurd h
fields_back (r ∷ rs) [] h = absurd h
fields_back (r ∷ rs) (v ∷ vs) h =
    fields_value r rs (decimal v) (map decimal vs) v
    (field_in r (decimal v) v (number-back v h.0.fits) h.0.below)
    ∙ ap (in_front v) (fields_back rs vs h.1)

-- the numbers of a line that was written
pub line-back : (f : Format) (v : ℕ) (vs : List ℕ) → InRanges f.largest (v ∷ vs) →
    line_of f (f.word ++ joined v vs) ≡ some (v ∷ vs)
unfolding line_of
line-back f v vs k =
    rw (
      prefix-self f.word (joined v vs),
      drop-append_seam f.word (joined v vs),
      parts-joined v vs,
      line_of,
    ) (fields_back f.largest (v ∷ vs) k)

-- no other word begins the line
pub line-not : (f : Format) (p : List ℕ) → prefix f.word p ≡ false → line_of f p ≡ none
unfolding line_of
line-not f p e = rw (e, line_of) refl

unbroken-free : (w : List ℕ) → unbroken w ≡ true → Free 10 w
unbroken-free [] u = tt
unbroken-free (x ∷ w) u = let h = unbroken-head x w u in (ne_eqb x 10 h.0, unbroken-free w h.1)

-- a written line is its bytes up to the line feed, of which it has one
pub line-free : (w : List ℕ) (v : ℕ) (vs : List ℕ) → unbroken w ≡ true → Free 10 (w ++ joined v vs)
line-free w v vs u = free-append 10 w (joined v vs) (unbroken-free w u) (joined_free v vs)

pub line-joined : (w : List ℕ) (v : ℕ) (vs r : List ℕ) → line_text w (v ∷ vs) ++ r ≡ (w ++ joined v vs) ++ 10 ∷ r
line-joined w v vs r =
    ap (λ l. l ++ r)
    (line-text w (v ∷ vs) ∙ ap (λ l. w ++ l) (numbers-joined v vs) ∙ sym (append_assoc w (joined v vs) (10 ∷ [])))
    ∙ append_assoc (w ++ joined v vs) (10 ∷ []) r

-- ── what was read is in range ──

field-range : (most : ℕ) (p : List ℕ) (v : ℕ) → field_of most p ≡ Some v → InRange most v
unfolding field_of
field-range most p v e = go (number_of p) refl e
  where
    go : (n : RustOption ℕ) → number_of p ≡ n → elim n [ Some x ↦ elim (leb x most) [ true ↦ Some x | false ↦ None ] | None ↦ None ] ≡ Some v →
        InRange most v
    go None q k = cc
    go (Some x) q k = test (leb x most) refl k
      where
        test : (b : Bool) → leb x most ≡ b → elim b [ true ↦ Some x | false ↦ None ] ≡ Some v → InRange most v
        test true i k =
            let h : x ≡ v = cc in
            record { below = omega (arith, leb-true x most i, h); fits = omega (arith, number_fits p x q, h) }
        test false i k = cc

fields-range : (rs : List ℕ) (ps : List (List ℕ)) (vs : List ℕ) → fields_of rs ps ≡ some vs → InRanges rs vs
unfolding fields_of
fields-range [] [] [] e = tt
fields-range [] [] (v ∷ vs) e = cc
fields-range [] (p ∷ ps) vs e = cc
fields-range (r ∷ rs) [] vs e = cc
fields-range (r ∷ rs) (p ∷ ps) vs e = go (field_of r p) (fields_of rs ps) refl refl vs e (fields-range rs ps)
  where
    go : (n : RustOption ℕ) (o : Option (List ℕ)) → field_of r p ≡ n → fields_of rs ps ≡ o → (us : List ℕ) →
        elim n [ Some v ↦ in_front v o | None ↦ none ] ≡ some us →
        ((ws : List ℕ) → fields_of rs ps ≡ some ws → InRanges rs ws) → InRanges (r ∷ rs) us
    go (Some v) (some ws) i j [] k ih = cc
    go (Some v) (some ws) i j (u ∷ us) k ih =
        let h : v ≡ u = cc in
        let g : ws ≡ us = cc in
        (field-range r p u (i ∙ ap Some h), ih us (j ∙ ap some g))
    go (Some v) none i j us k ih = cc
    go None o i j us k ih = cc

pub line-range : (f : Format) (p vs : List ℕ) → line_of f p ≡ some vs → InRanges f.largest vs
unfolding line_of
line-range f p vs e = go (prefix f.word p) e
  where
    go : (b : Bool) →
        elim b [ true ↦ fields_of f.largest (parts 44 (drop (length f.word) p)) | false ↦ none ] ≡ some vs →
        InRanges f.largest vs
    go true k = fields-range f.largest (parts 44 (drop (length f.word) p)) vs k
    go false k = cc

-- a line has a number behind its word
no_fields : (rs : List ℕ) → fields_of rs (parts 44 []) ≡ none
unfolding fields_of field_of number_of parts
no_fields [] = refl
no_fields (r ∷ rs) = refl

pub line-longer : (f : Format) (p vs : List ℕ) → line_of f p ≡ some vs → length f.word < length p
unfolding line_of
line-longer f p vs e = go (prefix f.word p) refl e (ltb (length f.word) (length p)) refl
  where
    go : (b : Bool) → prefix f.word p ≡ b →
        elim b [ true ↦ fields_of f.largest (parts 44 (drop (length f.word) p)) | false ↦ none ] ≡ some vs →
        (x : Bool) → ltb (length f.word) (length p) ≡ x → length f.word < length p
    go true q k true l = ltb-true _ _ l
    go true q k false l =
        let d : drop (length f.word) p ≡ [] = drop_of_length-le p (ltb-false _ _ l) in
        let n = sym (no_fields f.largest) ∙ ap (λ t. fields_of f.largest (parts 44 t)) (sym d) ∙ k in
        cc
    go false q k x l = cc

-- ── how long a written line is at most ──

numbers-bound : (rs : List ℕ) (vs : List ℕ) → InRanges rs vs → length (numbers_text vs) ≤ widest rs
unfolding numbers_text
numbers-bound [] [] h = omega arith
numbers-bound [] (v ∷ vs) h = absurd h
numbers-bound (r ∷ rs) [] h = absurd h
numbers-bound (r ∷ rs) (v ∷ vs) h =
    omega (arith, numbers_more v vs, decimal-mono r v r (omega arith) h.0.below, numbers-bound rs vs h.1)

pub line-bound : (f : Format) (vs : List ℕ) → InRanges f.largest vs →
    length (line_text f.word vs) ≤ length f.word + widest f.largest
line-bound f vs h = omega (arith, line-length f.word vs, numbers-bound f.largest vs h)
