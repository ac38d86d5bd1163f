-- The fields of a line, read one by one from a place on.
use Rattle.std.proofs.Common.{◌≡◌, ℕ, ◌+◌, ◌<◌, ◌≤◌, Bool, true, false, eqb, List, [], ◌∷◌, ◌++◌, length, get_or, take, drop, set, Some, None, sym, refl, ap, ◌∙◌, append_assoc, append-nil, add-one, arith, length-set, drop_of_length-le, take_all, take-suc-set, le-leb, eqb-true}
use mathlib.Core.Option.{Option, some, none}
use borrow.Author.Tests.{lt-leb, eqb-false}
use Rattle.std.specs.Bool.{then_some}
use Rattle.lines.specs.Number.{number_of}
use Rattle.lines.specs.Parts.{parts}
use Rattle.lines.specs.Line.{in_front, field_of, fields_of}
use Rattle.lines.specs.Place.{line, field, line_end, spelled_at, found, nothing, found_at, fields_at, found_in}
use Rattle.lines.specs.Steps.{comma_at}
use Rattle.std.proofs.lemmas.List.{drop_more}
use Rattle.lines.proofs.Parts.{first_part}
use Rattle.lines.proofs.Spelling.{ended, broken, behind-comma, behind-last}

-- ── one field more ──

module _ (m : ℕ) (ms : List ℕ) (p : List ℕ) (ps : List (List ℕ)) where
  fields-not : field_of m p ≡ None → fields_of (m ∷ ms) (p ∷ ps) ≡ none
  unfolding fields_of
  fields-not e = rw (e, fields_of) refl

  pub fields_value : (x : ℕ) → field_of m p ≡ Some x → fields_of (m ∷ ms) (p ∷ ps) ≡ in_front x (fields_of ms ps)
  unfolding fields_of
  fields_value x e = rw (e, fields_of) refl

module _ (m : ℕ) (p : List ℕ) where
  field-broken : number_of p ≡ None → field_of m p ≡ None
  unfolding field_of
  field-broken e = rw (e, field_of) refl

  module _ (x : ℕ) (e : number_of p ≡ Some x) where
    field-high : m < x → field_of m p ≡ None
    unfolding field_of
    field-high h = rw (e, lt-leb x m h, field_of) refl

    pub field_in : x ≤ m → field_of m p ≡ Some x
    unfolding field_of
    field_in h = rw (e, le-leb x m h, field_of) refl

-- ── the fields read so far in front of the others ──

abbrev behind : List ℕ → Option (List ℕ) → Option (List ℕ)
behind vs (some ws) = some (vs ++ ws)
behind vs none = none

behind-none : (o : Option (List ℕ)) → behind [] o ≡ o
behind-none (some ws) = refl
behind-none none = refl

behind_more : (vs : List ℕ) (x : ℕ) (o : Option (List ℕ)) → behind vs (in_front x o) ≡ behind (vs ++ x ∷ []) o
behind_more vs x (some ws) = ap some (sym (append_assoc vs (x ∷ []) ws))
behind_more vs x none = refl

-- The first i fields are in v, and the line goes on at p.
pub record Filling (s most : List ℕ) (at : ℕ) (v : List ℕ) (i p : ℕ) : Type 0 where
  pub room : length v ≡ length most
  pub end : line_end s at ≡ line_end s p
  pub rest :
      fields_of most (parts 44 (line (drop at s)))
      ≡ behind (take i v) (fields_of (drop i most) (parts 44 (line (drop p s))))

pub filling : (s most : List ℕ) (at : ℕ) (v : List ℕ) → length v ≡ length most → Filling s most at v 0 at
filling s most at v k = record { room = k; end = refl; rest = sym (behind-none _) }

module _ {s most : List ℕ} {at : ℕ} {v : List ℕ} {i p : ℕ} (r : Filling s most at v i p) where
  none-at : fields_of (drop i most) (parts 44 (line (drop p s))) ≡ none → nothing ≡ fields_at most s at
  unfolding fields_at
  none-at e = sym (ap (λ o. found_at o (line_end s at)) (r.rest ∙ ap (behind (take i v)) e))

  -- more parts than fields
  pub no-range : length most ≤ i → nothing ≡ fields_at most s at
  unfolding fields_of
  no-range h = none-at (rw (drop_of_length-le most h, (first_part 44 (line (drop p s))).1) refl)

  module _ (h : i < length most) where
    bad-field : field_of (get_or most i 0) (field (drop p s)) ≡ None → nothing ≡ fields_at most s at
    bad-field e =
        let q = first_part 44 (line (drop p s)) in
        none-at (rw (drop_more most i 0 h, q.1) (fields-not (get_or most i 0) _ (field (drop p s)) q.0 e))

    pub no_number : None ≡ spelled_at s p → nothing ≡ fields_at most s at
    no_number e = bad-field (field-broken _ _ (broken s p e))

    module _ (x e : ℕ) (k : Some (x, e) ≡ spelled_at s p) where
      pub too-high : get_or most i 0 < x → nothing ≡ fields_at most s at
      too-high g = bad-field (field-high (get_or most i 0) _ x (ended s p x e k).is g)

      module _ (g : x ≤ get_or most i 0) where
        take_more : take (i + 1) (set v i x) ≡ take i v ++ x ∷ []
        take_more = rw add-one (take-suc-set v i x (omega (arith, r.room)))

        next : (ps : List (List ℕ)) → parts 44 (line (drop p s)) ≡ field (drop p s) ∷ ps →
            fields_of most (parts 44 (line (drop at s)))
            ≡ behind (take (i + 1) (set v i x)) (fields_of (drop (i + 1) most) ps)
        next ps q =
            let f = field_in (get_or most i 0) (field (drop p s)) x (ended s p x e k).is g in
            let y : fields_of (drop i most) (parts 44 (line (drop p s))) ≡ in_front x (fields_of (drop (i + 1) most) ps) =
            rw (drop_more most i 0 h, q) (fields_value (get_or most i 0) (drop (i + 1) most) (field (drop p s)) ps x f) in
            r.rest
            ∙ ap (behind (take i v)) y
            ∙ behind_more (take i v) x (fields_of (drop (i + 1) most) ps)
            ∙ ap (λ vs. behind vs (fields_of (drop (i + 1) most) ps)) (sym take_more)

        pub goes_on : comma_at s e ≡ true → Filling s most at (set v i x) (i + 1) (e + 1)
        goes_on c =
            let b = behind-comma s p e (ended s p x e k).place c in
            record {
              room = length-set v i x ∙ r.room;
              end = r.end ∙ b.1;
              rest = next _ b.0;
            }

        module _ (c : comma_at s e ≡ false) where
          pub too_few : i + 1 < length most → nothing ≡ fields_at most s at
          unfolding fields_at fields_of
          too_few m =
              let b = behind-last s p e (ended s p x e k).place c in
              let y : fields_of (drop (i + 1) most) [] ≡ none = rw (drop_more most (i + 1) 0 m) refl in
              sym (ap (λ o. found_at o (line_end s at)) (next [] b.0 ∙ ap (behind (take (i + 1) (set v i x))) y))

          pub all : length most ≤ i + 1 → found (set v i x) e ≡ fields_at most s at
          unfolding fields_at fields_of
          all m =
              let b = behind-last s p e (ended s p x e k).place c in
              let j : e ≡ line_end s at = b.1 ∙ sym r.end in
              let w = take (i + 1) (set v i x) in
              let t : w ≡ set v i x = take_all (i + 1) (set v i x) (omega (arith, length-set v i x, r.room)) in
              let y : fields_of (drop (i + 1) most) [] ≡ some [] = rw (drop_of_length-le most m) refl in
              let z : fields_of most (parts 44 (line (drop at s))) ≡ some w =
              next [] b.0 ∙ ap (behind w) y ∙ ap some (append-nil w) in
              sym (ap (λ o. found_at o (line_end s at)) z ∙ ap (found w) (sym j) ∙ ap (λ l. found l e) t)

          pub last : (b : Bool) → b ≡ eqb (i + 1) (length most) → found_in (then_some b (set v i x, e)) ≡ fields_at most s at
          unfolding found_in
          last true q = all (omega (arith, eqb-true _ _ (sym q)))
          last false q = let n = eqb-false _ _ (sym q) in too_few (omega (arith, n))
