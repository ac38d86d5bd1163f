-- A number that begins at a place of a text: where it ends, and what stands behind it.
use Rattle.std.proofs.Common.{◌≡◌, ℕ, suc, ◌+◌, ◌<◌, ◌≤◌, Bool, true, false, eqb, ltb, List, [], ◌∷◌, length, get_or, drop, sym, refl, ap, ◌∙◌, subst, add-one, arith, length-drop, drop_of_length-le, get_or-drop, drop-cons, drop-drop, ltb-true, le-ltb, lt-ltb, eq-eqb, ne_eqb, eqb-true, Option, Some, None}
use Rattle.std.specs.Bool.{then_some}
use Rattle.std.proofs.lemmas.Option.{some_pair_parts}
use mathlib.Core.Bool.{false≢true}
use borrow.Author.Tests.{eqb-false}
use Rattle.lines.specs.Number.{push_of, digits_of, number_of}
use Rattle.lines.specs.Parts.{until, parts, onto}
use Rattle.lines.specs.Place.{line, field, line_end, spell, spelled_at}
use Rattle.lines.specs.Steps.{ends_of, spelling, comma_at}
use Rattle.lines.proofs.Parts.{until-at, until-go, parts_at, parts-go}
use Rattle.lines.proofs.Numerals.{push-none, push-value}

-- ── a byte that ends a number ──

pub ends-comma : (b : ℕ) → b ≡ 44 → true ≡ ends_of b
unfolding ends_of
ends-comma b e = simp (eq-eqb b 44 e, ends_of)

pub ends-other : (b : ℕ) → (b ≡ 44 → ⊥) → eqb b 10 ≡ ends_of b
unfolding ends_of
ends-other b e = simp (ne_eqb b 44 e, ends_of)

not-lf : (b : ℕ) → ends_of b ≡ false → b ≡ 10 → ⊥
not-lf b h e = false≢true (sym h ∙ sym (ends-other b (λ k. omega arith)) ∙ eq-eqb b 10 e)

not-comma : (b : ℕ) → ends_of b ≡ false → b ≡ 44 → ⊥
not-comma b h e = false≢true (sym h ∙ sym (ends-comma b e))

ends-small : (b : ℕ) → ends_of b ≡ true → b < 48
ends-small b h = go (eqb b 44) refl
  where
    go : (y : Bool) → eqb b 44 ≡ y → b < 48
    go true q = let k : b ≡ 44 = eqb-true b 44 q in omega (arith, k)
    go false q = let k : b ≡ 10 = eqb-true b 10 (ends-other b (eqb-false b 44 q) ∙ h) in omega (arith, k)

digit-goes-on : (v b w : ℕ) → Some w ≡ push_of v b → ends_of b ≡ false
digit-goes-on v b w h = go (ends_of b) refl
  where
    go : (y : Bool) → ends_of b ≡ y → ends_of b ≡ false
    go true q =
        let s = ends-small b q in
        let n = push-none v b (λ k. absurd (omega arith)) in
        cc
    go false q = q

-- ── the first field of a line, byte by byte ──

field_end : (b : ℕ) (t : List ℕ) → ends_of b ≡ true → field (b ∷ t) ≡ []
unfolding until
field_end b t h = go (eqb b 10) refl (eqb b 44) refl
  where
    go : (x : Bool) → eqb b 10 ≡ x → (y : Bool) → eqb b 44 ≡ y → field (b ∷ t) ≡ []
    go true p y q = ap (until 44) (until-at 10 b t (eqb-true _ _ p))
    go false p true q =
        ap (until 44) (until-go 10 b t (eqb-false _ _ p)) ∙ until-at 44 b (until 10 t) (eqb-true _ _ q)
    go false p false q = absurd (false≢true (sym p ∙ ends-other b (eqb-false _ _ q) ∙ h))

field-go : (b : ℕ) (t : List ℕ) → ends_of b ≡ false → field (b ∷ t) ≡ b ∷ field t
field-go b t h =
    ap (until 44) (until-go 10 b t (not-lf b h)) ∙ until-go 44 b (until 10 t) (not-comma b h)

field_out : (s : List ℕ) (i : ℕ) → length s ≤ i → field (drop i s) ≡ []
unfolding until
field_out s i h = rw (drop_of_length-le s h) refl

module _ (s : List ℕ) (i : ℕ) (h : i < length s) where
  here : drop i s ≡ get_or s i 0 ∷ drop (i + 1) s
  here = rw add-one (drop-cons s i 0 h)

  field-stop : ends_of (get_or s i 0) ≡ true → field (drop i s) ≡ []
  field-stop e = ap field here ∙ field_end (get_or s i 0) (drop (i + 1) s) e

  field-on : ends_of (get_or s i 0) ≡ false → field (drop i s) ≡ get_or s i 0 ∷ field (drop (i + 1) s)
  field-on e = ap field here ∙ field-go (get_or s i 0) (drop (i + 1) s) e

-- ── digits read one by one ──

pub spelling-on : (v w : ℕ) (s : List ℕ) (i : ℕ) → i < length s → Some w ≡ push_of v (get_or s i 0) →
    spelling v s i ≡ spelling w s (i + 1)
unfolding spelling digits_of
spelling-on v w s i h e =
    let f = field-on s i h (digit-goes-on v (get_or s i 0) w e) in
    rw (f, ← e, digits_of) (ap (spell (digits_of w (field (drop (i + 1) s)))) (omega arith))

spelling-nothing : (v : ℕ) (s : List ℕ) (i : ℕ) → field (drop i s) ≡ [] → spelling v s i ≡ Some (v, i)
unfolding spelling digits_of
spelling-nothing v s i e = rw e (ap (λ e. Some (v, e)) (omega arith))

pub spelling-out : (v : ℕ) (s : List ℕ) (i : ℕ) → length s ≤ i → spelling v s i ≡ Some (v, i)
spelling-out v s i h = spelling-nothing v s i (field_out s i h)

pub spelling-stop : (v : ℕ) (s : List ℕ) (i : ℕ) → i < length s → ends_of (get_or s i 0) ≡ true → spelling v s i ≡ Some (v, i)
spelling-stop v s i h e = spelling-nothing v s i (field-stop s i h e)

pub spelling-bad : (v : ℕ) (s : List ℕ) (i : ℕ) → i < length s → ends_of (get_or s i 0) ≡ false →
    None ≡ push_of v (get_or s i 0) → spelling v s i ≡ None
unfolding spelling digits_of
spelling-bad v s i h g e = rw (field-on s i h g, ← e, digits_of) refl

-- what stands there is no digit: it ends the number, or there is none
pub spelling-ends : (v : ℕ) (s : List ℕ) (i : ℕ) (b : Bool) → i < length s → b ≡ ends_of (get_or s i 0) → None ≡ push_of v (get_or s i 0) →
    then_some b (v, i) ≡ spelling v s i
spelling-ends v s i true h e n = sym (spelling-stop v s i h (sym e))
spelling-ends v s i false h e n = sym (spelling-bad v s i h (sym e) n)

-- ── a whole number ──

spelled-nothing : (s : List ℕ) (at : ℕ) → field (drop at s) ≡ [] → None ≡ spelled_at s at
unfolding spelled_at number_of
spelled-nothing s at e = rw e refl

pub spelled_out : (s : List ℕ) (at : ℕ) → length s ≤ at → None ≡ spelled_at s at
spelled_out s at h = spelled-nothing s at (field_out s at h)

module _ (s : List ℕ) (at : ℕ) (h : at < length s) where
  spelled-as-digits : ends_of (get_or s at 0) ≡ false → (get_or s at 0 ≡ 48 → ⊥) → spelling 0 s at ≡ spelled_at s at
  unfolding spelling spelled_at number_of
  spelled-as-digits e n = rw (field-on s at h e, ne_eqb (get_or s at 0) 48 n, number_of) refl

  -- no digit stands there
  pub spelled_none : (48 ≤ get_or s at 0 → 57 < get_or s at 0) → None ≡ spelled_at s at
  spelled_none n = go (ends_of (get_or s at 0)) refl
    where
      go : (x : Bool) → ends_of (get_or s at 0) ≡ x → None ≡ spelled_at s at
      go true e = spelled-nothing s at (field-stop s at h e)
      go false e =
          sym (spelling-bad 0 s at h e (push-none 0 _ n))
          ∙ spelled-as-digits e (λ (k : get_or s at 0 ≡ 48). let l : 57 < get_or s at 0 = n (omega arith) in omega arith)

  -- a digit stands there
  module _ (d : ℕ) (is : d + 48 ≡ get_or s at 0) (k : d ≤ 9) where
    first : Some d ≡ push_of 0 (get_or s at 0)
    first = push-value 0 _ d is k d (omega arith) (omega arith)

    on : ends_of (get_or s at 0) ≡ false
    on = digit-goes-on 0 _ d first

    pub spelled-digits : (d ≡ 0 → ⊥) → spelling d s (at + 1) ≡ spelled_at s at
    spelled-digits n =
        sym (spelling-on 0 d s at h first) ∙ spelled-as-digits on (λ (e : get_or s at 0 ≡ 48). n (omega arith))

    module _ (n : d ≡ 0) where
      zero-there : get_or s at 0 ≡ 48
      zero-there = omega arith

      spelled-zero : field (drop (at + 1) s) ≡ [] → Some (0, at + 1) ≡ spelled_at s at
      unfolding spelled_at number_of
      spelled-zero f = rw (field-on s at h on, eq-eqb (get_or s at 0) 48 zero-there, f, number_of) refl

      pub spelled-zero-out : length s ≤ at + 1 → Some (0, at + 1) ≡ spelled_at s at
      spelled-zero-out l = spelled-zero (field_out s (at + 1) l)

      pub spelled-zero-stop : at + 1 < length s → ends_of (get_or s (at + 1) 0) ≡ true → Some (0, at + 1) ≡ spelled_at s at
      spelled-zero-stop l g = spelled-zero (field-stop s (at + 1) l g)

      pub spelled-lead : at + 1 < length s → ends_of (get_or s (at + 1) 0) ≡ false → None ≡ spelled_at s at
      unfolding spelled_at number_of
      spelled-lead l g =
          let m : length (field (drop (at + 1) s)) ≡ suc (length (field (drop (at + 1 + 1) s))) =
          ap length (field-on s (at + 1) l g) in
          rw (
            field-on s at h on,
            eq-eqb (get_or s at 0) 48 zero-there,
            ne_eqb (length (field (drop (at + 1) s))) 0 (omega (arith, m)),
            number_of,
          ) refl

-- ── what a number that was read tells ──

pub record Number (s : List ℕ) (at x e : ℕ) : Type 0 where
  pub is : number_of (field (drop at s)) ≡ Some x
  pub place : e ≡ at + length (field (drop at s))

pub ended : (s : List ℕ) (at x e : ℕ) → Some (x, e) ≡ spelled_at s at → Number s at x e
unfolding spelled_at
ended s at x e h = go (number_of (field (drop at s))) refl h
  where
    go : (n : Option ℕ) → number_of (field (drop at s)) ≡ n →
        Some (x, e) ≡ spell n (at + length (field (drop at s))) → Number s at x e
    go (Some y) p k = let q = some_pair_parts x y e _ k in record { is = p ∙ ap Some (sym q.0); place = q.1 }
    go None p k = cc

pub broken : (s : List ℕ) (at : ℕ) → None ≡ spelled_at s at → number_of (field (drop at s)) ≡ None
unfolding spelled_at
broken s at h = go (number_of (field (drop at s))) refl h
  where
    go : (n : Option ℕ) → number_of (field (drop at s)) ≡ n →
        None ≡ spell n (at + length (field (drop at s))) → number_of (field (drop at s)) ≡ None
    go (Some y) p k = cc
    go None p k = p

-- ── what stands behind the first field of a line ──

not_end : (b x : ℕ) (t f : List ℕ) → field (b ∷ t) ≡ x ∷ f → ends_of b ≡ false
not_end b x t f e = go (ends_of b) refl
  where
    go : (y : Bool) → ends_of b ≡ y → ends_of b ≡ false
    go true p = let h = field_end b t p in cc
    go false p = p

-- a field that is nothing ends at a line feed where no comma stands
ends-line : (b : ℕ) (t : List ℕ) → field (b ∷ t) ≡ [] → (b ≡ 44 → ⊥) → b ≡ 10
ends-line b t e n = go (eqb b 10) refl
  where
    go : (y : Bool) → eqb b 10 ≡ y → b ≡ 10
    go true p = eqb-true b 10 p
    go false p =
        let h = ap (until 44) (until-go 10 b t (eqb-false b 10 p)) ∙ until-go 44 b (until 10 t) n in cc

onto-cons : (b x : ℕ) (f : List ℕ) (ps qs : List (List ℕ)) → b ≡ x → ps ≡ f ∷ qs → onto b ps ≡ (x ∷ f) ∷ qs
unfolding onto
onto-cons b x f ps qs e h = ap (onto b) h ∙ ap (λ (z : ℕ). (z ∷ f) ∷ qs) e

-- a comma
abbrev Comma : List ℕ → List ℕ → Type 0
Comma t f =
    (parts 44 (line t) ≡ f ∷ parts 44 (line (drop (suc (length f)) t)))
    × (length (line t) ≡ suc (length f + length (line (drop (suc (length f)) t))))

comma-next : (t f : List ℕ) → field t ≡ f → length f < length t → get_or t (length f) 0 ≡ 44 → Comma t f
comma-next [] f e h g = absurd (omega arith)
comma-next (b ∷ t) [] e h g =
    let n : b ≡ 10 → ⊥ = λ (k : b ≡ 10). absurd (omega (arith, g, k)) in
    let u = until-go 10 b t n in
    (ap (parts 44) u ∙ parts_at 44 b (until 10 t) g, ap length u ∙ ap suc (omega arith))
comma-next (b ∷ t) (x ∷ f) e h g =
    let n = not_end b x t f e in
    let q : b ∷ field t ≡ x ∷ f = sym (field-go b t n) ∙ e in
    let i : b ≡ x = cc in
    let j : field t ≡ f = cc in
    let r = comma-next t f j (omega arith) g in
    let u = until-go 10 b t (not-lf b n) in (
      ap (parts 44) u ∙ parts-go 44 b (until 10 t) (not-comma b n) ∙ onto-cons b x f _ _ i r.0,
      ap length u ∙ ap suc r.1 ∙ omega arith,
    )

-- or the line's end
abbrev Last : List ℕ → List ℕ → Type 0
Last t f = (parts 44 (line t) ≡ f ∷ []) × (length (line t) ≡ length f)

line-end : (t f : List ℕ) → field t ≡ f → (length f < length t → get_or t (length f) 0 ≡ 44 → ⊥) → Last t f
unfolding until parts
line-end [] f e h = subst (λ (g : List ℕ). Last [] g) e (refl, refl)
line-end (b ∷ t) [] e h =
    let u = until-at 10 b t (ends-line b t e (h (omega arith))) in
    (ap (parts 44) u, ap length u)
line-end (b ∷ t) (x ∷ f) e h =
    let n = not_end b x t f e in
    let q : b ∷ field t ≡ x ∷ f = sym (field-go b t n) ∙ e in
    let i : b ≡ x = cc in
    let j : field t ≡ f = cc in
    let r = line-end t f j (λ (p : length f < length t). h (omega arith)) in
    let u = until-go 10 b t (not-lf b n) in (
      ap (parts 44) u ∙ parts-go 44 b (until 10 t) (not-comma b n) ∙ onto-cons b x f _ _ i r.0,
      ap length u ∙ ap suc r.1,
    )

-- whether a comma stands at e
pub comma-is : (s : List ℕ) (e : ℕ) → comma_at s e ≡ true → (e < length s) × (get_or s e 0 ≡ 44)
unfolding comma_at
comma-is s e h = go (ltb e (length s)) refl h
  where
    go : (x : Bool) → ltb e (length s) ≡ x → elim x [ true ↦ eqb (get_or s e 0) 44 | false ↦ false ] ≡ true →
        (e < length s) × (get_or s e 0 ≡ 44)
    go true p k = (ltb-true _ _ p, eqb-true _ _ k)
    go false p k = cc

comma-not : (s : List ℕ) (e : ℕ) → comma_at s e ≡ false → e < length s → get_or s e 0 ≡ 44 → ⊥
unfolding comma_at
comma-not s e h l g = false≢true (sym h ∙ simp (lt-ltb _ _ l, eq-eqb _ _ g, comma_at))

pub comma-inside : (s : List ℕ) (e : ℕ) → e < length s → eqb (get_or s e 0) 44 ≡ comma_at s e
unfolding comma_at
comma-inside s e h = simp (lt-ltb _ _ h, comma_at)

pub comma-outside : (s : List ℕ) (e : ℕ) → length s ≤ e → false ≡ comma_at s e
unfolding comma_at
comma-outside s e h = simp (le-ltb _ _ h, comma_at)

-- the same at a place of a text, where e is behind the field
module _ (s : List ℕ) (at e : ℕ) (i : e ≡ at + length (field (drop at s))) where
  pub behind-comma : comma_at s e ≡ true →
      (parts 44 (line (drop at s)) ≡ field (drop at s) ∷ parts 44 (line (drop (e + 1) s)))
      × (line_end s at ≡ line_end s (e + 1))
  behind-comma c =
      let h = comma-is s e c in
      let n = length (field (drop at s)) in
      let j : at + suc n ≡ e + 1 = omega arith in
      let d : drop (suc n) (drop at s) ≡ drop (e + 1) s = drop-drop (suc n) at s ∙ ap (λ (k : ℕ). drop k s) j in
      let r = comma-next (drop at s) (field (drop at s)) refl (omega (arith, length-drop at s, h.0))
      (get_or-drop at s n 0 ∙ ap (λ (k : ℕ). get_or s k 0) (sym i) ∙ h.1) in
      let u : length (line (drop at s)) ≡ suc (n + length (line (drop (e + 1) s))) =
      r.1 ∙ ap (λ (l : List ℕ). suc (n + length (line l))) d in
      (r.0 ∙ ap (λ (l : List ℕ). field (drop at s) ∷ parts 44 (line l)) d, omega (arith, u))

  pub behind-last : comma_at s e ≡ false →
      (parts 44 (line (drop at s)) ≡ field (drop at s) ∷ []) × (e ≡ line_end s at)
  behind-last c =
      let n = length (field (drop at s)) in
      let r = line-end (drop at s) (field (drop at s)) refl
      (λ (p : n < length (drop at s)). λ (g : get_or (drop at s) n 0 ≡ 44).
      comma-not s e c (omega (arith, p, length-drop at s)) (ap (λ (k : ℕ). get_or s k 0) i ∙ sym (get_or-drop at s n 0) ∙ g)) in
      (r.0, omega (arith, r.1))

-- what a number from a place on is, case by case
pub ruleset number_cases = (spelled_out, spelled_none, spelled-digits, spelled-zero-out, spelled-zero-stop, spelled-lead)

-- what is left of a number, byte by byte
pub ruleset spelling_cases = (spelling-on, spelling-out, spelling-ends)
