-- Laws of the parts of a list of bytes.
use Rattle.std.proofs.Common.{◌≡◌, ℕ, suc, ◌+◌, ◌<◌, ◌≤◌, Bool, true, false, eqb, List, [], ◌∷◌, length, drop, refl, ap, arith, length-drop, drop-drop, eq-eqb, ne_eqb}
use Rattle.lines.specs.Parts.{until, onto, parts}

-- one byte further
module _ (c b : ℕ) (t : List ℕ) where
  module _ (e : b ≡ c) where
    pub until-at : until c (b ∷ t) ≡ []
    unfolding until
    until-at = simp (eq-eqb b c e, until)

    pub parts_at : parts c (b ∷ t) ≡ [] ∷ parts c t
    unfolding parts
    parts_at = simp (eq-eqb b c e, parts)

  module _ (e : b ≡ c → ⊥) where
    pub until-go : until c (b ∷ t) ≡ b ∷ until c t
    unfolding until
    until-go = simp (ne_eqb b c e, until)

    pub parts-go : parts c (b ∷ t) ≡ onto b (parts c t)
    unfolding parts
    parts-go = simp (ne_eqb b c e, parts)

-- the first part is what stands before the first c
pub first_part : (c : ℕ) (t : List ℕ) → (ps : List (List ℕ)) × (parts c t ≡ until c t ∷ ps)
unfolding parts until onto
first_part c [] = ([], refl)
first_part c (b ∷ t) = go (eqb b c) (first_part c t)
  where
    go : (x : Bool) → (ps : List (List ℕ)) × (parts c t ≡ until c t ∷ ps) →
        (ps : List (List ℕ)) × (
        elim x [ true ↦ [] ∷ parts c t | false ↦ onto b (parts c t) ]
        ≡ elim x [ true ↦ [] | false ↦ b ∷ until c t ] ∷ ps)
    go true r = (parts c t, refl)
    go false r = (r.0, ap (onto b) r.1)

-- one part is all, or the first and then the rest's
pub parts_last : (c : ℕ) (s : List ℕ) → length s ≤ length (until c s) → parts c s ≡ s ∷ []
unfolding parts until onto
parts_last c [] h = refl
parts_last c (b ∷ s) h = go (eqb b c) h (parts_last c s)
  where
    go : (t : Bool) → suc (length s) ≤ length {A = ℕ} (elim t [ true ↦ [] | false ↦ b ∷ until c s ]) →
        (length s ≤ length (until c s) → parts c s ≡ s ∷ []) →
        elim t [ true ↦ [] ∷ parts c s | false ↦ onto b (parts c s) ] ≡ (b ∷ s) ∷ []
    go true k ih = absurd (omega arith)
    go false k ih = rw (ih (omega arith)) refl

pub parts_next : (c : ℕ) (s : List ℕ) → length (until c s) < length s →
    parts c s ≡ until c s ∷ parts c (drop (suc (length (until c s))) s)
unfolding parts until onto
parts_next c [] h = absurd (omega arith)
parts_next c (b ∷ s) h = go (eqb b c) h (parts_next c s)
  where
    go : (t : Bool) → length {A = ℕ} (elim t [ true ↦ [] | false ↦ b ∷ until c s ]) < suc (length s) →
        (length (until c s) < length s → parts c s ≡ until c s ∷ parts c (drop (suc (length (until c s))) s)) →
        elim t [ true ↦ [] ∷ parts c s | false ↦ onto b (parts c s) ]
        ≡ elim t [ true ↦ [] | false ↦ b ∷ until c s ] ∷ parts c (drop (length {A = ℕ} (elim t [ true ↦ [] | false ↦ b ∷ until c s ])) s)
    go true k ih = refl
    go false k ih = rw (ih (omega arith)) refl

-- the same from a place on, where e is the place of the first c behind it or the end
module _ (c : ℕ) (s : List ℕ) (at e : ℕ) (f : e ≡ at + length (until c (drop at s))) (h : at ≤ length s) where
  pub parts-at-last : length s ≤ e → parts c (drop at s) ≡ drop at s ∷ []
  parts-at-last g = parts_last c (drop at s) (omega (arith, length-drop at s))

  pub parts-at-next : e < length s → parts c (drop at s) ≡ until c (drop at s) ∷ parts c (drop (e + 1) s)
  parts-at-next g =
      let l : e + 1 ≡ at + suc (length (until c (drop at s))) = omega arith in
      rw (l, ← drop-drop (suc (length (until c (drop at s)))) at s)
      (parts_next c (drop at s) (omega (arith, length-drop at s)))
