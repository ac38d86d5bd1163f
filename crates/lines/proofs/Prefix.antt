-- Laws of the word that begins a line.
use Rattle.std.proofs.Common.{◌≡◌, ℕ, suc, ◌+◌, Bool, true, false, not, ◌&&◌, eqb, List, [], ◌∷◌, ◌++◌, length, drop, sym, refl, ap, ◌∙◌, arith, eq-eqb, ne_eqb, eqb-true}
use Rattle.std.proofs.lemmas.Bool.Decides.{nat_tests}
use Rattle.std.specs.List.{starts_with}
use borrow.Author.Tests.{eqb-false}
use Rattle.lines.specs.Parts.{until}
use Rattle.lines.specs.Line.{prefix}
use Rattle.lines.specs.Place.{line}
use Rattle.lines.proofs.Parts.{until-go}

eqb-swap : (x y : ℕ) → eqb x y ≡ eqb y x
eqb-swap x y = grind (arith, nat_tests)

-- the library's test is ours
pub starts_prefix : (w s : List ℕ) → starts_with eqb s w ≡ prefix w s
unfolding prefix
starts_prefix [] s = refl
starts_prefix (x ∷ w) [] = refl
starts_prefix (x ∷ w) (b ∷ s) = rw (eqb-swap x b, starts_prefix w s) refl

prefix_head : (x b : ℕ) (w t : List ℕ) → prefix (x ∷ w) (b ∷ t) ≡ true → (b ≡ x) × (prefix w t ≡ true)
unfolding prefix
prefix_head x b w t h = go (eqb b x) refl h
  where
    go : (y : Bool) → eqb b x ≡ y → y && prefix w t ≡ true → (b ≡ x) × (prefix w t ≡ true)
    go true p k = (eqb-true b x p, k)
    go false p k = cc

pub prefix-self : (w s : List ℕ) → prefix w (w ++ s) ≡ true
unfolding prefix
prefix-self [] s = refl
prefix-self (b ∷ w) s = rw (eq-eqb b b refl) (prefix-self w s)

-- ── a word without a line feed stands in front of a line as in front of the text ──

-- no byte of w is a line feed
unfoldable pub unbroken : List ℕ → Bool
unbroken [] = true
unbroken (x ∷ w) = not (eqb x 10) && unbroken w

pub unbroken-head : (x : ℕ) (w : List ℕ) → unbroken (x ∷ w) ≡ true → (x ≡ 10 → ⊥) × (unbroken w ≡ true)
unfolding unbroken
unbroken-head x w h = go (eqb x 10) refl h
  where
    go : (y : Bool) → eqb x 10 ≡ y → not y && unbroken w ≡ true → (x ≡ 10 → ⊥) × (unbroken w ≡ true)
    go true p k = cc
    go false p k = (eqb-false x 10 p, k)

pub prefix-line : (w t : List ℕ) → unbroken w ≡ true → prefix w (line t) ≡ prefix w t
unfolding prefix until
prefix-line [] t h = refl
prefix-line (x ∷ w) [] h = refl
prefix-line (x ∷ w) (b ∷ t) h = go (eqb b 10) refl (prefix-line w t (unbroken-head x w h).1)
  where
    go : (y : Bool) → eqb b 10 ≡ y → prefix w (line t) ≡ prefix w t →
        prefix (x ∷ w) (elim y [ true ↦ [] | false ↦ b ∷ until 10 t ]) ≡ prefix (x ∷ w) (b ∷ t)
    go true p ih = rw (ne_eqb b x (λ (k : b ≡ x). (unbroken-head x w h).0 (sym k ∙ eqb-true b 10 p))) refl
    go false p ih = ap (λ (z : Bool). eqb b x && z) ih

-- behind the word
abbrev Behind : List ℕ → List ℕ → Type 0
Behind w t =
    (drop (length w) (line t) ≡ line (drop (length w) t))
    × (length (line t) ≡ length w + length (line (drop (length w) t)))

pub behind-word : (w t : List ℕ) → unbroken w ≡ true → prefix w t ≡ true → Behind w t
unfolding prefix until
behind-word [] t h k = (refl, omega arith)
behind-word (x ∷ w) [] h k = cc
behind-word (x ∷ w) (b ∷ t) h k =
    let f = unbroken-head x w h in
    let p = prefix_head x b w t k in
    let u = until-go 10 b t (λ (e : b ≡ 10). f.0 (sym p.0 ∙ e)) in
    let r = behind-word w t f.1 p.1 in
    (ap (drop (suc (length w))) u ∙ r.0, ap length u ∙ ap suc r.1 ∙ omega arith)
