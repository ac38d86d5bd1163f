-- Rows 4 and 6 as facts of trace and `of` lines.
use mathlib.Core.Bool.{Bool, true, false, not}
use mathlib.Core.List.{List, [], ◌∷◌}
use mathlib.Core.Logic.{◌↔◌}
use mathlib.Core.Option.{none}
use mathlib.Core.Path.{◌≡◌, refl}
use Prim.Native.Nat.{ℕ, suc}
use Rattle.basics.specs.Lists.{All}
use Rattle.basics.proofs.Tests.{clash, by_eq, eqb_yes, false-or, not-false}
use Rattle.text.specs.declared.report.Of.{Of}
use Rattle.text.specs.declared.trace.Event.TheVariants.{Request, Response}
use Rattle.text.specs.declared.trace.Event.{Event}
use Rattle.model.specs.Requests.{bad4, row4, row6_from, row6}
use Rattle.model.specs.Batch.{Batch, requested, answered}
use Rattle.model.proofs.Scans.{Clean, scan-clean, clean-scan}

-- a rid is requested once, and a response closes an open request; `past` are the earlier events, latest first
abbrev pub InOrder : List Event → List Event → Type 0
InOrder past [] = Unit {0}
InOrder past (Request r prog a b ∷ es) = (requested r past ≡ false) × InOrder (Request r prog a b ∷ past) es
InOrder past (Response r s v ∷ es) = (requested r past ≡ true) × (answered r past ≡ false) × InOrder (Response r s v ∷ past) es

-- a request's program is one that there is
abbrev pub KnownIn : (ℕ → Bool) → Event → Type 0
KnownIn known (Request r prog a b) = known prog ≡ true
KnownIn known (Response r s v) = Unit {0}

-- one `of` line for each request, in arrival order
abbrev pub Matching : List Event → List Of → Type 0
Matching [] [] = Unit {0}
Matching [] (x ∷ xs) = ⊥
Matching (Request r prog a b ∷ es) [] = ⊥
Matching (Request r prog a b ∷ es) (x ∷ xs) = (x.rid ≡ r) × Matching es xs
Matching (Response r s v ∷ es) xs = Matching es xs

-- what rows 4 and 6 leave, but for unknown programs, which the theorems on orders do not need
pub record Formed (b : Batch) : Type 0 where
  pub in_order : InOrder [] b.trace
  pub matching : Matching b.trace b.ofs

module _ (known : ℕ → Bool) where
  clean4 : (past es : List Event) → Clean (bad4 known) past es → InOrder past es × All (KnownIn known) es
  clean4 past [] h = (tt, tt)
  clean4 past (Request r prog a b ∷ es) h =
      let g = false-or (requested r past) (not (known prog)) h.0 in
      let t = clean4 (Request r prog a b ∷ past) es h.1 in
      ((g.0, t.0), (not-false (known prog) g.1, t.1))
  clean4 past (Response r s v ∷ es) h =
      let g = false-or (not (requested r past)) (answered r past) h.0 in
      let t = clean4 (Response r s v ∷ past) es h.1 in
      ((not-false (requested r past) g.0, g.1, t.0), (tt, t.1))

  order4 : (past es : List Event) → InOrder past es → All (KnownIn known) es → Clean (bad4 known) past es
  order4 past [] o k = tt
  order4 past (Request r prog a b ∷ es) o k = (rw (o.0, k.0), order4 (Request r prog a b ∷ past) es o.1 k.1)
  order4 past (Response r s v ∷ es) o k = (rw (o.0, o.1), order4 (Response r s v ∷ past) es o.2 k.1)

  pub row4-order : (trace : List Event) → (row4 known trace ≡ none) ↔ (InOrder [] trace × All (KnownIn known) trace)
  row4-order trace = (
    λ e. clean4 [] trace (scan-clean (bad4 known) 1 [] trace e),
    λ h. clean-scan (bad4 known) 1 [] trace (order4 [] trace h.0 h.1),
  )

row6-match : (n : ℕ) (es : List Event) (xs : List Of) → row6_from n es xs ≡ none → Matching es xs
row6-match n [] [] e = tt
row6-match n [] (x ∷ xs) e = clash (cc)
row6-match n (Request r prog a b ∷ es) [] e = clash (cc)
row6-match n (Request r prog a b ∷ es) (x ∷ xs) e = by_eq x.rid r
    (λ p d. (p, row6-match (suc n) es xs (rw d at e)))
    (λ p d. let e' = rw d at e in clash (cc))
row6-match n (Response r s v ∷ es) xs e = row6-match n es xs e

match-row6 : (n : ℕ) (es : List Event) (xs : List Of) → Matching es xs → row6_from n es xs ≡ none
match-row6 n [] [] h = refl
match-row6 n [] (x ∷ xs) h = absurd h
match-row6 n (Request r prog a b ∷ es) [] h = absurd h
match-row6 n (Request r prog a b ∷ es) (x ∷ xs) h = rw (eqb_yes h.0) (match-row6 (suc n) es xs h.1)
match-row6 n (Response r s v ∷ es) xs h = match-row6 n es xs h

pub row6-matching : (b : Batch) → (row6 b ≡ none) ↔ Matching b.trace b.ofs
row6-matching b = (row6-match 1 b.trace b.ofs, match-row6 1 b.trace b.ofs)
