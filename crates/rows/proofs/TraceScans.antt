-- Row 4 in the terms of its scans: an event among those above it.
use Rattle.std.proofs.Common.{◌≡◌, ℕ, ◌+◌, ◌<◌, ◌≤◌, Bool, true, false, not, ◌||◌, List, [], ◌∷◌, length, get_or, take, reverse, Err, refl, ap, ◌∙◌, arith}
use Rattle.std.proofs.Math.Bool.{or_comm, or-true}
use Rattle.std.proofs.lemmas.List.{take_all}
use Rattle.std.specs.List.{list_any}
use Rattle.text.specs.declared.trace.Event.TheVariants.{Request, Response}
use Rattle.text.specs.declared.trace.Event.{Event}
use Rattle.model.specs.Requests.{bad4, row4}
use Rattle.model.specs.Batch.{requested, answered}
use Rattle.machine.specs.Rules.{broken_line}
use Rattle.rows.specs.Steps.{alike, has_like, may_stand}
use Rattle.rows.proofs.Scans.{Scanned, scan-on, scan-bad, any-reverse}

-- the rid of an event is all that counts
requested-any : (r p x y : ℕ) (es : List Event) → requested r es ≡ has_like (Request r p x y) es
requested-any r p x y [] = refl
requested-any r p x y (Request q prog a b ∷ es) = rw (requested-any r p x y es)
requested-any r p x y (Response q status value ∷ es) = requested-any r p x y es

answered-any : (r s v : ℕ) (es : List Event) → answered r es ≡ has_like (Response r s v) es
answered-any r s v [] = refl
answered-any r s v (Request q prog a b ∷ es) = answered-any r s v es
answered-any r s v (Response q status value ∷ es) = rw (answered-any r s v es)

-- a bad event may not stand behind those above it, or one of them is like it
bad-is : (known : ℕ → Bool) (above : List Event) (e : Event) →
    bad4 known (reverse above) e ≡ (not (may_stand known above e) || has_like e above)
bad-is known above (Request r prog a b) =
    ap (λ t. t || not (known prog)) (requested-any r prog a b (reverse above) ∙ any-reverse _ above)
    ∙ or_comm (has_like (Request r prog a b) above) (not (known prog))
bad-is known above (Response r status value) =
    let p = requested-any r 0 0 0 (reverse above) ∙ any-reverse (λ d. alike d (Request r 0 0 0)) above in
    let q = answered-any r status value (reverse above) ∙ any-reverse (λ d. alike d (Response r status value)) above in
    λ i. not (p i) || q i

-- event i with the events above it
module _ (known : ℕ → Bool) {xs : List Event} {i : ℕ} (s : Scanned (bad4 known) 1 xs i) (h : i < length xs) (d : Event) where
  pub stands-not : may_stand known (take i xs) (get_or xs i d) ≡ false → broken_line (Err (record { line = i + 1 })) ≡ row4 known xs
  stands-not m = scan-bad s h d (i + 1) (omega arith) (bad-is known (take i xs) (get_or xs i d) ∙ rw m)

  pub stands-twice : has_like (get_or xs i d) (take i xs) ≡ true → broken_line (Err (record { line = i + 1 })) ≡ row4 known xs
  stands-twice m =
      scan-bad s h d (i + 1) (omega arith)
      (bad-is known (take i xs) (get_or xs i d) ∙ rw m (or-true (not (may_stand known (take i xs) (get_or xs i d)))))

  pub stands : may_stand known (take i xs) (get_or xs i d) ≡ true → (k : ℕ) → length (take i xs) ≤ k →
      list_any (λ e. alike e (get_or xs i d)) (take k (take i xs)) ≡ false → Scanned (bad4 known) 1 xs (i + 1)
  stands m k l a = scan-on s h d (bad-is known (take i xs) (get_or xs i d) ∙ rw (m, rw (take_all k (take i xs) l) at a))
