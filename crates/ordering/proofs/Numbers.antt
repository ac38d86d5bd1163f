-- The next number of each request, and items that come by their numbers.
use mathlib.Core.Path.{◌≡◌, refl, sym, ap, ◌∙◌}
use mathlib.Core.Logic.{◌≢◌, ◌⊎◌, inl, inr}
use mathlib.Core.Bool.{true, ◌&&◌}
use mathlib.Core.List.Memᴰ
use mathlib.Core.List.{List, [], ◌∷◌, ◌++◌, Memᴰ}
use Prim.Native.Nat.{ℕ, suc, ◌≤◌, ◌<◌}
use lib.Dec.{eqb}
use native.Mathlib.Omega.{arith}
use Rattle.basics.specs.Lists.{All}
use Rattle.basics.specs.Count.{count}
use Rattle.basics.proofs.Lists.{all-imp}
use Rattle.basics.proofs.Maps.{upd-at, upd_other, upd-swap}
use Rattle.basics.proofs.Tests.{by_bool, by_eq, eqb_yes, eqb-self, yes_eqb, and-true}
use Rattle.ordering.specs.Order.{Numbered}
use Rattle.ordering.specs.Merge.{bump}
use Rattle.ordering.specs.Whole.{keyed}

pub bump-le : (s : ℕ → ℕ) (r j : ℕ) → s j ≤ bump s r j
unfolding bump
bump-le s r j = by_eq r j
    (λ p e. rw (upd-at s (suc (s r)) p, p) (omega arith))
    (λ n e. rw (upd_other s (suc (s r)) n) (omega arith))

pub bump-same : (s : ℕ → ℕ) (r j : ℕ) → r ≡ j → bump s r j ≡ suc (s j)
unfolding bump
bump-same s r j p = upd-at s (suc (s r)) p ∙ ap (λ k. suc (s k)) p

pub bump-other : (s : ℕ → ℕ) (r j : ℕ) → r ≢ j → bump s r j ≡ s j
unfolding bump
bump-other s r j n = upd_other s (suc (s r)) n

pub bump-swap : (s : ℕ → ℕ) (r j : ℕ) → r ≢ j → bump (bump s r) j ≡ bump (bump s j) r
unfolding bump
bump-swap s r j n =
    rw (upd_other s (suc (s r)) n, upd_other s (suc (s j)) (λ p. n (sym p))) (upd-swap s (suc (s r)) (suc (s j)) n)

module _ {A : Type 0} (rid : A → ℕ) where
  -- how far each request has come behind an order
  abbrev pub reached : (ℕ → ℕ) → List A → ℕ → ℕ
  reached s [] = s
  reached s (y ∷ ys) = reached (bump s (rid y)) ys

  pub reached-le : (ys : List A) (s : ℕ → ℕ) (r : ℕ) → s r ≤ reached s ys r
  reached-le [] s r = omega arith
  reached-le (y ∷ ys) s r = omega (arith, bump-le s (rid y) r, reached-le ys (bump s (rid y)) r)

  pub reached-snoc : (xs : List A) (x : A) (s : ℕ → ℕ) → reached s (xs ++ (x ∷ [])) ≡ bump (reached s xs) (rid x)
  reached-snoc [] x s = refl
  reached-snoc (y ∷ xs) x s = reached-snoc xs x (bump s (rid y))

module _ {A : Type 0} (rid num : A → ℕ) where
  -- ── the numbers of an order lie between where it starts and what it reaches ──
  pub over : (ys : List A) (s : ℕ → ℕ) → Numbered rid num s ys → All (λ y. num y < reached rid s ys (rid y)) ys
  over [] s h = tt
  over (y ∷ ys) s h =
      (omega (arith, h.0, bump-same s (rid y) (rid y) refl, reached-le rid ys (bump s (rid y)) (rid y)), over ys (bump s (rid y)) h.1)

  pub at_least : (ys : List A) (s : ℕ → ℕ) → Numbered rid num s ys → All (λ y. s (rid y) ≤ num y) ys
  at_least [] s h = tt
  at_least (y ∷ ys) s h = (
    omega (arith, h.0),
    all-imp (λ u. bump s (rid y) (rid u) ≤ num u) (λ u. s (rid u) ≤ num u)
        (λ u k. omega (arith, bump-le s (rid y) (rid u), k)) ys (at_least ys (bump s (rid y)) h.1),
  )

  pub numbered-suffix : (xs ys : List A) (s : ℕ → ℕ) → Numbered rid num s (xs ++ ys) → Numbered rid num (reached rid s xs) ys
  numbered-suffix [] ys s h = h
  numbered-suffix (x ∷ xs) ys s h = numbered-suffix xs ys (bump s (rid x)) h.1

  pub numbered-snoc : (xs : List A) (x : A) (s : ℕ → ℕ) → Numbered rid num s xs → num x ≡ reached rid s xs (rid x) →
      Numbered rid num s (xs ++ (x ∷ []))
  numbered-snoc [] x s h e = (e, tt)
  numbered-snoc (y ∷ xs) x s h e = (h.0, numbered-snoc xs x (bump s (rid y)) h.1 e)

  -- ── how often a number comes ──
  pub count_none : (r k : ℕ) (ys : List A) (s : ℕ → ℕ) → Numbered rid num s ys → k < s r → count (keyed rid num r k) ys ≡ 0
  count_none r k [] s h l = refl
  count_none r k (y ∷ ys) s h l =
      let i = count_none r k ys (bump s (rid y)) h.1 (omega (arith, bump-le s (rid y) r)) in
      by_bool (eqb (rid y) r && eqb (num y) k)
      (λ d.
      let g = and-true (eqb (rid y) r) (eqb (num y) k) d in
      absurd (omega (arith, h.0, yes_eqb {a = num y} {b = k} g.1, ap s (yes_eqb {a = rid y} {b = r} g.0))))
      (λ d. rw d (omega arith))

  pub count-once : (r k : ℕ) (ys : List A) (s : ℕ → ℕ) → Numbered rid num s ys → count (keyed rid num r k) ys ≤ 1
  count-once r k [] s h = omega arith
  count-once r k (y ∷ ys) s h = by_bool (eqb (rid y) r && eqb (num y) k)
      (λ d.
      let g = and-true (eqb (rid y) r) (eqb (num y) k) d in
      let p : rid y ≡ r = yes_eqb g.0 in
      let q : num y ≡ k = yes_eqb g.1 in
      rw d (omega (arith, count_none r k ys (bump s (rid y)) h.1 (omega (arith, h.0, bump-same s (rid y) r p, ap s p)))))
      (λ d. rw d (omega (arith, count-once r k ys (bump s (rid y)) h.1)))

  pub keyed-self : (x : A) → keyed rid num (rid x) (num x) x ≡ true
  keyed-self x = rw (eqb-self (rid x), eqb-self (num x))

  pub mem-count : (xs : List A) (x : A) → Memᴰ x xs → 1 ≤ count (keyed rid num (rid x) (num x)) xs
  mem-count [] x m = absurd (Memᴰ.not-nil m)
  mem-count (y ∷ ys) x m = at (Memᴰ.cases_cons m) (mem-count ys x)
    where
      at : (x ≡ y) ⊎ Memᴰ x ys → (Memᴰ x ys → 1 ≤ count (keyed rid num (rid x) (num x)) ys) →
          1 ≤ count (keyed rid num (rid x) (num x)) (y ∷ ys)
      at (inl e) ih =
          rw (eqb_yes {a = rid y} {b = rid x} (ap rid (sym e)), eqb_yes {a = num y} {b = num x} (ap num (sym e))) (omega arith)
      at (inr k) ih = omega (arith, ih k)

  -- every number below the reached one stands in the order
  pub reach : (r k : ℕ) (ys : List A) (s : ℕ → ℕ) → Numbered rid num s ys → s r ≤ k → k < reached rid s ys r →
      1 ≤ count (keyed rid num r k) ys
  reach r k [] s h a b = absurd (omega arith)
  reach r k (y ∷ ys) s h a b = by_eq (rid y) r
      (λ p d. by_eq (num y) k
      (λ q c. rw (d, c) (omega arith))
      (λ q c. omega (arith, reach r k ys (bump s (rid y)) h.1 (omega (arith, bump-same s (rid y) r p, h.0, ap s p)) b)))
      (λ p d. omega (arith, reach r k ys (bump s (rid y)) h.1 (omega (arith, bump-other s (rid y) r p)) b))
