-- A list in which each item has one before it has a cycle.
use mathlib.Core.Path.{◌≡◌, refl, subst}
use mathlib.Core.Logic.{◌⊎◌, inl, inr, ⊎_elim}
use mathlib.Core.List.Memᴰ
use mathlib.Core.List.{List, [], ◌∷◌, Memᴰ}
use Rattle.basics.specs.Chain.{Chain, Cycle}
use Rattle.basics.proofs.Chains.{chain-trans}
use Rattle.ordering.specs.FirstFree.{Waits}

module _ {A : Type 0} {R : A → A → Type 0} where
  pub cycle : (rest : List A) (x : A) → Memᴰ x rest → ((x : A) → Memᴰ x rest → Waits (Chain R) rest x) → Cycle R
  cycle [] x m h = absurd (Memᴰ.not-nil m)
  cycle (z ∷ rest) x m h = at (Memᴰ.cases_cons b.1) (cycle rest)
    where
      b : Waits (Chain R) (z ∷ rest) z
      b = h z (Memᴰ.head refl)

      -- what waits for z alone waits for what z waits for
      around : Memᴰ b.0 rest → (u : A) → Waits (Chain R) (z ∷ rest) u → Waits (Chain R) rest u
      around m u c = ⊎_elim
          (λ e. (b.0, m, chain-trans b.2 (subst (λ w. Chain R w u) e c.2)))
          (λ k. (c.0, k, c.2))
          (Memᴰ.cases_cons c.1)

      at : (b.0 ≡ z) ⊎ Memᴰ b.0 rest →
          ((x : A) → Memᴰ x rest → ((x : A) → Memᴰ x rest → Waits (Chain R) rest x) → Cycle R) → Cycle R
      at (inl e) ih = record { item = z; returns = subst (λ w. Chain R w z) e b.2 }
      at (inr m) ih = ih b.0 m (λ u k. around m u (h u (Memᴰ.tail k)))
