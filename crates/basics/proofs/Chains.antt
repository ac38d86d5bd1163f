-- Chains put together, taken apart and translated.
use mathlib.Core.Path.{◌≡◌, refl, subst}
use mathlib.Core.Logic.{◌⊎◌, inl, inr, ⊎_elim}
use Rattle.basics.specs.Chain.{Chain, one, more, Cycle}

module _ {A : Type 0} {R : A → A → Type 0} where
  pub chain-trans : {z y x : A} → Chain R z y → Chain R y x → Chain R z x
  chain-trans c (one b) = more c b
  chain-trans c (more d b) = more (chain-trans c d) b

  -- the last step of a chain
  pub ending : {x z : A} → Chain R x z → (y : A) × R y z × ((x ≡ y) ⊎ Chain R x y)
  ending (one {y = y} b) = (y, b, inl refl)
  ending (more {y = y} c b) = (y, b, inr c)

  -- a chain that returns, started one step earlier
  pub back_step : (z : A) → Chain R z z → (y : A) × R y z × Chain R y y
  back_step z c =
      let e = ending c in
      (e.0, e.1, ⊎_elim (λ p. subst (λ u. Chain R e.0 u) p (one e.1)) (λ d. chain-trans (one e.1) d) e.2)

module _ {A : Type 0} {R S : A → A → Type 0} (f : (y x : A) → R y x → Chain S y x) where
  pub chain-map : {y x : A} → Chain R y x → Chain S y x
  chain-map (one {y = y} {x = x} b) = f y x b
  chain-map (more {y = y} {x = x} c b) = chain-trans (chain-map c) (f y x b)

  pub cycle-map : Cycle R → Cycle S
  cycle-map c = record { item = c.item; returns = chain-map c.returns }
