-- In an ascending list of positions `pick` takes the smallest that is first of its lane and next in its request.
use mathlib.Core.Path.{◌≡◌, refl, sym, ap, subst, ◌∙◌}
use mathlib.Core.Bool.{false, ◌&&◌, not}
use mathlib.Core.List.{List, [], ◌∷◌}
use Prim.Native.Nat.{ℕ, ◌≤◌, ◌<◌}
use lib.Dec.{eqb}
use native.Mathlib.Omega.{arith}
use Rattle.basics.specs.Lists.{All}
use Rattle.basics.proofs.Tests.{clash, by_bool, by_eq, eqb_yes}
use Rattle.ordering.specs.Order.{on_lane}
use Rattle.ordering.specs.Merge.{among, pick, keep, Pick, stuck, took}
use Rattle.ordering.proofs.Lanes.{on-head, all-on, all_lanes}
use Rattle.ordering.proofs.Orders.{picked, Picked, not_stuck}

abbrev pub Ascending : List ℕ → Type 0
Ascending [] = Unit {0}
Ascending (x ∷ xs) = All (λ y. x < y) xs × Ascending xs

-- the items of a lane are of that lane
pub head-lane : (lane : ℕ → ℕ) (l : ℕ) (rest : List ℕ) (x : ℕ) (q : List ℕ) → on_lane lane l rest ≡ x ∷ q → lane x ≡ l
head-lane lane l [] x q e = clash (cc)
head-lane lane l (y ∷ ys) x q e = by_eq (lane y) l
    (λ p d. let e' = rw d at e in let i : y ≡ x = cc in ap lane (sym i) ∙ p)
    (λ p d. head-lane lane l ys x q (rw d at e))

module _ (lane rid num : ℕ → ℕ) where
  abbrev picks : (ℕ → ℕ) → List ℕ → List ℕ → Pick ℕ
  picks = pick lane rid num

  -- what `pick` takes is not behind any item that it could take
  first : (stage : ℕ → ℕ) (seen rest : List ℕ) (z : ℕ) (zs : List ℕ) → Ascending rest → picks stage seen rest ≡ took z zs →
      (x : ℕ) (q : List ℕ) → among (lane x) seen ≡ false → on_lane lane (lane x) rest ≡ x ∷ q → num x ≡ stage (rid x) → z ≤ x
  first stage seen [] z zs a e x q f o n = clash (cc)
  first stage seen (y ∷ ys) z zs a e x q f o n = by_eq (lane y) (lane x)
      (λ p d.
      let o' = rw d at o in
      let i : y ≡ x = cc in
      let e' : took y ys ≡ took z zs =
      rw (eqb_yes {a = num y} {b = stage (rid y)} (rw i n), ap (λ t. among (lane t) seen) i ∙ f) at e in
      let j : y ≡ z = cc in omega arith)
      (λ p d. by_bool (not (among (lane y) seen) && eqb (num y) (stage (rid y)))
      (λ t.
      let e' : took y ys ≡ took z zs = rw t at e in
      let j : y ≡ z = cc in
      let h : All (λ k. y < k) (x ∷ q) = subst (All (λ k. y < k)) (rw d at o) (all-on lane (λ k. y < k) (lane x) ys a.0) in
      omega (arith, h.0))
      (λ t. go (picks stage (lane y ∷ seen) ys)
      (λ w ws g. first stage (lane y ∷ seen) ys w ws a.1 g x q (rw d f) (rw d at o) n) (rw t at e)))
    where
      go : (u : Pick ℕ) → ((w : ℕ) (ws : List ℕ) → u ≡ took w ws → w ≤ x) → keep y u ≡ took z zs → z ≤ x
      go stuck h k = clash (cc)
      go (took w ws) h k = let i : w ≡ z = cc in omega (arith, h w ws refl)

  pub still-ascending : (stage : ℕ → ℕ) (seen rest : List ℕ) (z : ℕ) (zs : List ℕ) → Ascending rest →
      pick lane rid num stage seen rest ≡ took z zs → Ascending zs
  still-ascending stage seen [] z zs a e = clash (cc)
  still-ascending stage seen (y ∷ ys) z zs a e = by_bool (not (among (lane y) seen) && eqb (num y) (stage (rid y)))
      (λ t. let e' : took y ys ≡ took z zs = rw t at e in let i : ys ≡ zs = cc in subst Ascending i a.1)
      (λ t. go (picks stage (lane y ∷ seen) ys)
      (still-ascending stage (lane y ∷ seen) ys) (picked lane rid num stage (lane y ∷ seen) ys) (rw t at e))
    where
      go : (u : Pick ℕ) → ((w : ℕ) (ws : List ℕ) → Ascending ys → u ≡ took w ws → Ascending ws) →
          ((w : ℕ) (ws : List ℕ) → u ≡ took w ws → Picked lane rid num stage (lane y ∷ seen) ys w ws) → keep y u ≡ took z zs → Ascending zs
      go stuck h p k = clash (cc)
      go (took w ws) h p k =
          let i : y ∷ ws ≡ zs = cc in
          subst Ascending i ((all_lanes lane (λ k. y < k) (w ∷ ws) ys (p w ws refl).lanes a.0).1, h w ws a.1 refl)

  -- ── the two cases of a step ──
  -- `pick` could take y
  abbrev pub Ready : (ℕ → ℕ) → List ℕ → ℕ → Type 0
  Ready stage rest y = (q : List ℕ) × (on_lane lane (lane y) rest ≡ y ∷ q) × (num y ≡ stage (rid y))

  taken-ready : (stage : ℕ → ℕ) (rest : List ℕ) (z : ℕ) (zs : List ℕ) → picks stage [] rest ≡ took z zs → Ready stage rest z
  taken-ready stage rest z zs e =
      let p = picked lane rid num stage [] rest z zs e in (on_lane lane (lane z) zs, sym (p.lanes (lane z)) ∙ on-head lane z zs, p.next)

  pub pick-least : (stage : ℕ → ℕ) (rest : List ℕ) (x : ℕ) → Ascending rest → Ready stage rest x →
      ((y : ℕ) → Ready stage rest y → x ≤ y) → (zs : List ℕ) × (pick lane rid num stage [] rest ≡ took x zs)
  pick-least stage rest x a r m = go (picks stage [] rest) refl
    where
      go : (u : Pick ℕ) → picks stage [] rest ≡ u → (zs : List ℕ) × (picks stage [] rest ≡ took x zs)
      go stuck e = absurd (not_stuck lane rid num stage [] rest x r.0 refl r.1 r.2 e)
      go (took z zs) e =
          let i : z ≡ x = omega (
            arith,
            first stage [] rest z zs a e x r.0 refl r.1 r.2,
            m z (taken-ready stage rest z zs e),
          ) in
          (zs, e ∙ ap (λ t. took t zs) i)

  pub pick-none : (stage : ℕ → ℕ) (rest : List ℕ) → ((y : ℕ) → Ready stage rest y → ⊥) → pick lane rid num stage [] rest ≡ stuck
  pick-none stage rest m = go (picks stage [] rest) refl
    where
      go : (u : Pick ℕ) → picks stage [] rest ≡ u → picks stage [] rest ≡ stuck
      go stuck e = e
      go (took z zs) e = absurd (m z (taken-ready stage rest z zs e))
