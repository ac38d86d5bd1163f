-- The items of one lane; and what depends on the lanes alone, whatever the order between them.
use mathlib.Core.Path.{◌≡◌, refl, sym, ap, ◌∙◌}
use mathlib.Core.Logic.{◌≢◌, ◌⊎◌, inl, inr, ⊎_elim}
use mathlib.Core.Bool.{Bool, false, cond}
use mathlib.Core.List.Memᴰ
use mathlib.Core.List.{List, [], ◌∷◌, ◌++◌, Memᴰ}
use Prim.Native.Nat.{ℕ, ◌+◌, ◌≤◌}
use lib.Dec.{eqb}
use native.Mathlib.Omega.{arith}
use Rattle.basics.specs.Lists.{All}
use Rattle.basics.specs.Count.{count}
use Rattle.basics.proofs.Tests.{by_bool, by_eq, eqb_yes, eqb_no, clash}
use Rattle.ordering.specs.Order.{on_lane}

module _ {A : Type 0} (lane : A → ℕ) where
  pub on-head : (x : A) (xs : List A) → on_lane lane (lane x) (x ∷ xs) ≡ x ∷ on_lane lane (lane x) xs
  on-head x xs = rw (eqb_yes {a = lane x} refl)

  pub on-append : (l : ℕ) (xs ys : List A) → on_lane lane l (xs ++ ys) ≡ on_lane lane l xs ++ on_lane lane l ys
  on-append l [] ys = refl
  on-append l (x ∷ xs) ys = by_bool (eqb (lane x) l)
      (λ e. rw e (ap (λ t. x ∷ t) (on-append l xs ys)))
      (λ e. rw e (on-append l xs ys))

  pub on-mem : (l : ℕ) (xs : List A) (x : A) → Memᴰ x (on_lane lane l xs) → Memᴰ x xs × (lane x ≡ l)
  on-mem l [] x m = absurd (Memᴰ.not-nil m)
  on-mem l (y ∷ ys) x m = by_eq (lane y) l
      (λ p e. ⊎_elim
      (λ q. (Memᴰ.head q, ap lane q ∙ p))
      (λ k. let h = on-mem l ys x k in (Memᴰ.tail h.0, h.1))
      (Memᴰ.cases_cons (rw e at m)))
      (λ p e. let h = on-mem l ys x (rw e at m) in (Memᴰ.tail h.0, h.1))

  pub mem-on : (xs : List A) (x : A) → Memᴰ x xs → Memᴰ x (on_lane lane (lane x) xs)
  mem-on [] x m = absurd (Memᴰ.not-nil m)
  mem-on (y ∷ ys) x m = at (Memᴰ.cases_cons m) (mem-on ys x)
    where
      at : (x ≡ y) ⊎ Memᴰ x ys → (Memᴰ x ys → Memᴰ x (on_lane lane (lane x) ys)) → Memᴰ x (on_lane lane (lane x) (y ∷ ys))
      at (inl e) ih = rw (eqb_yes {a = lane y} {b = lane x} (ap lane (sym e))) (Memᴰ.head e)
      at (inr k) ih = by_bool (eqb (lane y) (lane x)) (λ e. rw e (Memᴰ.tail (ih k))) (λ e. rw e (ih k))

  pub no-lanes : (rest : List A) → ((l : ℕ) → on_lane lane l rest ≡ []) → rest ≡ []
  no-lanes [] h = refl
  no-lanes (x ∷ xs) h = let e = sym (on-head x xs) ∙ h (lane x) in clash (cc)

  pub cancel : (l : ℕ) (x : A) (xs ys : List A) → on_lane lane l (x ∷ xs) ≡ on_lane lane l (x ∷ ys) → on_lane lane l xs ≡ on_lane lane l ys
  cancel l x xs ys e = by_eq (lane x) l (λ p d. let e' = rw d at e in cc) (λ p d. rw d at e)

  -- an item of another lane may stand before or behind
  pub moved : (x y : A) (zs ys : List A) → lane y ≢ lane x → (l : ℕ) → on_lane lane l (x ∷ zs) ≡ on_lane lane l ys →
      on_lane lane l (x ∷ y ∷ zs) ≡ on_lane lane l (y ∷ ys)
  moved x y zs ys n l g = by_eq (lane y) l
      (λ p d. let m : eqb (lane x) l ≡ false = eqb_no {a = lane x} {b = l} (λ i. n (omega arith)) in
      rw (d, m) (ap (λ t. y ∷ t) (rw m at g)))
      (λ p d. rw d g)

  -- ── what holds of every item ──
  pub all-on : (P : A → Type 0) (l : ℕ) (xs : List A) → All P xs → All P (on_lane lane l xs)
  all-on P l [] h = tt
  all-on P l (x ∷ xs) h = by_bool (eqb (lane x) l) (λ e. rw e (h.0, all-on P l xs h.1)) (λ e. rw e (all-on P l xs h.1))

  on-all : (P : A → Type 0) (xs : List A) → ((l : ℕ) → All P (on_lane lane l xs)) → All P xs
  on-all P [] h = tt
  on-all P (x ∷ xs) h =
      ((rw (on-head x xs) at (h (lane x))).0, on-all P xs (λ l. by_bool (eqb (lane x) l) (λ e. (rw e at (h l)).1) (λ e. rw e at (h l))))

  pub all_lanes : (P : A → Type 0) (xs ys : List A) → ((l : ℕ) → on_lane lane l xs ≡ on_lane lane l ys) → All P ys → All P xs
  all_lanes P xs ys e h = on-all P xs (λ l. rw (e l) (all-on P l ys h))

  -- ── how many items pass a test ──
  pub count-on : (f : A → Bool) (l : ℕ) (xs : List A) → count f (on_lane lane l xs) ≤ count f xs
  count-on f l [] = omega arith
  count-on f l (x ∷ xs) = by_bool (eqb (lane x) l) (λ e. rw e (omega (arith, count-on f l xs))) (λ e. rw e (omega (arith, count-on f l xs)))

  record Extracted (f : A → Bool) (ys : List A) (x : A) : Type 0 where
    pub others : List A
    pub lanes : (l : ℕ) → on_lane lane l (x ∷ others) ≡ on_lane lane l ys
    pub counted : count f ys ≡ cond (f x) 1 0 + count f others

  extract : (f : A → Bool) (ys : List A) (x : A) (zs : List A) → on_lane lane (lane x) ys ≡ x ∷ zs → Extracted f ys x
  extract f [] x zs e = clash (cc)
  extract f (y ∷ ys) x zs e = by_eq (lane y) (lane x)
      (λ p d.
      let e' = rw d at e in
      let i : y ≡ x = cc in
      rw (← i) (record { others = ys; lanes = λ l. refl; counted = refl }))
      (λ p d.
      let h = extract f ys x zs (rw d at e) in
      record {
        others = y ∷ h.others;
        lanes = λ l. moved x y h.others ys p l (h.lanes l);
        counted = omega (arith, h.counted);
      })

  pub count-lanes : (f : A → Bool) (xs ys : List A) → ((l : ℕ) → on_lane lane l xs ≡ on_lane lane l ys) → count f xs ≡ count f ys
  count-lanes f [] ys h = rw (no-lanes ys (λ l. sym (h l)))
  count-lanes f (x ∷ xs) ys h =
      let e = extract f ys x (on_lane lane (lane x) xs) (sym (h (lane x)) ∙ on-head x xs) in
      let i = count-lanes f xs e.others (λ l. cancel l x xs e.others (h l ∙ sym (e.lanes l))) in
      omega (arith, i, e.counted)
