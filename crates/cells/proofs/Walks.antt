-- Laws of the walk along a chain: it passes no cell of its key by.
use Rattle.std.proofs.Common.{◌≡◌, ◌≢◌, ℕ, zero, suc, ◌+◌, ◌-◌, ◌%◌, ◌≤◌, ◌<◌, true, false, cond, eqb, List, Some, refl, sym, ap, ◌∙◌, subst, arith, eqb-true, eq-eqb}
use Rattle.basics.proofs.Tests.{by_bool, and-true}
use Rattle.cells.specs.declared.chains.Cell.{Cell}
use Rattle.cells.specs.Rows.{cell_at, is_at}
use Rattle.cells.specs.Chains.{last, bucket_of, bucket_at, in_bucket, walk, cell_of}
use Rattle.cells.proofs.Last.{last-le, last-true, last-through}

module _ (cells : List Cell) (object key : ℕ) where
  abbrev b : ℕ
  b = bucket_of object key

  -- the cell of a key is one of its bucket
  pub at-bucket : (i : ℕ) → is_at cells object key i ≡ true → in_bucket cells b i ≡ true
  at-bucket i t =
      let x = cell_at cells i in
      let both = and-true (eqb x.object object) (eqb x.key key) t in
      let p : x.object ≡ object = eqb-true _ _ both.0 in
      let q : x.key ≡ key = eqb-true _ _ both.1 in
      eq-eqb _ _ (λ j. bucket_of (p j) (q j))

  -- the links of the first n cells lead along the chains
  module _ (n : ℕ) (h : n ≤ 2048) (links : (i : ℕ) → i < n → (cell_at cells i).link ≡ last (in_bucket cells (bucket_at cells i)) i) where
    link : (j : ℕ) → j < n → in_bucket cells b j ≡ true → (cell_at cells (j % 2048)).link ≡ last (in_bucket cells b) j
    link j k t =
        let m : j % 2048 ≡ j = omega arith in
        let e : bucket_at cells j ≡ b = eqb-true _ _ t in
        ap (λ i. (cell_at cells i).link) m ∙ links j k ∙ ap (λ c. last (in_bucket cells c) j) e

    pub walk-last : (k j : ℕ) → j ≤ k → j ≤ n → (0 < j → in_bucket cells b (j - 1) ≡ true)
        → walk cells object key k j ≡ last (is_at cells object key) j
    unfolding walk last
    walk-last zero zero g l t = refl
    walk-last zero (suc j) g l t = absurd (omega arith)
    walk-last (suc k) zero g l t = refl
    walk-last (suc k) (suc j) g l t =
        let m : j % 2048 ≡ j = omega arith in
        let s : suc j - 1 ≡ j = omega arith in
        let u : in_bucket cells b j ≡ true = subst (λ m. in_bucket cells b m ≡ true) s (t (omega arith)) in
        let e = link j l u in
        let f = last-le (in_bucket cells b) j in
        by_bool (is_at cells object key j)
        (λ a. rw (m, a))
        (λ a. let d = walk-last k (last (in_bucket cells b) j) (omega arith) (omega arith) (last-true (in_bucket cells b) j) in
        ap (λ m. cond (is_at cells object key m) (suc j) (walk cells object key k (cell_at cells (j % 2048)).link)) m
        ∙ rw (a, e) (d ∙ sym (last-through (is_at cells object key) (in_bucket cells b) j at-bucket)))

-- ── a walk, as a loop takes it: at place j, with k of n steps done ──
module _ (cells : List Cell) (object key : ℕ) where
  pub walk-none : (k : ℕ) → walk cells object key k 0 ≡ 0
  unfolding walk
  walk-none zero = refl
  walk-none (suc k) = refl

  module _ (n k j : ℕ) (h : k < n) (g : j ≢ 0) where
    abbrev i : ℕ
    i = (j - 1) % 2048

    step : walk cells object key (n - k) j
        ≡ cond (is_at cells object key i) j (walk cells object key (n - (k + 1)) (cell_at cells i).link)
    unfolding walk
    step =
        let more : n - k ≡ suc (n - (k + 1)) = omega arith in
        let below : j ≡ suc (j - 1) = omega arith in
        ap (λ m. walk cells object key m j) more ∙ ap (walk cells object key (suc (n - (k + 1)))) below ∙ rw (← below)

    pub walk-hit : is_at cells object key i ≡ true → cell_of (walk cells object key (n - k) j) ≡ Some i
    walk-hit s = let below : j ≡ suc (j - 1) = omega arith in rw (step, s) (ap cell_of below)

    pub walk-on : is_at cells object key i ≡ false
        → walk cells object key (n - (k + 1)) (cell_at cells i).link ≡ walk cells object key (n - k) j
    walk-on s = sym (step ∙ rw s)
