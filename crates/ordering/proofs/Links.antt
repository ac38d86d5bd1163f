-- The pass that links the items of each lane, from the back: from the heads it leads through each lane.
use mathlib.Core.Path.{◌≡◌, refl, sym, subst, ◌∙◌}
use mathlib.Core.List.{List, [], ◌∷◌}
use Prim.Native.Nat.{ℕ, zero, suc, ◌-◌, ◌%◌, ◌≤◌, ◌<◌, min}
use lib.ListN.{get_or, set, length, length-set, replicate, length-replicate, get_or-replicate}
use lib.Seq.{get_or-set_same, get_or-set_other}
use native.Mathlib.Omega.{arith}
use Rattle.basics.specs.Lists.{All}
use Rattle.basics.proofs.Lists.{all-imp}
use Rattle.basics.proofs.Tests.{by_eq}
use Rattle.ordering.specs.Order.{on_lane}
use Rattle.ordering.specs.Positions.{up_from, slot}
use Rattle.ordering.specs.Heads.{link_from, link_of}
use Rattle.ordering.proofs.Lanes.{all-on}

-- from h the array `after` leads through xs, and then to no item: to a position from n on
abbrev pub Through : List ℕ → ℕ → ℕ → List ℕ → Type 0
Through after n h [] = n ≤ h
Through after n h (x ∷ xs) = (h ≡ x) × (x < n) × Through after n (get_or after x 0) xs

-- from the heads `after` leads through the items from i on, lane by lane
pub record Linked (lane : List ℕ) (n i : ℕ) (head after : List ℕ) : Type 0 where
  pub heads : length head ≡ 17
  pub afters : length after ≡ 1152
  pub lanes : (l : ℕ) → l < 17 → Through after n (get_or head l 0) (on_lane (slot lane 17) l (up_from i (n - i)))

pub all_up : (i m : ℕ) → All (λ k. i ≤ k) (up_from i m)
all_up i zero = tt
all_up i (suc m) =
    (omega arith, all-imp (λ k. suc i ≤ k) (λ k. i ≤ k) (λ k h. omega arith) (up_from (suc i) m) (all_up (suc i) m))

through-set : (after : List ℕ) (n j v h : ℕ) (xs : List ℕ) → All (λ k. j < k) xs → Through after n h xs → Through (set after j v) n h xs
through-set after n j v h [] a c = c
through-set after n j v h (x ∷ xs) a c = (
  c.0,
  c.1,
  rw (get_or-set_other after j x v 0 (λ e. absurd (omega (arith, a.0)))) (through-set after n j v (get_or after x 0) xs a.1 c.2),
)

linked-start : (lane : List ℕ) (n : ℕ) → n ≤ 1152 → Linked lane n n (replicate 17 1152) (replicate 1152 0)
linked-start lane n b = record {
  heads = refl;
  afters = length-replicate {A = ℕ} 1152 0;
  lanes = λ l k. let e : n - n ≡ 0 = omega arith in rw e (omega (arith, get_or-replicate {A = ℕ} 17 l 1152 0 k));
}

-- item i put before the others of its lane
module _ (lane : List ℕ) (n i : ℕ) (head after : List ℕ) (s : i < n) (b : n ≤ 1152) (h : Linked lane n (suc i) head after) where
  abbrev rest : List ℕ
  rest = up_from (suc i) (n - suc i)

  abbrev old : ℕ
  old = get_or head (slot lane 17 i) 0

  far : (l : ℕ) → All (λ k. i < k) (on_lane (slot lane 17) l rest)
  far l = all-on (slot lane 17) (λ k. i < k) l rest
      (all-imp (λ k. suc i ≤ k) (λ k. i < k) (λ k h. omega arith) rest (all_up (suc i) (n - suc i)))

  own : (l : ℕ) → slot lane 17 i ≡ l → get_or (set head (slot lane 17 i) i) l 0 ≡ i
  own l p =
      subst (λ j. get_or (set head (slot lane 17 i) i) j 0 ≡ i) p (get_or-set_same head (slot lane 17 i) i 0 (omega (arith, h.heads)))

  lane_at : (l : ℕ) → l < 17 →
      Through (set after i old) n (get_or (set head (slot lane 17 i) i) l 0) (on_lane (slot lane 17) l (i ∷ rest))
  lane_at l k = by_eq (slot lane 17 i) l
      (λ p d. rw d (
        own l p,
        s,
        rw (get_or-set_same after i old 0 (omega (arith, h.afters))) (through-set after n i old old (on_lane (slot lane 17) l rest) (far l)
            (subst (λ j. Through after n (get_or head j 0) (on_lane (slot lane 17) l rest)) (sym p) (h.lanes l k))),
      ))
      (λ p d. rw (d, get_or-set_other head (slot lane 17 i) l i 0 (λ q. p (sym q)))
      (through-set after n i old (get_or head l 0) (on_lane (slot lane 17) l rest) (far l) (h.lanes l k)))

  linked-step : Linked lane n i (set head (slot lane 17 i) i) (set after i old)
  linked-step = record {
    heads = length-set head (slot lane 17 i) i ∙ h.heads;
    afters = length-set after i old ∙ h.afters;
    lanes = λ l k.
        let e : n - i ≡ suc (n - suc i) = omega arith in
        subst (λ m. Through (set after i old) n (get_or (set head (slot lane 17 i) i) l 0) (on_lane (slot lane 17) l (up_from i m))) (sym e)
        (lane_at l k);
  }

linked-from : (lane : List ℕ) (n i : ℕ) (head after : List ℕ) → i ≤ n → n ≤ 1152 → Linked lane n i head after →
    Linked lane n 0 (link_from lane i head after).0 (link_from lane i head after).1
linked-from lane n zero head after s b h = h
linked-from lane n (suc i) head after s b h =
    linked-from lane n i (set head (slot lane 17 i) i) (set after i (get_or head (slot lane 17 i) 0)) (omega arith) b
    (linked-step lane n i head after (omega arith) b h)

-- what `link` leaves in new arrays
pub linked_of : (lane : List ℕ) (n : ℕ) (head after : List ℕ) → n ≤ length lane → n ≤ 1152 →
    head ≡ (link_of lane n (replicate 17 1152) (replicate 1152 0)).0 → after ≡ (link_of lane n (replicate 17 1152) (replicate 1152 0)).1 →
    Linked lane n 0 head after
unfolding link_of
linked_of lane n head after a b e d =
    let m : min n (min (length lane) 1152) ≡ n = omega arith in
    rw (e, d, m) (linked-from lane n n (replicate 17 1152) (replicate 1152 0) (omega arith) b (linked-start lane n b))

-- ── the law of the loop's body: i is counted down, w is the byte read ──
pub link_back : (lane : List ℕ) (i w : ℕ) (head after : List ℕ) → 0 < i → w ≡ get_or lane (i - 1) 0 →
    link_from lane (i - 1) (set head (w % 17) (i - 1)) (set after (i - 1) (get_or head (w % 17) 0)) ≡ link_from lane i head after
link_back lane zero w head after p e = absurd (omega arith)
link_back lane (suc i) w head after p e = let j : suc i - 1 ≡ i = omega arith in rw (j, e, j)
