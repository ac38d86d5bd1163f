-- For the layer above: the merge of positions is the merge of what stands there, however the requests are named.
use mathlib.Core.Path.{◌≡◌, refl, sym, ap, ◌∙◌}
use mathlib.Core.Logic.{◌↔◌}
use mathlib.Core.Bool.{true, ◌&&◌, not}
use mathlib.Core.List.{List, [], ◌∷◌, map}
use Prim.Native.Nat.{ℕ, zero, suc, ◌+◌, ◌≤◌, ◌<◌}
use lib.Dec.{eqb}
use lib.ListN.{get_or, length}
use native.Mathlib.Omega.{arith}
use Rattle.std.proofs.lemmas.List.{nil_from_length}
use Rattle.basics.specs.Lists.{All}
use Rattle.basics.proofs.Lists.{count-all}
use Rattle.basics.proofs.Tests.{by_bool, by_eq}
use Rattle.ordering.specs.Order.{IsOrder}
use Rattle.ordering.specs.Merge.{among, bump, Pick, stuck, took, keep, pick, merge, merge_all}
use Rattle.ordering.specs.Positions.{up_from, slot, value, merge_of, counts}
use Rattle.ordering.proofs.Lanes.{all_lanes, count-lanes}
use Rattle.ordering.proofs.Numbers.{bump-same, bump-other}
use Rattle.ordering.proofs.Orders.{merge-stuck, merge-took, picked, merge-order, order-merge}
use Rattle.ordering.proofs.Merging.{up-length}

-- ── two readings of the same items, that agree on lanes, on numbers and on which items are of one request ──
module _ {A : Type 0} (P : A → Type 0) (lane rid num lane' rid' num' : A → ℕ)
    (lanes : (x : A) → P x → lane x ≡ lane' x) (nums : (x : A) → P x → num x ≡ num' x)
    (same : (x y : A) → P x → P y → rid x ≡ rid y → rid' x ≡ rid' y)
    (same' : (x y : A) → P x → P y → rid' x ≡ rid' y → rid x ≡ rid y) where
  -- the next numbers, under the two names of a request
  abbrev Agree : (ℕ → ℕ) → (ℕ → ℕ) → Type 0
  Agree s s' = (x : A) → P x → s (rid x) ≡ s' (rid' x)

  pick-agree : (s s' : ℕ → ℕ) (seen : List ℕ) (rest : List A) → All P rest → Agree s s' →
      pick lane rid num s seen rest ≡ pick lane' rid' num' s' seen rest
  pick-agree s s' seen [] a h = refl
  pick-agree s s' seen (x ∷ xs) a h =
      rw (lanes x a.0, nums x a.0, h x a.0) (rw (pick-agree s s' (lane' x ∷ seen) xs a.1 h))

  bump-agree : (s s' : ℕ → ℕ) (x : A) → P x → Agree s s' → Agree (bump s (rid x)) (bump s' (rid' x))
  bump-agree s s' x p h y q = by_eq (rid x) (rid y)
      (λ e _. bump-same s (rid x) (rid y) e ∙ ap suc (h y q) ∙ sym (bump-same s' (rid' x) (rid' y) (same x y p q e)))
      (λ n _. bump-other s (rid x) (rid y) n ∙ h y q ∙ sym (bump-other s' (rid' x) (rid' y) (λ e. n (same' x y p q e))))

  abbrev Equal : ℕ → (ℕ → ℕ) → (ℕ → ℕ) → List A → Type 0
  Equal n s s' rest = merge lane rid num n s rest ≡ merge lane' rid' num' n s' rest

  merge-agree : (n : ℕ) (s s' : ℕ → ℕ) (rest : List A) → All P rest → Agree s s' → Equal n s s' rest
  merge-agree zero s s' rest a h = refl
  merge-agree (suc n) s s' rest a h = go (pick lane rid num s [] rest) refl (merge-agree n)
    where
      go : (o : Pick A) → pick lane rid num s [] rest ≡ o →
          ((s s' : ℕ → ℕ) (rest : List A) → All P rest → Agree s s' → Equal n s s' rest) → Equal (suc n) s s' rest
      go stuck e ih =
          merge-stuck lane rid num (suc n) s rest e
          ∙ sym (merge-stuck lane' rid' num' (suc n) s' rest (sym (pick-agree s s' [] rest a h) ∙ e))
      go (took x xs) e ih =
          let b = all_lanes lane P (x ∷ xs) rest (picked lane rid num s [] rest x xs e).lanes a in
          merge-took lane rid num n s rest x xs e
          ∙ ap (λ m. (x ∷ m.0, m.1)) (ih (bump s (rid x)) (bump s' (rid' x)) xs b.1 (bump-agree s s' x b.0 h))
          ∙ sym (merge-took lane' rid' num' n s' rest x xs (sym (pick-agree s s' [] rest a h) ∙ e))

-- ── the merge of a mapped list ──
module _ {A B : Type 0} (f : A → B) where
  abbrev map_pick : Pick A → Pick B
  map_pick stuck = stuck
  map_pick (took x xs) = took (f x) (map f xs)

  -- a mapped order and what is left
  abbrev pub both : List A × List A → List B × List B
  both m = (map f m.0, map f m.1)

  keep-map : (x : A) (o : Pick A) → keep (f x) (map_pick o) ≡ map_pick (keep x o)
  keep-map x stuck = refl
  keep-map x (took y ys) = refl

  module _ (lane rid num : B → ℕ) where
    abbrev picks : (ℕ → ℕ) → List ℕ → List A → Pick A
    picks = pick (λ a. lane (f a)) (λ a. rid (f a)) (λ a. num (f a))

    abbrev merges : ℕ → (ℕ → ℕ) → List A → List A × List A
    merges = merge (λ a. lane (f a)) (λ a. rid (f a)) (λ a. num (f a))

    pick-map : (stage : ℕ → ℕ) (seen : List ℕ) (xs : List A) → pick lane rid num stage seen (map f xs) ≡ map_pick (picks stage seen xs)
    pick-map stage seen [] = refl
    pick-map stage seen (x ∷ xs) = by_bool (not (among (lane (f x)) seen) && eqb (num (f x)) (stage (rid (f x))))
        (λ t. rw t)
        (λ t. rw t (ap (keep (f x)) (pick-map stage (lane (f x) ∷ seen) xs) ∙ keep-map x (picks stage (lane (f x) ∷ seen) xs)))

    merge-map : (n : ℕ) (stage : ℕ → ℕ) (xs : List A) → merge lane rid num n stage (map f xs) ≡ both (merges n stage xs)
    merge-map zero stage xs = refl
    merge-map (suc n) stage xs = go (picks stage [] xs) refl (merge-map n)
      where
        go : (o : Pick A) → picks stage [] xs ≡ o →
            ((s : ℕ → ℕ) (ys : List A) → merge lane rid num n s (map f ys) ≡ both (merges n s ys)) →
            merge lane rid num (suc n) stage (map f xs) ≡ both (merges (suc n) stage xs)
        go stuck e ih =
            merge-stuck lane rid num (suc n) stage (map f xs) (pick-map stage [] xs ∙ ap map_pick e)
            ∙ ap both (sym (merge-stuck (λ a. lane (f a)) (λ a. rid (f a)) (λ a. num (f a)) (suc n) stage xs e))
        go (took x ys) e ih =
            merge-took lane rid num n stage (map f xs) (f x) (map f ys) (pick-map stage [] xs ∙ ap map_pick e)
            ∙ ap (λ m. (f x ∷ m.0, m.1)) (ih (bump stage (rid (f x))) ys)
            ∙ ap both (sym (merge-took (λ a. lane (f a)) (λ a. rid (f a)) (λ a. num (f a)) n stage xs x ys e))

-- ── the items of a list, held in arrays ──
map-shift : {A : Type 0} (f : ℕ → A) (i m : ℕ) → map f (up_from (suc i) m) ≡ map (λ k. f (suc k)) (up_from i m)
map-shift f i zero = refl
map-shift f i (suc m) = ap (λ t. f (suc i) ∷ t) (map-shift f (suc i) m)

map-up : {A : Type 0} (xs : List A) (d : A) → map (λ i. get_or xs i d) (up_from 0 (length xs)) ≡ xs
map-up [] d = refl
map-up (x ∷ xs) d = ap (λ t. x ∷ t) (map-shift (λ i. get_or (x ∷ xs) i d) 0 (length xs) ∙ map-up xs d)

all-below : (i m n : ℕ) → i + m ≤ n → All (λ k. k < n) (up_from i m)
all-below i zero n h = tt
all-below i (suc m) n h = (omega arith, all-below (suc i) m n (omega arith))

module _ {A : Type 0} (lane rid num : A → ℕ) (items : List A) (d : A) (lanes requests numbers : List ℕ) where
  abbrev item : ℕ → A
  item i = get_or items i d

  -- the arrays hold the items: their lanes and numbers, and for each request a number of its own
  pub record Held : Type 0 where
    pub lane_at : (i : ℕ) → i < length items → lane (item i) ≡ slot lanes 17 i
    pub number_at : (i : ℕ) → i < length items → num (item i) ≡ value numbers i
    pub one_request : (i j : ℕ) → i < length items → j < length items → rid (item i) ≡ rid (item j) →
        slot requests 64 i ≡ slot requests 64 j
    pub one_slot : (i j : ℕ) → i < length items → j < length items → slot requests 64 i ≡ slot requests 64 j →
        rid (item i) ≡ rid (item j)

  pub merge-items : Held →
      merge_all lane rid num items ≡ both (λ i. get_or items i d) (merge_of lanes requests numbers (length items))
  unfolding merge_of
  merge-items h =
      ap (merge lane rid num (length items) (λ r. 0)) (sym (map-up items d))
      ∙ merge-map item lane rid num (length items) (λ r. 0) (up_from 0 (length items))
      ∙ ap (both item) (merge-agree (λ i. i < length items) (λ i. lane (item i)) (λ i. rid (item i)) (λ i. num (item i))
      (slot lanes 17) (slot requests 64) (value numbers) h.lane_at h.number_at h.one_request h.one_slot
      (length items) (λ r. 0) (λ r. 0) (up_from 0 (length items)) (all-below 0 (length items) (length items) (omega arith)) (λ x p. refl))

-- ── how many are left tells whether there is an order ──
module _ (lane request number : List ℕ) (n : ℕ) where
  abbrev pub OrderOf : List ℕ → Type 0
  OrderOf = IsOrder (slot lane 17) (slot request 64) (value number) (λ r. 0) (up_from 0 n)

  pub none_left : ((counts (merge_of lane request number n)).left ≡ 0) ↔ ((order : List ℕ) × OrderOf order)
  unfolding merge_of
  none_left = (
    λ e. (
      (merge_of lane request number n).0,
      merge-order (slot lane 17) (slot request 64) (value number) n (λ r. 0) (up_from 0 n) (nil_from_length (merge_of lane request number n).1 e),
    ),
    λ o. ap length (order-merge (slot lane 17) (slot request 64) (value number) n (λ r. 0) (up_from 0 n) o.0
        (omega (arith, up-length 0 n)) o.1),
  )

  -- and where none is, each position stands in the order, and no other
  pub whole-order : (counts (merge_of lane request number n)).left ≡ 0 →
      (length (merge_of lane request number n).0 ≡ n) × All (λ i. i < n) (merge_of lane request number n).0
  unfolding merge_of none_left
  whole-order e =
      let order = (merge_of lane request number n).0 in
      let o = (none_left.0 e).1.lanes in (
        sym (count-all order) ∙ count-lanes (slot lane 17) (λ i. true) order (up_from 0 n) o ∙ count-all (up_from 0 n) ∙ up-length 0 n,
        all_lanes (slot lane 17) (λ i. i < n) order (up_from 0 n) o (all-below 0 n n (omega arith)),
      )
