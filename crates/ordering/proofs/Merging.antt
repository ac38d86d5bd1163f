-- The loop that takes one item after another: its invariant, and a law for each way through it.
use mathlib.Core.Path.{◌≡◌, refl, sym, ap, subst, fun_ext, ◌∙◌}
use mathlib.Core.Bool.{true, false}
use lib.Dec.{eqb}
use mathlib.Core.List.{List, [], ◌∷◌, ◌++◌, append-nil, append_assoc}
use Prim.Native.Nat.{ℕ, zero, suc, ◌+◌, ◌-◌, ◌%◌, ◌≤◌, ◌<◌}
use lib.ListN.{get_or, length, set, drop, length-set, length-append, replicate}
use lib.Seq.{get_or-set_same, get_or-set_other, drop-cons, set-append_seam}
use native.Mathlib.Omega.{arith}
use Rattle.std.specs.Prelude.{Option, Some, None}
use Rattle.basics.proofs.Lists.{all-imp}
use Rattle.basics.proofs.Tests.{by_eq, eqb_yes, eqb_no, yes_eqb}
use Rattle.ordering.specs.declared.Front.{Front}
use Rattle.ordering.specs.declared.Merged.{Merged}
use Rattle.ordering.specs.Order.{on_lane}
use Rattle.ordering.specs.Merge.{merge, pick, took, bump}
use Rattle.ordering.specs.Positions.{up_from, slot, value, merge_of, over_front, counts}
use Rattle.ordering.specs.Heads.{is_next, least_of}
use Rattle.ordering.proofs.Numbers.{bump-same, bump-other}
use Rattle.ordering.proofs.Orders.{merge-stuck, merge-took, picked, Picked}
use Rattle.ordering.proofs.Pick.{Ascending, Ready, head-lane, still-ascending, pick-least, pick-none}
use Rattle.ordering.proofs.Links.{Through, Linked, all_up}
use Rattle.ordering.proofs.Search.{Leads, Least, least-of}

-- ── small laws ──
up-ascending : (i m : ℕ) → Ascending (up_from i m)
up-ascending i zero = tt
up-ascending i (suc m) =
    (all-imp (λ k. suc i ≤ k) (λ k. i < k) (λ k h. omega arith) (up_from (suc i) m) (all_up (suc i) m), up-ascending (suc i) m)

pub up-length : (i m : ℕ) → length (up_from i m) ≡ m
up-length i zero = refl
up-length i (suc m) = ap suc (up-length (suc i) m)

zeros : (n k : ℕ) → ◌≡◌ {A = ℕ} (get_or (replicate n 0) k 0) 0
zeros zero k = refl
zeros (suc n) zero = refl
zeros (suc n) (suc k) = zeros n k

-- a path that starts at an item
starts : (after : List ℕ) (n h : ℕ) (xs : List ℕ) → h < n → Through after n h xs → (q : List ℕ) × (xs ≡ h ∷ q)
starts after n h [] s c = absurd (omega arith)
starts after n h (x ∷ xs) s c = (xs, ap (λ t. t ∷ xs) (sym c.0))

module _ (stage : List ℕ) (r : ℕ) (b : r < length stage) where
  abbrev up : List ℕ
  up = set stage r (get_or stage r 0 + 1)

  bumped : bump (λ j. get_or stage j 0) r ≡ (λ j. get_or up j 0)
  bumped = fun_ext λ j. by_eq r j
      (λ p _. bump-same (λ j. get_or stage j 0) r j p
      ∙ subst (λ i. suc (get_or stage i 0) ≡ get_or up i 0) p (sym (get_or-set_same stage r (get_or stage r 0 + 1) 0 b ∙ omega arith)))
      (λ p _. bump-other (λ j. get_or stage j 0) r j p ∙ sym (get_or-set_other stage r j (get_or stage r 0 + 1) 0 (λ q. p (sym q))))

  still-small : (k : ℕ) → ((j : ℕ) → get_or stage j 0 ≤ k) → (j : ℕ) → get_or up j 0 ≤ k + 1
  still-small k h j = by_eq r j
      (λ p _. subst (λ j. get_or up j 0 ≤ k + 1) p (omega (arith, get_or-set_same stage r (get_or stage r 0 + 1) 0 b, h r)))
      (λ p _. omega (arith, get_or-set_other stage r j (get_or stage r 0 + 1) 0 (λ q. p (sym q)), h j))

-- x written behind what is done
write : (o done out : List ℕ) (k x : ℕ) → k < length o → length done ≡ k → out ≡ done ++ drop k o →
    set out k x ≡ (done ++ (x ∷ [])) ++ drop (k + 1) o
write o done out k x b e w =
    let a : drop k o ≡ get_or o k 0 ∷ drop (k + 1) o = (let f : k + 1 ≡ suc k = omega arith in rw f (drop-cons o k 0 b)) in
    ap (λ t. set t k x) (w ∙ ap (λ t. done ++ t) a)
    ∙ subst (λ j. set (done ++ get_or o k 0 ∷ drop (k + 1) o) j x ≡ done ++ x ∷ drop (k + 1) o) e
    (set-append_seam done (get_or o k 0) (drop (k + 1) o) x)
    ∙ sym (append_assoc done (x ∷ []) (drop (k + 1) o))

ordered : (done : List ℕ) (x : ℕ) (m v : List ℕ × List ℕ) (o : List ℕ) → v ≡ (x ∷ m.0, m.1) → done ++ v.0 ≡ o →
    (done ++ (x ∷ [])) ++ m.0 ≡ o
ordered done x m v o e h = append_assoc done (x ∷ []) m.0 ∙ ap (λ t. done ++ t.0) (sym e) ∙ h

module _ (lane request number : List ℕ) (n : ℕ) (o : List ℕ) where
  abbrev lane_at : ℕ → ℕ
  lane_at = slot lane 17

  abbrev request_at : ℕ → ℕ
  request_at = slot request 64

  abbrev number_at : ℕ → ℕ
  number_at = value number

  abbrev next_in : List ℕ → ℕ → ℕ
  next_in stage r = get_or stage r 0

  abbrev merge_from : ℕ → List ℕ → List ℕ → List ℕ × List ℕ
  merge_from m stage rest = merge lane_at request_at number_at m (next_in stage) rest

  pub record Merging (after out head stage : List ℕ) (k : ℕ) : Type 0 where
    pub done : List ℕ
    pub rest : List ℕ
    pub heads : length head ≡ 17
    pub stages : length stage ≡ 64
    pub requests : n ≤ length request
    pub numbers : n ≤ length number
    pub room : n ≤ length o
    pub small : (r : ℕ) → get_or stage r 0 ≤ k
    pub written : out ≡ done ++ drop k o
    pub so_far : length done ≡ k
    pub whole : k + length rest ≡ n
    pub ascending : Ascending rest
    pub lanes : (l : ℕ) → l < 17 → Through after n (get_or head l 0) (on_lane lane_at l rest)
    pub order : done ++ (merge_from (n - k) stage rest).0 ≡ (merge_of lane request number n).0
    pub left : (merge_from (n - k) stage rest).1 ≡ (merge_of lane request number n).1

  pub merging_start : (after head : List ℕ) → n ≤ length request → n ≤ length number → n ≤ length o → Linked lane n 0 head after →
      Merging after o head (replicate 64 0) 0
  unfolding merge_of
  merging_start after head q m b h =
      let e : n - 0 ≡ n = omega arith in
      let z : ◌≡◌ {A = ℕ → ℕ} (λ r. get_or (replicate 64 0) r 0) (λ r. 0) = fun_ext (λ r. zeros 64 r) in
      record {
        done = [];
        rest = up_from 0 n;
        heads = h.heads;
        stages = refl;
        requests = q;
        numbers = m;
        room = b;
        small = λ r. omega (arith, zeros 64 r);
        written = refl;
        so_far = refl;
        whole = omega (arith, up-length 0 n);
        ascending = up-ascending 0 n;
        lanes = rw e at h.lanes;
        order = rw (e, z);
        left = rw (e, z);
      }

  -- ── the end ──
  -- what a merge that stops leaves in the array and gives back
  abbrev pub Written : ℕ → List ℕ → ℕ → Type 0
  Written m out k = record {
    order : out ≡ over_front (merge_of lane request number m).0 o;
    counted : ◌≡◌ {A = Merged} (record { taken = k; left = n - k }) (counts (merge_of lane request number m));
  }

  written : (out done : List ℕ) (k : ℕ) → out ≡ done ++ drop k o → length done ≡ k →
      done ≡ (merge_of lane request number n).0 → n - k ≡ length (merge_of lane request number n).1 → Written n out k
  written out done k w s a b =
      let t : k ≡ length (merge_of lane request number n).0 = sym s ∙ ap length a in
      record {
        order = w ∙ ap (λ j. done ++ drop j o) (sym s) ∙ ap (λ t. over_front t o) a;
        counted = λ i. record { taken = t i; left = b i };
      }

  merging-done : (after out head stage : List ℕ) (k m : ℕ) → n ≡ m → (g : Merging after out head stage k) →
      merge_from (n - k) stage g.rest ≡ ([], g.rest) → Written m out k
  merging-done after out head stage k m c g e = subst (λ m. Written m out k) c (written out g.done k
      g.written
      g.so_far
      (sym (append-nil g.done) ∙ ap (λ t. g.done ++ t.0) (sym e) ∙ g.order)
      (omega (arith, g.whole, ap length (sym g.left ∙ ap (λ t. t.1) e))))

  -- ── the heads are what `pick` could take ──
  headed : (after out head stage : List ℕ) (k : ℕ) (g : Merging after out head stage k) (y : ℕ) →
      Ready lane_at request_at number_at (next_in stage) g.rest y →
      (get_or head (lane_at y) 0 ≡ y) × (y < n)
  headed after out head stage k g y r =
      let c : Through after n (get_or head (lane_at y) 0) (y ∷ r.0) =
      subst (Through after n (get_or head (lane_at y) 0)) r.1 (g.lanes (lane_at y) (omega arith)) in
      (c.0, c.1)

  is-next : (stage : List ℕ) (x y : ℕ) → x ≡ y → number_at y ≡ next_in stage (request_at y) → is_next request number stage x ≡ true
  is-next stage x y e t = eqb_yes (subst (λ y. number_at y ≡ next_in stage (request_at y)) (sym e) t)

  -- ── what `least` finds ──
  abbrev Found : List ℕ → List ℕ → Option Front → Type 0
  Found stage head found = found ≡ least_of request number stage head n

  merging-least : (after out head stage : List ℕ) (k : ℕ) (found : Option Front) → Merging after out head stage k →
      Found stage head found → Least (is_next request number stage) head n found
  merging-least after out head stage k found g e = least-of request number stage head n found g.requests g.numbers e

  pub merging-leads : (after out head stage : List ℕ) (k : ℕ) (f : Front) → Merging after out head stage k → Found stage head (Some f) →
      Leads (is_next request number stage) head n f
  merging-leads after out head stage k f = merging-least after out head stage k (Some f)

  pub merging_stop : (after out head stage : List ℕ) (k m : ℕ) → n ≡ m → Merging after out head stage k →
      Found stage head None → Written m out k
  merging_stop after out head stage k m c g e =
      let none : Least (is_next request number stage) head n None = merging-least after out head stage k None g e in
      merging-done after out head stage k m c g (merge-stuck lane_at request_at number_at (n - k) (next_in stage) g.rest
      (pick-none lane_at request_at number_at (next_in stage) g.rest (λ y r.
      let d = headed after out head stage k g y r in
      omega (arith, d.0, d.1, none (lane_at y) (omega arith) (is-next stage (get_or head (lane_at y) 0) y d.0 r.2)))))

  -- ── a step ──
  -- the lanes behind it, given that `pick` takes x, the head of lane l
  lanes_step : (after head rest zs : List ℕ) (l x : ℕ) → length head ≡ 17 → l < 17 → lane_at x ≡ l →
      ((j : ℕ) → on_lane lane_at j (x ∷ zs) ≡ on_lane lane_at j rest) →
      ((j : ℕ) → j < 17 → Through after n (get_or head j 0) (on_lane lane_at j rest)) →
      (j : ℕ) → j < 17 → Through after n (get_or (set head l (get_or after x 0)) j 0) (on_lane lane_at j zs)
  lanes_step after head rest zs l x hl b lx p g j a = by_eq l j
      (λ q d. subst (λ j. Through after n (get_or (set head l (get_or after x 0)) j 0) (on_lane lane_at j zs)) q
      (rw (get_or-set_same head l (get_or after x 0) 0 (omega arith))
      (subst (Through after n (get_or head l 0)) {y = x ∷ on_lane lane_at l zs} (sym (p l) ∙ rw (eqb_yes lx)) (g l b)).2))
      (λ q d.
      let i : eqb (lane_at x) j ≡ false = eqb_no {a = lane_at x} {b = j} (λ r. q (sym lx ∙ r)) in
      rw (get_or-set_other head l j (get_or after x 0) 0 (λ r. q (sym r)))
      (subst (Through after n (get_or head j 0)) {y = on_lane lane_at j zs} (sym (p j) ∙ rw i) (g j a)))

  stepped : (after out head stage : List ℕ) (k l x : ℕ) (zs : List ℕ) → k < n → l < 17 → lane_at x ≡ l →
      (g : Merging after out head stage k) → pick lane_at request_at number_at (next_in stage) [] g.rest ≡ took x zs →
      Merging after (set out k x) (set head l (get_or after x 0)) (set stage (request_at x) (get_or stage (request_at x) 0 + 1)) (k + 1)
  stepped after out head stage k l x zs s b lx g e =
      let p : Picked lane_at request_at number_at (next_in stage) [] g.rest x zs =
      picked lane_at request_at number_at (next_in stage) [] g.rest x zs e in
      let in-stage : request_at x < length stage = omega (arith, g.stages) in
      let m : n - k ≡ suc (n - (k + 1)) = omega arith in
      let next : List ℕ × List ℕ = merge_from (n - (k + 1)) (set stage (request_at x) (get_or stage (request_at x) 0 + 1)) zs in
      let v : merge_from (n - k) stage g.rest ≡ (x ∷ next.0, next.1) =
      ap (λ j. merge_from j stage g.rest) m ∙ merge-took lane_at request_at number_at (n - (k + 1)) (next_in stage) g.rest x zs e
      ∙ ap (λ f. let m = merge lane_at request_at number_at (n - (k + 1)) f zs in (x ∷ m.0, m.1)) (bumped stage (request_at x) in-stage) in
      record {
        done = g.done ++ (x ∷ []);
        rest = zs;
        heads = length-set head l (get_or after x 0) ∙ g.heads;
        stages = length-set stage (request_at x) (get_or stage (request_at x) 0 + 1) ∙ g.stages;
        requests = g.requests;
        numbers = g.numbers;
        room = g.room;
        small = still-small stage (request_at x) in-stage k g.small;
        written = write o g.done out k x (omega (arith, g.room)) g.so_far g.written;
        so_far = omega (arith, length-append g.done (x ∷ []), g.so_far);
        whole = omega (arith, p.shorter, g.whole);
        ascending = still-ascending lane_at request_at number_at (next_in stage) [] g.rest x zs g.ascending e;
        lanes = lanes_step after head g.rest zs l x g.heads b lx p.lanes g.lanes;
        order = ordered g.done x next (merge_from (n - k) stage g.rest) (merge_of lane request number n).0 v g.order;
        left = ap (λ t. t.1) (sym v) ∙ g.left;
      }

  -- as the code has it: w is the byte read for the item's request
  pub merging_taken : (after out head stage : List ℕ) (k w : ℕ) (f : Front) → k < n → w ≡ get_or request f.item 0 →
      Merging after out head stage k → Found stage head (Some f) →
      Merging after (set out k f.item) (set head f.lane (get_or after f.item 0)) (set stage (w % 64) (get_or stage (w % 64) 0 + 1))
      (k + 1)
  merging_taken after out head stage k w f s d g e =
      let x = f.item in
      let l = f.lane in
      let h = merging-leads after out head stage k f g e in
      let q = starts after n x (on_lane lane_at l g.rest) h.item
      (subst (λ h. Through after n h (on_lane lane_at l g.rest)) (sym h.first) (g.lanes l h.lane)) in
      let lx : lane_at x ≡ l = head-lane lane_at l g.rest x q.0 q.1 in
      let r : Ready lane_at request_at number_at (next_in stage) g.rest x =
      (q.0, subst (λ l. on_lane lane_at l g.rest ≡ x ∷ q.0) (sym lx) q.1, yes_eqb h.ready) in
      let p = pick-least lane_at request_at number_at (next_in stage) g.rest x g.ascending r (λ y r.
      let d = headed after out head stage k g y r in
      omega (arith, d.0, h.least (lane_at y) (omega arith) (is-next stage (get_or head (lane_at y) 0) y d.0 r.2))) in
      subst (λ r. Merging after (set out k x) (set head l (get_or after x 0)) (set stage r (get_or stage r 0 + 1)) (k + 1))
      (ap (λ w. w % 64) (sym d))
      (stepped after out head stage k l x p.0 s h.lane lx g p.1)
