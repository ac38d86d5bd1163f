-- The search over the heads finds the smallest that is next in its request.
use mathlib.Core.Path.{◌≡◌, refl, sym, ap, subst}
use mathlib.Core.Bool.{Bool, true, false, cond, ◌&&◌, and-false}
use mathlib.Core.List.{List}
use Prim.Native.Nat.{ℕ, zero, suc, ◌+◌, ◌-◌, ◌%◌, ◌≤◌, ◌<◌, min}
use lib.Dec.{ltb}
use lib.ListN.{get_or, length}
use native.Mathlib.Omega.{arith}
use borrow.Author.Tests.{lt-ltb, le-ltb, ltb-true, ltb-false}
use Rattle.std.specs.Prelude.{Option, Some, None}
use Rattle.basics.proofs.Tests.{by_bool, by_eq, clash, and-true, eqb_yes, eqb_no}
use Rattle.ordering.specs.declared.Front.{Front}
use Rattle.ordering.specs.Heads.{is_next, search, Inside, least_of}

module _ (next : ℕ → Bool) (head : List ℕ) (n : ℕ) where
  -- the item is the head of its lane; it is next in its request, and the smallest of the heads that are
  pub record Leads (f : Front) : Type 0 where
    pub lane : f.lane < 17
    pub first : f.item ≡ get_or head f.lane 0
    pub item : f.item < n
    pub ready : next f.item ≡ true
    pub least : (j : ℕ) → j < 17 → next (get_or head j 0) ≡ true → f.item ≤ get_or head j 0

  -- what a search over all heads finds: a lane with its item; or nothing, and then no head is next
  abbrev pub Least : Option Front → Type 0
  Least (Some f) = Leads f
  Least None = (j : ℕ) → j < 17 → next (get_or head j 0) ≡ true → n ≤ get_or head j 0

  -- the same of the heads below l, with the limit of what is looked for next
  abbrev Held : ℕ → Option Front → Type 0
  Held limit (Some f) = (f.lane < 17) × (f.item ≡ get_or head f.lane 0) × (f.item ≡ limit) × (limit < n) × (next f.item ≡ true)
  Held limit None = limit ≡ n

  record Looking (l limit : ℕ) (found : Option Front) : Type 0 where
    pub inside : limit ≤ n
    pub held : Held limit found
    pub least : (j : ℕ) → j < l → next (get_or head j 0) ≡ true → limit ≤ get_or head j 0

  looking-past : (l limit : ℕ) (found : Option Front) → (next (get_or head l 0) ≡ true → limit ≤ get_or head l 0) →
      Looking l limit found → Looking (suc l) limit found
  looking-past l limit found h g = record {
    inside = g.inside;
    held = g.held;
    least = λ j b x. by_eq j l
        (λ p _. subst (λ i. limit ≤ get_or head i 0) (sym p) (h (subst (λ i. next (get_or head i 0) ≡ true) p x)))
        (λ p _. g.least j (omega arith) x);
  }

  looking-found : (l limit : ℕ) (found : Option Front) → l < 17 → get_or head l 0 < limit → next (get_or head l 0) ≡ true →
      Looking l limit found → Looking (suc l) (get_or head l 0) (Some (record { lane = l; item = get_or head l 0 }))
  looking-found l limit found s b x g = record {
    inside = omega (arith, g.inside);
    held = (s, refl, refl, omega (arith, g.inside), x);
    least = λ j i y. by_eq j l
        (λ p _. subst (λ i. get_or head l 0 ≤ get_or head i 0) (sym p) (omega arith))
        (λ p _. omega (arith, g.least j (omega arith) y));
  }

  looked-all : (limit : ℕ) (found : Option Front) → Looking 17 limit found → Least found
  looked-all limit (Some f) g = record {
    lane = g.held.0;
    first = g.held.1;
    item = omega (arith, g.held);
    ready = g.held.4;
    least = λ j s x. omega (arith, g.held, g.least j s x);
  }
  looked-all limit None g = λ j s x. omega (arith, g.held, g.least j s x)

  looked : (m l limit : ℕ) (found : Option Front) → l + m ≡ 17 → Looking l limit found → Least (search next head m l limit found)
  unfolding search
  looked zero l limit found e g = let z : l ≡ 17 = omega arith in looked-all limit found (subst (λ l. Looking l limit found) z g)
  looked (suc m) l limit found e g = by_bool (ltb (get_or head l 0) limit && next (get_or head l 0))
      (λ t.
      let b = and-true (ltb (get_or head l 0) limit) (next (get_or head l 0)) t in
      rw t (looked m (suc l) (get_or head l 0) (Some (record { lane = l; item = get_or head l 0 })) (omega arith)
      (looking-found l limit found (omega arith) (ltb-true (get_or head l 0) limit b.0) b.1 g)))
      (λ t. rw t (looked m (suc l) limit found (omega arith) (looking-past l limit found (λ x. by_bool (ltb (get_or head l 0) limit)
      (λ b. absurd (no (get_or head l 0) limit b x t))
      (λ b. ltb-false (get_or head l 0) limit b)) g)))
    where
      no : (h i : ℕ) → ltb h i ≡ true → next h ≡ true → (ltb h i && next h) ≡ false → ⊥
      no h i b x t = let t' = rw (b, x) at t in clash (cc)

-- what `least` gives where the arrays have n items at least
pub least-of : (request number stage head : List ℕ) (n : ℕ) (found : Option Front) → n ≤ length request → n ≤ length number →
    found ≡ least_of request number stage head n → Least (is_next request number stage) head n found
unfolding least_of
least-of request number stage head n found a b e =
    let m : min n (min (length request) (length number)) ≡ n = omega arith in
    rw (e, m) (looked (is_next request number stage) head n 17 0 n None refl (record {
      inside = omega arith;
      held = refl;
      least = λ j b. absurd (omega arith);
    }))

-- ── the loop: its invariant, and a law for each way through its body ──
module _ (request number stage head : List ℕ) (n : ℕ) where
  pub record Searching (l limit : ℕ) (found : Option Front) : Type 0 where
    pub few : limit ≤ n
    pub inside : Inside n found
    pub requests : limit ≤ length request
    pub numbers : limit ≤ length number
    pub rest : search (is_next request number stage) head (17 - l) l limit found ≡ least_of request number stage head n

  pub searching_start : (limit : ℕ) → limit ≡ min n (min (length request) (length number)) → Searching 0 limit None
  unfolding least_of
  searching_start limit e = record {
    few = omega arith;
    inside = tt;
    requests = omega arith;
    numbers = omega arith;
    rest = ap (λ b. search (is_next request number stage) head 17 0 b None) e;
  }

  module _ (l limit : ℕ) (found : Option Front) (s : l < 17) (g : Searching l limit found) where
    -- one lane on, whether the test of its head holds or not
    step : (t : Bool) → (ltb (get_or head l 0) limit && is_next request number stage (get_or head l 0)) ≡ t →
        cond t
        (search (is_next request number stage) head (17 - (l + 1)) (l + 1) (get_or head l 0) (Some (record { lane = l; item = get_or head l 0 })))
        (search (is_next request number stage) head (17 - (l + 1)) (l + 1) limit found) ≡ least_of request number stage head n
    unfolding search
    step t c =
        let m : 17 - l ≡ suc (17 - (l + 1)) = omega arith in
        let k : l + 1 ≡ suc l = omega arith in
        rw (← c, k) (rw (m, k) at g.rest)

    past : (ltb (get_or head l 0) limit && is_next request number stage (get_or head l 0)) ≡ false → Searching (l + 1) limit found
    past t = record { few = g.few; inside = g.inside; requests = g.requests; numbers = g.numbers; rest = step false t }

    -- x is the lane's head, w its request's byte
    pub searching_past : (x : ℕ) → x ≡ get_or head l 0 → limit ≤ x → Searching (l + 1) limit found
    searching_past x e b = past (rw (← e, le-ltb x limit b))

    pub searching_other : (x w : ℕ) → x ≡ get_or head l 0 → w ≡ get_or request x 0 →
        (get_or number x 0 ≡ get_or stage (w % 64) 0 → ⊥) → Searching (l + 1) limit found
    searching_other x w e d t = past (rw (← e, ← d, eqb_no t) (and-false (ltb x limit)))

    pub searching_found : (x w : ℕ) → x ≡ get_or head l 0 → x < limit → w ≡ get_or request x 0 →
        get_or number x 0 ≡ get_or stage (w % 64) 0 → Searching (l + 1) x (Some (record { lane = l; item = x }))
    searching_found x w e b d t = record {
      few = omega (arith, g.few);
      inside = (omega (arith, g.few), s);
      requests = omega (arith, g.requests);
      numbers = omega (arith, g.numbers);
      rest = rw e (step true (rw (← e, lt-ltb x limit b, ← d, eqb_yes t)));
    }

  pub searching_end : (l limit : ℕ) (found : Option Front) → 17 ≤ l → Searching l limit found → found ≡ least_of request number stage head n
  unfolding search
  searching_end l limit found e g = let z : 17 - l ≡ 0 = omega arith in rw z at g.rest

pub ruleset searching = (searching_start, searching_past, searching_other, searching_found, searching_end)
