-- The items of a batch of which rows 4 and 6 to 8 do not hold: each number of a request stands once, and has the one before it.
use mathlib.Core.Bool.{true, false, cond}
use mathlib.Core.List.Memᴰ
use mathlib.Core.List.{
  List,
  [],
  ◌∷◌,
  ◌++◌,
  map,
  Memᴰ,
}
use mathlib.Core.Logic.{◌≢◌, ◌⊎◌, inl, inr, ⊎_elim}
use mathlib.Core.Path.{◌≡◌, refl, sym, ap, subst, subst₂, ◌∙◌}
use Prim.Native.Nat.{ℕ, zero, suc, ◌≤◌}
use lib.Dec.{eqb, eqb-suc-zero, eqb-zero-suc}
use native.Mathlib.Omega.{arith}
use Rattle.basics.specs.Lists.{All, Later}
use Rattle.basics.specs.Count.{count}
use Rattle.basics.proofs.Lists.{mem-all, count-append}
use Rattle.basics.proofs.Tests.{clash, by_bool, by_eq, and-true, yes_eqb, eqb_no}
use Rattle.text.specs.declared.report.Entry.{Entry}
use Rattle.text.specs.declared.trace.Event.TheVariants.{Request, Response}
use Rattle.text.specs.declared.trace.Event.{Event}
use Rattle.ordering.specs.Whole.{keyed, Whole}
use Rattle.model.specs.Batch.{Batch, requested, answered, count_of, claims, claimed, Node, ev, ln}
use Rattle.model.specs.Nodes.{lane, rid, num, nodes}
use Rattle.model.proofs.Claims.{Counted, Unique, Full, Reported, counted-mem}
use Rattle.model.proofs.Mapped.{later-map}
use Rattle.model.proofs.Nodes.{nodes-events}
use Rattle.model.proofs.Requests.{OfRequest, request-of, Named, events-named, ofs-counted}
use Rattle.model.proofs.Trace.{InOrder, Formed}

-- ── each number of a request stands at most once ──
module _ (cnt : ℕ → ℕ) where
  -- how many items have the number k in request r
  abbrev times : ℕ → ℕ → List Node → ℕ
  times r k ys = count (keyed rid (num cnt) r k) ys

  times-unclaimed : (r k : ℕ) (ls : List Entry) → claimed ls r k ≡ false → times r k (map ln ls) ≡ 0
  times-unclaimed r k [] e = refl
  times-unclaimed r k (l ∷ ls) e = by_bool (claims r k l)
      (λ d. let e' = rw d at e in clash (cc))
      (λ d. rw d (omega (arith, times-unclaimed r k ls (rw d at e))))

  times-lines : (r k : ℕ) (ls : List Entry) → Unique ls → times r k (map ln ls) ≤ 1
  times-lines r k [] u = omega arith
  times-lines r k (l ∷ ls) u = by_bool (claims r k l)
      (λ d.
      let g = and-true (eqb l.rid r) (eqb l.num k) d in
      let p : l.rid ≡ r = yes_eqb g.0 in
      let q : l.num ≡ k = yes_eqb g.1 in
      rw d (omega (arith, times-unclaimed r k ls (subst₂ (λ r k. claimed ls r k ≡ false) p q u.0))))
      (λ d. rw d (omega (arith, times-lines r k ls u.1)))

  times-beyond : (r k : ℕ) (ls : List Entry) → All (Counted cnt) ls → ((1 ≤ k) × (k ≤ cnt r) → ⊥) → times r k (map ln ls) ≡ 0
  times-beyond r k [] h n = refl
  times-beyond r k (l ∷ ls) h n = by_bool (claims r k l)
      (λ d.
      let g = and-true (eqb l.rid r) (eqb l.num k) d in
      let p : l.rid ≡ r = yes_eqb g.0 in
      let q : l.num ≡ k = yes_eqb g.1 in
      absurd (n (omega (arith, h.0.low), omega (arith, h.0.high, ap cnt p))))
      (λ d. rw d (omega (arith, times-beyond r k ls h.1 n)))

  times-requests : (r : ℕ) (past es : List Event) → InOrder past es → times r 0 (map ev es) ≤ cond (requested r past) 0 1
  times-requests r past [] o = omega arith
  times-requests r past (Request q prog a b ∷ es) o =
      let i = times-requests r (Request q prog a b ∷ past) es o.1 in
      by_eq q r
      (λ p d.
      let n : requested r past ≡ false = subst (λ r. requested r past ≡ false) p o.0 in
      let i' = rw d at i in rw (d, n) (omega arith))
      (λ p d. let i' = rw d at i in rw d (omega arith))
  times-requests r past (Response q s v ∷ es) o =
      let i = times-requests r (Response q s v ∷ past) es o.2 in
      by_bool (eqb q r) (λ d. rw (d, eqb-suc-zero (cnt q)) (omega arith)) (λ d. rw d (omega arith))

  times-responses : (r k : ℕ) (past es : List Event) → InOrder past es → times r (suc k) (map ev es) ≤ cond (answered r past) 0 1
  times-responses r k past [] o = omega arith
  times-responses r k past (Request q prog a b ∷ es) o =
      let i = times-responses r k (Request q prog a b ∷ past) es o.1 in
      by_bool (eqb q r) (λ d. rw (d, eqb-zero-suc k) (omega arith)) (λ d. rw d (omega arith))
  times-responses r k past (Response q s v ∷ es) o =
      let i = times-responses r k (Response q s v ∷ past) es o.2 in
      by_eq q r
      (λ p d.
      let n : answered r past ≡ false = subst (λ r. answered r past ≡ false) p o.1 in
      let i' = rw d at i in
      rw (d, n) (by_bool (eqb (suc (cnt q)) (suc k)) (λ c. rw c (omega arith)) (λ c. rw c (omega arith))))
      (λ p d. let i' = rw d at i in rw d (omega arith))

  -- an event's number is 0, or one more than the count
  times-between : (r k : ℕ) (es : List Event) → k ≢ cnt r → times r (suc k) (map ev es) ≡ 0
  times-between r k [] n = refl
  times-between r k (Request q prog a b ∷ es) n =
      let i = times-between r k es n in
      by_bool (eqb q r) (λ d. rw (d, eqb-zero-suc k) (omega arith)) (λ d. rw d (omega arith))
  times-between r k (Response q s v ∷ es) n =
      let i = times-between r k es n in
      by_eq q r
      (λ p d. rw (d, eqb_no {a = suc (cnt q)} {b = suc k} (λ e. n (omega (arith, ap cnt p)))) (omega arith))
      (λ p d. rw d (omega arith))

  once : (es : List Event) (ls : List Entry) → InOrder [] es → All (Counted cnt) ls → Unique ls → (r k : ℕ) →
      times r k (map ln ls ++ map ev es) ≤ 1
  once es ls o h u r zero = omega (
    arith,
    count-append (keyed rid (num cnt) r 0) (map ln ls) (map ev es),
    times-beyond r 0 ls h (λ p. omega (arith, p.0)),
    times-requests r [] es o,
  )
  once es ls o h u r (suc k) =
      let sum = count-append (keyed rid (num cnt) r (suc k)) (map ln ls) (map ev es) in
      by_eq k (cnt r)
      (λ p _. omega (arith, sum, times-beyond r (suc k) ls h (λ q. omega (arith, q.1)), times-responses r k [] es o))
      (λ p _. omega (arith, sum, times-lines r (suc k) ls u, times-between r k es p))

-- ── a response stands behind its request ──
in-order-tail : (past : List Event) (e : Event) (es : List Event) → InOrder past (e ∷ es) → InOrder (e ∷ past) es
in-order-tail past (Request r prog x y) es o = o.1
in-order-tail past (Response r s v) es o = o.2

unrequested : (past : List Event) (e : Event) (r : ℕ) → requested r (e ∷ past) ≡ false → requested r past ≡ false
unrequested past (Request q prog x y) r n = by_bool (eqb q r) (λ d. let n' = rw d at n in clash (cc)) (λ d. rw d at n)
unrequested past (Response q s v) r n = n

not_yet : (past es : List Event) (r prog x y : ℕ) → InOrder past es → Memᴰ (Request r prog x y) es → requested r past ≡ false
not_yet past [] r prog x y o m = absurd (Memᴰ.not-nil m)
not_yet past (e ∷ es) r prog x y o m = ⊎_elim
    (λ i. let o' : InOrder past (Request r prog x y ∷ es) = subst (λ e. InOrder past (e ∷ es)) (sym i) o in o'.0)
    (λ k. unrequested past e r (not_yet (e ∷ past) es r prog x y (in-order-tail past e es o) k))
    (Memᴰ.cases_cons m)

-- where an item stands in a list
record Split {A : Type 0} (xs : List A) (x : A) : Type 0 where
  pub front : List A
  pub back : List A
  pub split : xs ≡ front ++ x ∷ back

split_at : {A : Type 0} (xs : List A) (x : A) → Memᴰ x xs → Split xs x
split_at [] x m = absurd (Memᴰ.not-nil m)
split_at (y ∷ xs) x m = at (Memᴰ.cases_cons m) (split_at xs x)
  where
    at : (x ≡ y) ⊎ Memᴰ x xs → (Memᴰ x xs → Split xs x) → Split (y ∷ xs) x
    at (inl e) ih = record { front = []; back = xs; split = ap (λ z. z ∷ xs) (sym e) }
    at (inr k) ih = let h = ih k in record { front = y ∷ h.front; back = h.back; split = ap (λ t. y ∷ t) h.split }

answered-later : (past es : List Event) (r prog x y s v : ℕ) → InOrder past es → Memᴰ (Request r prog x y) es →
    Memᴰ (Response r s v) es → Later es (Request r prog x y) (Response r s v)
answered-later past [] r prog x y s v o m k = absurd (Memᴰ.not-nil m)
answered-later past (e ∷ es) r prog x y s v o m k =
    at (Memᴰ.cases_cons m) (Memᴰ.cases_cons k) (answered-later (e ∷ past) es r prog x y s v (in-order-tail past e es o))
  where
    at : (Request r prog x y ≡ e) ⊎ Memᴰ (Request r prog x y) es → (Response r s v ≡ e) ⊎ Memᴰ (Response r s v) es →
        (Memᴰ (Request r prog x y) es → Memᴰ (Response r s v) es → Later es (Request r prog x y) (Response r s v)) →
        Later (e ∷ es) (Request r prog x y) (Response r s v)
    at (inl i) (inl j) ih = clash (cc)
    at (inl i) (inr k) ih =
        let h = split_at es (Response r s v) k in
        record {
          front = [];
          between = h.front;
          back = h.back;
          split = ap (λ e. e ∷ es) (sym i) ∙ ap (λ t. Request r prog x y ∷ t) h.split;
        }
    at (inr m) (inl j) ih =
        let o' : InOrder past (Response r s v ∷ es) = subst (λ e. InOrder past (e ∷ es)) (sym j) o in
        let a : requested r past ≡ true = o'.0 in
        let later = not_yet (e ∷ past) es r prog x y (in-order-tail past e es o) m in
        let n : requested r past ≡ false = unrequested past e r later in
        clash (cc)
    at (inr m) (inr k) ih =
        let h = ih m k in
        record { front = e ∷ h.front; between = h.between; back = h.back; split = ap (λ t. e ∷ t) h.split }

-- ── an item and the one before it ──
claimed-line : (ls : List Entry) (r k : ℕ) → claimed ls r k ≡ true → (l : Entry) × Memᴰ l ls × (l.rid ≡ r) × (l.num ≡ k)
claimed-line [] r k e = clash (cc)
claimed-line (l ∷ ls) r k e = by_bool (claims r k l)
    (λ d. let g = and-true (eqb l.rid r) (eqb l.num k) d in (l, Memᴰ.head refl, yes_eqb g.0, yes_eqb g.1))
    (λ d. let h = claimed-line ls r k (rw d at e) in (h.0, Memᴰ.tail h.1, h.2, h.3))

request-mem : (P : Event → Type 0) (es : List Event) → ((r prog a b : ℕ) → Memᴰ (Request r prog a b) es → P (Request r prog a b)) →
    ((r s v : ℕ) → P (Response r s v)) → All P es
request-mem P [] f g = tt
request-mem P (Request r prog a b ∷ es) f g =
    (f r prog a b (Memᴰ.head refl), request-mem P es (λ r p a b m. f r p a b (Memᴰ.tail m)) g)
request-mem P (Response r s v ∷ es) f g = (g r s v, request-mem P es (λ r p a b m. f r p a b (Memᴰ.tail m)) g)

module _ (b : Batch) where
  -- a node is a line of the report, or an event of the trace
  abbrev pub Source : Node → Type 0
  Source y = ((l : Entry) × Memᴰ l b.log × (ln l ≡ y)) ⊎ ((e : Event) × Memᴰ e b.trace × (ev e ≡ y))

  pub source : (y : Node) → Memᴰ y (nodes b) → Source y
  source y m = ⊎_elim
      (λ i. inl (Memᴰ.of_map ln b.log i))
      (λ i. inr (Memᴰ.of_map ev b.trace i))
      (Memᴰ.append_cases (map ln b.log) m)

  pub in-log : (l : Entry) → Memᴰ l b.log → Memᴰ (ln l) (nodes b)
  in-log l m = Memᴰ.append_left (map ev b.trace) (Memᴰ.map ln m)

  pub in-trace : (e : Event) → Memᴰ e b.trace → Memᴰ (ev e) (nodes b)
  in-trace e m = Memᴰ.append_right (map ln b.log) (Memᴰ.map ev m)

module _ (b : Batch) (f : Formed b) (h : Reported b) where
  abbrev cnt : ℕ → ℕ
  cnt = count_of b.ofs

  -- the item with the number k of request r
  abbrev pub Standing : ℕ → ℕ → Type 0
  Standing r k = (y : Node) × Memᴰ y (nodes b) × (rid y ≡ r) × (num (count_of b.ofs) y ≡ k)

  pub standing : (r : ℕ) → Named b r → (k : ℕ) → k ≤ count_of b.ofs r → Standing r k
  standing r n zero l = subst (λ r. Standing r 0) n.2 (mem-all (λ x. Standing x.rid 0)
      (request-of (λ r. Standing r 0) b.trace b.ofs f.matching (request-mem (OfRequest (λ r. Standing r 0)) b.trace
      (λ r p x y m. (ev (Request r p x y), in-trace b (Request r p x y) m, refl, refl)) (λ r s v. tt))) n.1)
  standing r n (suc k) l =
      let full = mem-all (Full b.log) h.full n.1 in
      let i : suc k ≤ n.0.count = omega (arith, ofs-counted b f n.0 n.1, ap cnt n.2) in
      let q = claimed-line b.log n.0.rid (suc k) (full (suc k) (omega arith) i) in
      (ln q.0, in-log b q.0 q.1, q.2 ∙ n.2, q.3)

  line-counted : (l : Entry) → Memᴰ l b.log → Counted cnt l
  line-counted l m = mem-all (Counted cnt) h.counted m

  down : (x : Node) (k : ℕ) → num cnt x ≡ suc k → Source b x → Standing (rid x) k
  down x k e (inl s) = subst (λ y. Standing (rid y) k) s.2 (line s.0 s.1 (ap (num cnt) s.2 ∙ e))
    where
      line : (l : Entry) → Memᴰ l b.log → l.num ≡ suc k → Standing l.rid k
      line l m e =
          let c = line-counted l m in
          standing l.rid (counted-mem b.ofs l.rid (omega (arith, c.low, c.high))) k (omega (arith, c.high))
  down x k e (inr s) = subst (λ y. Standing (rid y) k) s.2 (event s.0 s.1 (ap (num cnt) s.2 ∙ e))
    where
      event : (g : Event) → Memᴰ g b.trace → num cnt (ev g) ≡ suc k → Standing (rid (ev g)) k
      event (Request r p x y) m e = absurd (omega arith)
      event (Response r s v) m e = standing r (mem-all (λ e. Named b (rid (ev e))) (events-named b f) m) k (omega arith)

  opens : (e : Event) (x : Node) → Source b x → rid (ev e) ≡ rid x → suc (num cnt (ev e)) ≡ num cnt x → num cnt (ev e) ≡ 0
  opens (Request r prog p q) x s i n = refl
  opens (Response r s v) x (inl l) i n =
      let c = line-counted l.0 l.1 in
      absurd (omega (arith, c.high, ap cnt (i ∙ ap rid (sym l.2)), ap (num cnt) l.2))
  opens (Response r s v) x (inr e) i n = event e.0 (i ∙ ap rid (sym e.2)) (n ∙ ap (num cnt) (sym e.2))
    where
      event : (g : Event) → r ≡ rid (ev g) → suc (suc (cnt r)) ≡ num cnt (ev g) → suc (cnt r) ≡ 0
      event (Request r' prog p q) i n = absurd (omega arith)
      event (Response r' s' v') i n = absurd (omega (arith, ap cnt i))

  behind : (e g : Event) → Memᴰ e b.trace → Memᴰ g b.trace → rid (ev e) ≡ rid (ev g) →
      suc (num cnt (ev e)) ≡ num cnt (ev g) → Later b.trace e g
  behind (Request r prog p q) (Request r' prog' p' q') m k i n = absurd (omega arith)
  behind (Request r prog p q) (Response r' s v) m k i n =
      subst (λ z. Memᴰ (Response z s v) b.trace → Later b.trace (Request r prog p q) (Response z s v)) i
      (λ k. answered-later [] b.trace r prog p q s v f.in_order m k) k
  behind (Response r s v) (Request r' prog p q) m k i n = absurd (omega arith)
  behind (Response r s v) (Response r' s' v') m k i n = absurd (omega (arith, ap cnt i))

  -- an item of the trace is an event
  on-trace : (y : Node) → Source b y → lane y ≡ 0 → (e : Event) × Memᴰ e b.trace × (ev e ≡ y)
  on-trace y (inl s) z = absurd (omega (arith, ap lane s.2))
  on-trace y (inr s) z = s

  pub whole : Whole lane rid (num (count_of b.ofs)) (nodes b)
  whole = record {
    once = once cnt b.trace b.log f.in_order h.counted h.unique;
    down = λ x m k e. down x k e (source b x m);
    opens = λ y x my mx z w.
        let s = on-trace y (source b y my) z in
        ap (num cnt) (sym s.2) ∙ opens s.0 x (source b x mx) (ap rid s.2 ∙ w.0) (ap (λ y. suc (num cnt y)) s.2 ∙ w.1);
    behind = λ y x my mx z u w.
        let s = on-trace y (source b y my) z in
        let t = on-trace x (source b x mx) u in
        subst (λ xs. Later xs y x) (sym (nodes-events b)) (subst₂ (Later (map ev b.trace)) s.2 t.2
        (later-map ev b.trace s.0 t.0 (behind s.0 t.0 s.1 t.1
        (ap rid s.2 ∙ w.0 ∙ ap rid (sym t.2))
        (ap (λ y. suc (num cnt y)) s.2 ∙ w.1 ∙ ap (num cnt) (sym t.2)))));
  }
