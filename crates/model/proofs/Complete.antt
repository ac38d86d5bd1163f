-- Completeness: where an order is allowed, rows 7 to 12 do not hold, since along its run each replay meets the same answers.
use mathlib.Core.Bool.{true, false}
use mathlib.Core.List.Memᴰ
use mathlib.Core.List.{List, [], ◌∷◌, map, Memᴰ}
use mathlib.Core.Logic.{◌≢◌, ◌⊎◌, inl, inr}
use mathlib.Core.Option.{Option, none, some}
use mathlib.Core.Path.{◌≡◌, refl, sym, ap, ap₂, subst, subst₂, ◌∙◌}
use Prim.Native.Nat.{ℕ, zero, suc, ◌+◌, ◌≤◌, ◌<◌}
use lib.Dec.{eqb}
use lib.ListN.{length}
use native.Mathlib.Omega.{arith}
use Rattle.basics.specs.Lists.{All}
use Rattle.basics.specs.Maps.{upd}
use Rattle.basics.proofs.Lists.{all-append-left, all-unmap, all-mem}
use Rattle.basics.proofs.Maps.{upd_same, upd-at, upd_other}
use Rattle.basics.proofs.Tests.{clash, by_bool, by_eq, same_or}
use Rattle.text.specs.declared.report.Entry.{Entry}
use Rattle.text.specs.declared.report.Of.{Of}
use Rattle.text.specs.declared.report.Op.{Op}
use Rattle.ordering.proofs.Lanes.{all_lanes}
use Rattle.ordering.proofs.Orders.{order-merge}
use Rattle.model.specs.Allowed.{Allowed}
use Rattle.model.specs.Batch.{Batch, count_of, first_of, claims, claimed, Node, ev, ln}
use Rattle.model.specs.Machine.{Next, op, stop, Machine, applied}
use Rattle.model.specs.Nodes.{lane, rid, num, nodes}
use Rattle.model.specs.PlainRun.{
  Phase,
  absent,
  opened,
  closed,
  State,
  arrived,
  answer_now,
  line_now,
  operated,
  replied,
  operations_of,
  path_of,
}
use Rattle.model.specs.Replay.{
  Reply,
  said,
  response_of,
  ended,
  Answer,
  wrong,
  right,
  Claim,
  unclaimed,
  by,
  claim,
  compare,
  replay,
  request_of,
  replay_from,
  outcome,
}
use Rattle.model.proofs.Ahead.{Ahead, ahead-next}
use Rattle.model.proofs.Claims.{Counted, Full}
use Rattle.model.proofs.Equal.{op_same}
use Rattle.model.proofs.Nodes.{events_in}
use Rattle.model.proofs.Passes.{Along, Passed, Passes}
use Rattle.model.proofs.Placed.{Finished, place, placed-unique, placed-ahead}
use Rattle.model.proofs.Requests.{ofs-counted, ofs-asked}
use Rattle.model.proofs.Runs.{Runs, ends, arrives, replies, operates, persist, grows}
use Rattle.model.proofs.Trace.{Formed}

-- ── numbers within the counts ──
module _ (M : Machine) (cnt : ℕ → ℕ) (t : State M) where
  open M use {start, resume, path_at_end}

  abbrev CountedNode : Node → Type 0
  CountedNode (ev e) = Unit {0}
  CountedNode (ln l) = Counted cnt l

  -- the requests that have come are counted
  abbrev Counting : State M → Type 0
  Counting s = (r : ℕ) → (s.phase r ≡ absent) ⊎ (operations_of M (t.phase r) ≡ cnt r)

  counting-upd : (s s' : State M) (r : ℕ) (f : Phase M) → s'.phase ≡ upd s.phase r f → Counting s →
      operations_of M (t.phase r) ≡ cnt r → Counting s'
  counting-upd s s' r f i k g q = subst (λ h. (h q ≡ absent) ⊎ (operations_of M (t.phase q) ≡ cnt q)) (sym i)
      (same_or (λ q. (upd s.phase r f q ≡ absent) ⊎ (operations_of M (t.phase q) ≡ cnt q)) r q (inr g)
      (λ n _. rw (upd_other s.phase f n) (k q)))

  run-counted : {ys : List Node} {s : State M} → Runs M ys s t → All (Finished M cnt t) ys → Counting s → All CountedNode ys
  run-counted ends f k = tt
  run-counted (arrives {s = s} r prog a b i h) f k =
      (tt, run-counted h f.1 (counting-upd s (arrived M s r prog a b) r (opened (start prog a b) 0) refl k f.0))
  run-counted (replies {s = s} r u v p n i d h) f k =
      (tt, run-counted h f.1 (counting-upd s (replied M s r p n) r (closed (path_at_end p) n) refl k f.0))
  run-counted (operates {s = s} {ys = ys} r p n o i d h) f k = at (k r) (λ c. run-counted h f.1 c)
    where
      at : (s.phase r ≡ absent) ⊎ (operations_of M (t.phase r) ≡ cnt r) → (Counting (operated M s r (suc n) p o) → All CountedNode ys) →
          All CountedNode (ln (line_now M s r (suc n) o) ∷ ys)
      at (inl e) ih = clash (cc)
      at (inr g) ih =
          let next = resume p (answer_now M s o) in
          let c = grows M r next (suc n) h (upd_same s.phase r (opened next (suc n))) in (
            record { low = omega arith; high = omega (arith, g, c) },
            ih (counting-upd s (operated M s r (suc n) p o) r (opened next (suc n)) refl k g),
          )

-- ── the replays of a run ──
module _ (M : Machine) (opening : ℕ → M.Content) (b : Batch) (t : State M) where
  open M use {Process, start, advance, resume, path_at_end}

  abbrev F : ℕ → ℕ → Claim M
  F = claim M b.log opening

  abbrev rep : ℕ → Reply
  rep = response_of b.trace

  -- the replay of request r from the process p, which has done k operations, ends as the run does
  record Replays (r : ℕ) (p : Process) (k : ℕ) : Type 0 where
    pub left : ℕ
    pub sum : k + left ≡ operations_of M (t.phase r)
    pub result : replay M (F r) (rep r) left (suc k) p (advance p) ≡ ended (rep r) (path_of M (t.phase r))

  replay-op : (s : State M) (r k : ℕ) (p : Process) (o : Op) → F r (suc k) ≡ by (line_now M s r (suc k) o) (s.contents o.object) →
      advance p ≡ op o → Replays r (resume p (answer_now M s o)) (suc k) → Replays r p k
  replay-op s r k p o f a x =
      let c : compare M o (F r (suc k)) ≡ right (answer_now M s o) = rw f (rw (op_same (line_now M s r (suc k) o).op)) in
      record { left = suc x.left; sum = omega (arith, x.sum); result = rw (a, replay, c) x.result }

  replay-end : (r : ℕ) (p : Process) (k u v : ℕ) → rep r ≡ said u v → advance p ≡ stop u v → t.phase r ≡ closed (path_at_end p) k →
      Replays r p k
  replay-end r p k u v a z c = record { left = 0; sum = rw c (omega arith); result = rw (c, a, z) }

  replays : {ys : List Node} {s : State M} → Runs M ys s t → Ahead M F s ys → (r : ℕ) (p : Process) (k : ℕ) →
      rep r ≡ response_of (events_in ys) r → s.phase r ≡ opened p k → Replays r p k
  replays ends ah r p k a e = record { left = 0; sum = rw e (omega arith); result = rw (e, a) }
  replays (arrives {s = s} q prog x y f h) ah r p k a e = by_eq q r
      (λ i _. clash (cc))
      (λ i _. replays h ah r p k a (upd_other s.phase (opened (start prog x y) 0) i ∙ e))
  replays (replies {s = s} q u v p' k' f d h) ah r p k a e =
      let next = closed (path_at_end p') k' in
      by_eq q r
      (λ i c.
      let j : p' ≡ p = cc in
      let j' : k' ≡ k = cc in
      let z = persist M r (path_at_end p') k' h (upd-at s.phase next i) ∙ ap₂ (λ p k. closed (path_at_end p) k) j j' in
      replay-end r p k u v (rw c at a) (ap advance (sym j) ∙ d) z)
      (λ i c. replays h ah r p k (rw c at a) (upd_other s.phase next i ∙ e))
  replays (operates {s = s} {ys = ys} q p' k' o f d h) ah r p k a e =
      let after = resume p' (answer_now M s o) in
      let next = opened after (suc k') in
      let nx = ahead-next M F s q k' p' o ys ah in
      by_eq q r
      (λ i _.
      let j : p' ≡ p = cc in
      let j' : k' ≡ k = cc in
      let a' = subst (λ q. rep q ≡ response_of (events_in ys) q) (sym i) a in
      let x = replays h nx.1 q after (suc k') a' (upd_same s.phase q next) in
      subst (λ r. Replays r p k) i (subst₂ (Replays q) j j' (replay-op s q k' p' o nx.0 d x)))
      (λ i _. replays h nx.1 r p k a (upd_other s.phase next i ∙ e))

  -- so does the replay of a request that has not come yet
  abbrev Outcomes : ℕ → Type 0
  Outcomes r = outcome M opening b r ≡ ended (rep r) (path_of M (t.phase r))

  started : (r : ℕ) (p : Process) → request_of M b.trace r ≡ some p → operations_of M (t.phase r) ≡ count_of b.ofs r → Replays r p 0 →
      Outcomes r
  started r p e c x =
      let z : x.left ≡ count_of b.ofs r = omega (arith, x.sum) in
      rw (e, ← z) x.result

  outcomes : {ys : List Node} {s : State M} → Runs M ys s t → Ahead M F s ys → (r : ℕ) (p : Process) → request_of M b.trace r ≡ some p →
      rep r ≡ response_of (events_in ys) r → request_of M b.trace r ≡ request_of M (events_in ys) r →
      operations_of M (t.phase r) ≡ count_of b.ofs r → s.phase r ≡ absent → Outcomes r
  outcomes ends ah r p q a c o e = clash (cc)
  outcomes (arrives {s = s} r' prog x y f h) ah r p q a c o e =
      let next = opened (start prog x y) 0 in
      by_eq r' r
      (λ i d. started r (start prog x y) (rw d at c) o (replays h ah r (start prog x y) 0 a (upd-at s.phase next i)))
      (λ i d. outcomes h ah r p q a (rw d at c) o (upd_other s.phase next i ∙ e))
  outcomes (replies {s = s} r' u v p' k f z h) ah r p q a c o e = by_eq r' r
      (λ i _. clash (cc))
      (λ i d. outcomes h ah r p q (rw d at a) c o (upd_other s.phase (closed (path_at_end p') k) i ∙ e))
  outcomes (operates {s = s} {ys = ys} r' p' k x f z h) ah r p q a c o e = by_eq r' r
      (λ i _. clash (cc))
      (λ i _. outcomes h (ahead-next M F s r' k p' x ys ah).1 r p q a c o
      (upd_other s.phase (opened (resume p' (answer_now M s x)) (suc k)) i ∙ e))

-- ── a replay that ends has a line for each operation ──
module _ (M : Machine) where
  open M use {Process, Content, advance, resume}

  pub claim-none : (ls : List Entry) (c : ℕ → Content) (r k : ℕ) → claimed ls r k ≡ false → claim M ls c r k ≡ unclaimed
  claim-none [] c r k e = refl
  claim-none (l ∷ ls) c r k e = by_bool (claims r k l)
      (λ d. let e' = rw d at e in clash (cc))
      (λ d. rw d (claim-none ls (applied M c l.op) r k (rw d at e)))

  replay-claimed : (f : ℕ → Claim M) (a : Reply) (m k : ℕ) (p : Process) (x : Next) (y : Reply) (w : List ℕ) →
      replay M f a m k p x ≡ ended y w → (j : ℕ) → k ≤ j → j < k + m → f j ≡ unclaimed → ⊥
  replay-claimed f a zero k p x y w e j l b c = omega arith
  replay-claimed f a (suc m) k p (op o) y w e j l b c =
      at (compare M o (f k)) refl (λ q. replay-claimed f a m (suc k) (resume p q) (advance (resume p q)) y w)
    where
      at : (z : Answer) → compare M o (f k) ≡ z →
          ((q : ℕ) → replay M f a m (suc k) (resume p q) (advance (resume p q)) ≡ ended y w →
          (j : ℕ) → suc k ≤ j → j < suc k + m → f j ≡ unclaimed → ⊥) → ⊥
      at wrong d ih = let e' = rw (d, replay) at e in clash (cc)
      at (right q) d ih = by_eq k j
          (λ i _. let y : f k ≡ unclaimed = ap f i ∙ c in let d' = rw y at d in clash (cc))
          (λ i _. ih q (rw (d, replay) at e) j (omega arith) (omega arith) c)
  replay-claimed f a (suc m) k p (stop u' v') y w e j l b c = clash (cc)

  module _ (opening : ℕ → Content) (b : Batch) where
    outcome-claimed : (r : ℕ) (o : Option Process) (y : Reply) (w : List ℕ) → replay_from M opening b r o ≡ ended y w →
        (j : ℕ) → 1 ≤ j → j ≤ count_of b.ofs r → claimed b.log r j ≡ true
    outcome-claimed r none y w e j a c = clash (cc)
    outcome-claimed r (some p) y w e j a c = by_bool (claimed b.log r j)
        (λ d. d)
        (λ d. absurd (replay-claimed (claim M b.log opening r) (response_of b.trace r) (count_of b.ofs r) 1 p (advance p) y w e j a
        (omega arith) (claim-none b.log opening r j d)))

-- ── the first request of a group ──
record First (xs : List Of) (g : ℕ) : Type 0 where
  pub of : Of
  pub mem : Memᴰ of xs
  pub is : of.rid ≡ first_of xs g
  pub group : of.group ≡ g

first : (xs : List Of) (x : Of) → Memᴰ x xs → First xs x.group
first [] x m = absurd (Memᴰ.not-nil m)
first (y ∷ xs) x m = by_eq y.group x.group
    (λ i d. record { of = y; mem = Memᴰ.head refl; is = rw d; group = i })
    (λ i d. at (Memᴰ.cases_cons m) i d (first xs x))
  where
    at : (x ≡ y) ⊎ Memᴰ x xs → y.group ≢ x.group → eqb y.group x.group ≡ false → (Memᴰ x xs → First xs x.group) →
        First (y ∷ xs) x.group
    at (inl e) i d ih = absurd (i (ap (λ z. z.group) (sym e)))
    at (inr m) i d ih = let h = ih m in record { of = h.of; mem = Memᴰ.tail h.mem; is = rw d h.is; group = h.group }

module _ (M : Machine) (opening : ℕ → M.Content) (b : Batch) (f : Formed b) (a : Allowed M opening b) where
  abbrev cnt : ℕ → ℕ
  cnt = count_of b.ofs

  all-counted : All (Counted cnt) b.log
  all-counted =
      let p = place M opening b f a in
      let N = CountedNode M cnt a.final in
      all-unmap N ln b.log (all-append-left N (map ln b.log) (map ev b.trace)
      (all_lanes lane N (nodes b) p.items (λ l. sym (p.placed.lanes l))
      (run-counted M cnt a.final p.runs p.finished (λ r. inl refl))))

  replayed : (x : Of) → Memᴰ x b.ofs →
      outcome M opening b x.rid ≡ ended (response_of b.trace x.rid) (path_of M (a.final.phase x.rid))
  replayed x m =
      let p = place M opening b f a in
      let q = ofs-asked M b f x m in
      outcomes M opening b a.final p.runs (placed-ahead M opening b a p) x.rid q.0 q.1
      (ap (λ es. response_of es x.rid) (sym p.events))
      (ap (λ es. request_of M es x.rid) (sym p.events))
      (a.counts x m ∙ sym (ofs-counted b f x m)) refl

  abbrev EndedBy : ℕ → ℕ → Type 0
  EndedBy r g = outcome M opening b r ≡ ended (response_of b.trace r) (a.group_path g)

  ended-group : (x : Of) → Memᴰ x b.ofs → EndedBy x.rid x.group
  ended-group x m = replayed x m ∙ ap (ended (response_of b.trace x.rid)) (a.paths x m)

  passed : (x : Of) → Memᴰ x b.ofs → Passed M opening b x
  passed x m =
      let l = first b.ofs x m in
      let e = subst₂ EndedBy l.is l.group (ended-group l.of l.mem) in
      record { path = a.group_path x.group; replayed = ended-group x m; grouped = subst (Along (a.group_path x.group)) (sym e) refl }

  full : (x : Of) → Memᴰ x b.ofs → Full b.log x
  full x m k i j = outcome-claimed M opening b x.rid (request_of M b.trace x.rid) (response_of b.trace x.rid)
      (path_of M (a.final.phase x.rid)) (replayed x m) k i (omega (arith, ofs-counted b f x m))

  pub complete : Passes M opening b
  complete =
      let p = place M opening b f a in
      record {
        reported = record {
          counted = all-counted;
          unique = placed-unique M opening b a p;
          full = all-mem (Full b.log) b.ofs full;
        };
        merged = order-merge lane rid (num cnt) (length (nodes b)) (λ r. 0) (nodes b) p.items (omega arith) p.placed;
        replays = all-mem (Passed M opening b) b.ofs passed;
      }
