-- An order of items each of whose requests replays as claimed is a run: acyclicity gives only the order, the replays give everything else.
use mathlib.Core.List.{List, [], ◌∷◌, ◌++◌, map, append-nil}
use mathlib.Core.Option.{some}
use mathlib.Core.Path.{◌≡◌, refl, sym, ap, subst, ◌∙◌}
use Prim.Native.Nat.{ℕ, zero, suc, ◌+◌, ◌≤◌}
use native.Mathlib.Omega.{arith}
use Rattle.basics.specs.Lists.{All}
use Rattle.basics.specs.Maps.{upd}
use Rattle.basics.proofs.Maps.{upd_same, upd_other}
use Rattle.basics.proofs.Tests.{clash, by_bool, by_eq, eqb-self}
use Rattle.text.specs.declared.report.Entry.{Entry}
use Rattle.text.specs.declared.report.Op.{Op}
use Rattle.text.specs.declared.trace.Event.TheVariants.{Request, Response}
use Rattle.ordering.specs.Order.{Numbered}
use Rattle.ordering.specs.Merge.{bump}
use Rattle.model.specs.ByRule.{item_of}
use Rattle.model.specs.Batch.{Node, ev, ln}
use Rattle.ordering.proofs.Numbers.{bump-same, bump-other, reached}
use Rattle.model.specs.Machine.{Next, op, stop, Machine, shown}
use Rattle.model.specs.Nodes.{rid, num}
use Rattle.model.specs.PlainRun.{
  Phase,
  absent,
  opened,
  closed,
  State,
  arrived,
  answer_now,
  line_now,
  operated,
  replied,
  step,
  run,
}
use Rattle.model.specs.Replay.{
  same_op,
  Reply,
  said,
  Outcome,
  ended,
  Answer,
  wrong,
  right,
  Claim,
  by,
  compare,
  finish,
  replay,
}
use Rattle.model.proofs.Ahead.{Ahead, ahead-next}
use Rattle.model.proofs.Equal.{same_op_lem}
use Rattle.model.proofs.Nodes.{lines_of}
use Rattle.model.proofs.Runs.{joined}

-- F: the claims; count, rep, out: each request's count, its response, and the outcome of its replay
module _ (M : Machine) (F : ℕ → ℕ → Claim M) (count : ℕ → ℕ) (rep : ℕ → Reply) (out : ℕ → Outcome) where
  open M use {Process, Content, start, advance, resume, path_at_end, apply}

  -- the replay of request r goes on from p, with n operations to do, the next of them number k
  abbrev pub Replaying : (r n k : ℕ) → Process → Type 0
  Replaying r n k p = replay M (F r) (rep r) n k p (advance p) ≡ out r

  -- the phase of request r, with `stage` of its items done
  abbrev pub Fits : ℕ → ℕ → Phase M → Type 0
  Fits r stage absent = stage ≡ 0
  Fits r stage (opened p k) = (stage ≡ suc k) × ((n : ℕ) × (k + n ≡ count r) × Replaying r n (suc k) p)
  Fits r stage (closed w n) = (stage ≡ suc (suc n)) × (n ≡ count r) × ((a : Reply) × (out r ≡ ended a w))

  -- what the replays give of an item
  abbrev pub Replayed : Node → Type 0
  Replayed (ev (Request r prog a b)) = Replaying r (count r) 1 (start prog a b)
  Replayed (ev (Response r s v)) = (w : List ℕ) × (rep r ≡ said s v) × (out r ≡ ended (said s v) w)
  Replayed (ln l) = (1 ≤ l.num) × (l.num ≤ count l.rid) × ((a : Reply) × (w : List ℕ) × (out l.rid ≡ ended a w))

  pub record Invariant (stage : ℕ → ℕ) (s : State M) (ys : List Node) : Type 0 where
    pub phases : (r : ℕ) → Fits r (stage r) (s.phase r)
    pub ahead : Ahead M F s ys

  -- the run of the items
  pub record Carried (stage : ℕ → ℕ) (s : State M) (ys : List Node) : Type 0 where
    pub final : State M
    pub runs : run M (map item_of ys) s ≡ some final
    pub phases : (r : ℕ) → Fits r (reached rid stage ys r) (final.phase r)
    pub logs : (o : ℕ) → final.logs o ≡ s.logs o ++ lines_of o ys

  abbrev pub Simulated : List Node → Type 0
  Simulated ys = (stage : ℕ → ℕ) (s : State M) → Numbered rid (num count) stage ys → All Replayed ys → Invariant stage s ys →
      Carried stage s ys

  fits-upd : (stage : ℕ → ℕ) (phase : ℕ → Phase M) (r : ℕ) (f : Phase M) → ((q : ℕ) → Fits q (stage q) (phase q)) →
      Fits r (suc (stage r)) f → (q : ℕ) → Fits q (bump stage r q) (upd phase r f q)
  fits-upd stage phase r f h g q = by_eq r q
      (λ p _. subst (λ q. Fits q (bump stage r q) (upd phase r f q)) p (rw (bump-same stage r r refl, upd_same phase r f) g))
      (λ n _. rw (bump-other stage r q n, upd_other phase f n) (h q))

  -- one item more
  extend : (y : Node) (ys : List Node) (stage : ℕ → ℕ) (s t : State M) → step M s (item_of y) ≡ some t → Carried (bump stage (rid y)) t ys →
      ((o : ℕ) → t.logs o ++ lines_of o ys ≡ s.logs o ++ lines_of o (y ∷ ys)) → Carried stage s (y ∷ ys)
  extend y ys stage s t e g h = record { final = g.final; runs = rw e g.runs; phases = g.phases; logs = λ o. g.logs o ∙ h o }

  -- ── a replay that ended, read back ──
  -- with no operation left it stopped with its reply
  stopped : {a : Reply} {t v : ℕ} {w : List ℕ} (f : ℕ → Claim M) (n k : ℕ) (p : Process) (x : Next) → n ≡ 0 → a ≡ said t v →
      replay M f a n k p x ≡ ended (said t v) w → (x ≡ stop t v) × (path_at_end p ≡ w)
  stopped {a} {t} {v} {w} f (suc n) k p x z q e = absurd (omega arith)
  stopped {a} {t} {v} {w} f zero k p x z q e = at x (rw q at e)
    where
      at : (x : Next) → finish M (said t v) p x ≡ ended (said t v) w → (x ≡ stop t v) × (path_at_end p ≡ w)
      at (op o) e = clash (cc)
      at (stop t' v') e = (cc, cc)

  -- with an operation left it did the one that is claimed
  record Does (f : ℕ → Claim M) (b : Reply) (n k : ℕ) (p : Process) (x : Next) (d : Outcome) : Type 0 where
    pub operation : Op
    pub answer : ℕ
    pub next : x ≡ op operation
    pub compared : compare M operation (f k) ≡ right answer
    pub then : replay M f b n (suc k) (resume p answer) (advance (resume p answer)) ≡ d

  does-next : {a : Reply} {w : List ℕ} (f : ℕ → Claim M) (b : Reply) (n k : ℕ) (p : Process) (x : Next) →
      replay M f b (suc n) k p x ≡ ended a w → Does f b n k p x (ended a w)
  does-next {a} {w} f b n k p (op o) e = at (compare M o (f k)) refl
    where
      at : (z : Answer) → compare M o (f k) ≡ z → Does f b n k p (op o) (ended a w)
      at wrong c = let e' = rw (c, replay) at e in clash (cc)
      at (right v) c = record { operation = o; answer = v; next = refl; compared = c; then = rw (c, replay) at e }
  does-next f b n k p (stop t' v') e = clash (cc)

  compared-right : (o : Op) (l : Entry) (c : Content) (a : ℕ) → compare M o (by l c) ≡ right a →
      (a ≡ (apply o c).0) × (l.op ≡ shown M o (apply o c).0)
  compared-right o l c a e = by_bool (same_op l.op (shown M o (apply o c).0))
      (λ t. let e' = rw t at e in (cc, same_op_lem l.op (shown M o (apply o c).0) t))
      (λ t. let e' = rw t at e in clash (cc))

  -- ── one item of each sort ──
  sim-request : (r prog a b : ℕ) (ys : List Node) → Simulated ys → Simulated (ev (Request r prog a b) ∷ ys)
  sim-request r prog a b ys ih stage s nu go inv = at (s.phase r) (inv.phases r)
    where
      at : (f : Phase M) → Fits r (stage r) f → Carried stage s (ev (Request r prog a b) ∷ ys)
      at absent h =
          extend (ev (Request r prog a b)) ys stage s (arrived M s r prog a b) refl
          (ih (bump stage r) (arrived M s r prog a b) nu.1 go.1 (record {
            phases = fits-upd stage s.phase r (opened (start prog a b) 0) inv.phases (ap suc h, (count r, omega arith, go.0));
            ahead = inv.ahead;
          }))
          (λ o. refl)
      at (opened p k) h = absurd (omega (arith, nu.0, h.0))
      at (closed w n) h = absurd (omega (arith, nu.0, h.0))

  sim-response : (r t v : ℕ) (ys : List Node) → Simulated ys → Simulated (ev (Response r t v) ∷ ys)
  sim-response r t v ys ih stage s nu go inv = at (s.phase r) refl (inv.phases r)
    where
      at : (f : Phase M) → s.phase r ≡ f → Fits r (stage r) f → Carried stage s (ev (Response r t v) ∷ ys)
      at absent e h = absurd (omega (arith, nu.0))
      at (opened p k) e h =
          let none_left : h.1.0 ≡ 0 = omega (arith, nu.0, h.0, h.1.1) in
          let d = stopped (F r) h.1.0 (suc k) p (advance p) none_left go.0.1 (h.1.2 ∙ go.0.2) in
          extend (ev (Response r t v)) ys stage s (replied M s r p k) (rw (e, d.0, eqb-self t, eqb-self v))
          (ih (bump stage r) (replied M s r p k) nu.1 go.1 (record {
            phases = fits-upd stage s.phase r (closed (path_at_end p) k) inv.phases
                (ap suc h.0, omega (arith, nu.0, h.0), (said t v, rw d.1 go.0.2));
            ahead = inv.ahead;
          }))
          (λ o. refl)
      at (closed w n) e h = absurd (omega (arith, nu.0, h.0, h.1))

  -- the line of the operation that the process does next
  sim-did : (r k : ℕ) (o : Op) (p : Process) (ys : List Node) → Simulated ys → (stage : ℕ → ℕ) (s : State M) →
      s.phase r ≡ opened p k → advance p ≡ op o → Numbered rid (num count) stage (ln (line_now M s r (suc k) o) ∷ ys) → All Replayed ys →
      Invariant stage s (ln (line_now M s r (suc k) o) ∷ ys) → Fits r (suc (stage r)) (opened (resume p (answer_now M s o)) (suc k)) →
      Carried stage s (ln (line_now M s r (suc k) o) ∷ ys)
  sim-did r k o p ys ih stage s e ad nu go inv fit =
      let l = line_now M s r (suc k) o in
      extend (ln l) ys stage s (operated M s r (suc k) p o) (rw (e, ad, eqb-self (suc k)))
      (ih (bump stage r) (operated M s r (suc k) p o) nu.1 go (record {
        phases = fits-upd stage s.phase r (opened (resume p (answer_now M s o)) (suc k)) inv.phases fit;
        ahead = (ahead-next M F s r k p o ys inv.ahead).1;
      }))
      (joined M s ys r (suc k) p o)

  sim-op : (l : Entry) (ys : List Node) → Simulated ys → (stage : ℕ → ℕ) (s : State M) → Numbered rid (num count) stage (ln l ∷ ys) →
      All Replayed ys → Invariant stage s (ln l ∷ ys) → (p : Process) (k n : ℕ) → s.phase l.rid ≡ opened p k → l.num ≡ suc k →
      k + suc n ≡ count l.rid → Does (F l.rid) (rep l.rid) n (suc k) p (advance p) (out l.rid) → Carried stage s (ln l ∷ ys)
  sim-op l ys ih stage s nu go inv p k n e m c w =
      let r = l.rid in
      let o = w.operation in
      let here = s.contents l.op.object in
      let f : F r l.num ≡ by l here = (rw (eqb-self l.op.object) at (inv.ahead l.op.object)).0 in
      let g = ap (F r) (sym m) ∙ f in
      let x : compare M o (by l here) ≡ right w.answer = subst (λ c. compare M o c ≡ right w.answer) g w.compared in
      let y = compared-right o l here w.answer x in
      let j : l.op.object ≡ o.object = ap (λ o. o.object) y.1 in
      let z : l.op ≡ shown M o (answer_now M s o) = y.1 ∙ ap (λ i. shown M o (apply o (s.contents i)).0) j in
      let a : w.answer ≡ answer_now M s o = y.0 ∙ ap (λ i. (apply o (s.contents i)).0) j in
      let q : l ≡ line_now M s r (suc k) o = λ i. record { rid = l.rid; num = m i; op = z i } in
      subst (λ l'. Carried stage s (ln l' ∷ ys)) (sym q) (sim-did r k o p ys ih stage s e w.next
      (subst (λ l'. Numbered rid (num count) stage (ln l' ∷ ys)) q nu)
      go
      (subst (λ l'. Invariant stage s (ln l' ∷ ys)) q inv)
      (ap suc (sym nu.0 ∙ m), (n, omega arith, subst (λ v. Replaying r n (suc (suc k)) (resume p v)) a w.then)))

  sim-line : (l : Entry) (ys : List Node) → Simulated ys → Simulated (ln l ∷ ys)
  sim-line l ys ih stage s nu go inv = at (s.phase l.rid) refl (inv.phases l.rid)
    where
      at : (f : Phase M) → s.phase l.rid ≡ f → Fits l.rid (stage l.rid) f → Carried stage s (ln l ∷ ys)
      at absent e h = absurd (omega (arith, nu.0, go.0.0))
      at (opened p k) e h = left h.1.0 (omega (arith, nu.0, h.0, h.1.1, go.0.1)) h.1.1 h.1.2
        where
          left : (n : ℕ) → 1 ≤ n → k + n ≡ count l.rid → Replaying l.rid n (suc k) p → Carried stage s (ln l ∷ ys)
          left zero b c d = absurd (omega arith)
          left (suc n) b c d =
              let x = does-next (F l.rid) (rep l.rid) n (suc k) p (advance p) (d ∙ go.0.2.2) in
              sim-op l ys ih stage s nu go.1 inv p k n e (nu.0 ∙ h.0) c
              (subst (Does (F l.rid) (rep l.rid) n (suc k) p (advance p)) (sym go.0.2.2) x)
      at (closed w n) e h = absurd (omega (arith, nu.0, h.0, h.1, go.0.1))

  pub simulate : (ys : List Node) → Simulated ys
  simulate [] = λ stage s nu go inv. record { final = s; runs = refl; phases = inv.phases; logs = λ o. sym (append-nil (s.logs o)) }
  simulate (ev (Request r prog a b) ∷ ys) = sim-request r prog a b ys (simulate ys)
  simulate (ev (Response r t v) ∷ ys) = sim-response r t v ys (simulate ys)
  simulate (ln l ∷ ys) = sim-line l ys (simulate ys)
