-- The plain run as a relation, with the log line of each operation in place of its number; and what it does to logs and phases.
use mathlib.Core.Bool.{true, false, ◌&&◌}
use mathlib.Core.List.{List, [], ◌∷◌, ◌++◌, map, append-nil, append_assoc}
use mathlib.Core.Option.{some}
use mathlib.Core.Path.{◌≡◌, refl, sym, ap, ap₂, subst, ◌∙◌}
use Prim.Native.Nat.{ℕ, suc, ◌≤◌}
use lib.Dec.{eqb}
use native.Mathlib.Omega.{arith}
use Rattle.basics.specs.Maps.{upd}
use Rattle.basics.proofs.Maps.{upd_same, upd-at, upd_other}
use Rattle.basics.proofs.Tests.{clash, by_bool, by_eq, same_or, and-true, yes_eqb, eqb-self}
use Rattle.text.specs.declared.report.Op.{Op}
use Rattle.text.specs.declared.trace.Event.TheVariants.{Request, Response}
use Rattle.text.specs.declared.trace.Event.{Event}
use Rattle.model.specs.Allowed.{events_of}
use Rattle.model.specs.Batch.{requested, Node, ev, ln}
use Rattle.model.specs.Machine.{Next, op, stop, Machine}
use Rattle.model.specs.ByRule.{item_of}
use Rattle.model.specs.PlainRun.{
  Item,
  event,
  operation,
  Phase,
  absent,
  opened,
  closed,
  State,
  arrived,
  answer_now,
  line_now,
  operated,
  replied,
  run,
  operations_of,
}
use Rattle.model.proofs.Nodes.{lines_of}
use Rattle.model.proofs.Trace.{InOrder}

module _ (M : Machine) where
  open M use {Process, start, advance, resume, path_at_end}

  pub data Runs : List Node → State M → State M → Type 0 where
    ends : {s : State M} → Runs [] s s
    arrives : {s t : State M} {ys : List Node} (r prog a b : ℕ) → s.phase r ≡ absent → Runs ys (arrived M s r prog a b) t →
        Runs (ev (Request r prog a b) ∷ ys) s t
    replies : {s t : State M} {ys : List Node} (r u v : ℕ) (p : Process) (k : ℕ) → s.phase r ≡ opened p k → advance p ≡ stop u v →
        Runs ys (replied M s r p k) t → Runs (ev (Response r u v) ∷ ys) s t
    operates : {s t : State M} {ys : List Node} (r : ℕ) (p : Process) (k : ℕ) (o : Op) → s.phase r ≡ opened p k → advance p ≡ op o →
        Runs ys (operated M s r (suc k) p o) t → Runs (ln (line_now M s r (suc k) o) ∷ ys) s t

  -- ── a run that does not fail, of a trace that keeps row 4 ──
  pub record Ran (xs : List Item) (s t : State M) : Type 0 where
    pub nodes : List Node
    pub items : map item_of nodes ≡ xs
    pub runs : Runs nodes s t

  -- a request that was not requested yet is absent
  abbrev Fresh : List Event → State M → Type 0
  Fresh past s = (r : ℕ) → requested r past ≡ false → s.phase r ≡ absent

  -- a change of a request that was requested
  fresh-upd : (past : List Event) (s t : State M) (r : ℕ) (f : Phase M) → t.phase ≡ upd s.phase r f → Fresh past s →
      requested r past ≡ true → Fresh past t
  fresh-upd past s t r f i h a q e = ap (λ g. g q) i ∙ by_eq r q (λ i _. clash (cc)) (λ i _. upd_other s.phase f i ∙ h q e)

  fresh-arrived : (past : List Event) (s : State M) (r prog a b : ℕ) → Fresh past s →
      Fresh (Request r prog a b ∷ past) (arrived M s r prog a b)
  fresh-arrived past s r prog a b h q d = by_eq r q
      (λ i c. let d' = rw c at d in clash (cc))
      (λ i c. upd_other s.phase (opened (start prog a b) 0) i ∙ h q (rw c at d))

  opened-requested : (past : List Event) (s : State M) (r : ℕ) (p : Process) (k : ℕ) → Fresh past s → s.phase r ≡ opened p k →
      requested r past ≡ true
  opened-requested past s r p k h e = by_bool (requested r past) (λ d. d) (λ d. let g = h r d in clash (cc))

  ran-operation : (xs : List Item) (s t : State M) (r k n : ℕ) (p : Process) (o : Op) → k ≡ suc n → s.phase r ≡ opened p n →
      advance p ≡ op o → Ran xs (operated M s r (suc n) p o) t → Ran (operation r k ∷ xs) s t
  ran-operation xs s t r k n p o i d c h = record {
    nodes = ln (line_now M s r (suc n) o) ∷ h.nodes;
    items = ap₂ (λ k t. operation r k ∷ t) (sym i) h.items;
    runs = operates r p n o d c h.runs;
  }

  pub ran : (xs : List Item) (past : List Event) (s t : State M) → InOrder past (events_of xs) → Fresh past s → run M xs s ≡ some t →
      Ran xs s t
  ran [] past s t o fr e = let i : s ≡ t = cc in record { nodes = []; items = refl; runs = subst (Runs [] s) i ends }
  ran (event (Request r prog a b) ∷ xs) past s t o fr e =
      let h = ran xs (Request r prog a b ∷ past) (arrived M s r prog a b) t o.1 (fresh-arrived past s r prog a b fr) e in
      record {
        nodes = ev (Request r prog a b) ∷ h.nodes;
        items = ap (λ t. event (Request r prog a b) ∷ t) h.items;
        runs = arrives r prog a b (fr r o.0) h.runs;
      }
  ran (event (Response r u v) ∷ xs) past s t o fr e = at (s.phase r) refl (λ z. ran xs (Response r u v ∷ past) z t o.2)
    where
      at : (f : Phase M) → s.phase r ≡ f → ((z : State M) → Fresh past z → run M xs z ≡ some t → Ran xs z t) →
          Ran (event (Response r u v) ∷ xs) s t
      at absent d ih = let e' = rw d at e in clash (cc)
      at (opened p k) d ih = stops (advance p) refl
        where
          stops : (x : Next) → advance p ≡ x → Ran (event (Response r u v) ∷ xs) s t
          stops (op o) c = let e' = rw (d, c) at e in clash (cc)
          stops (stop u' v') c = by_bool (eqb u u' && eqb v v')
              (λ y.
              let q = and-true (eqb u u') (eqb v v') y in
              let i : u ≡ u' = yes_eqb q.0 in
              let i' : v ≡ v' = yes_eqb q.1 in
              let fresh = fresh-upd past s (replied M s r p k) r (closed (path_at_end p) k) refl fr o.0 in
              let h = ih (replied M s r p k) fresh (rw (d, c, y) at e) in
              record {
                nodes = ev (Response r u v) ∷ h.nodes;
                items = ap (λ t. event (Response r u v) ∷ t) h.items;
                runs = replies r u v p k d (cc) h.runs;
              })
              (λ y. let e' = rw (d, c, y) at e in clash (cc))
      at (closed w n) d ih = let e' = rw d at e in clash (cc)
  ran (operation r k ∷ xs) past s t o fr e = at (s.phase r) refl (λ z. ran xs past z t o)
    where
      at : (f : Phase M) → s.phase r ≡ f → ((z : State M) → Fresh past z → run M xs z ≡ some t → Ran xs z t) → Ran (operation r k ∷ xs) s t
      at absent d ih = let e' = rw d at e in clash (cc)
      at (opened p n) d ih = does (advance p) refl
        where
          does : (x : Next) → advance p ≡ x → Ran (operation r k ∷ xs) s t
          does (op o) c = by_eq k (suc n)
              (λ i g.
              let s' = operated M s r (suc n) p o in
              let asked = opened-requested past s r p n fr d in
              let fresh = fresh-upd past s s' r (opened (resume p (answer_now M s o)) (suc n)) refl fr asked in
              let h = ih s' fresh (subst (λ k. run M xs (operated M s r k p o) ≡ some t) i (rw (d, c, g) at e)) in
              ran-operation xs s t r k n p o i d c h)
              (λ i g. let e' = rw (d, c, g) at e in clash (cc))
          does (stop u v) c = let e' = rw (d, c) at e in clash (cc)
      at (closed w n) d ih = let e' = rw d at e in clash (cc)

  -- ── logs ──
  -- an operation's line joins the end of its object's log
  pub joined : (s : State M) (ys : List Node) (r k : ℕ) (p : Process) (o : Op) (q : ℕ) →
      (operated M s r k p o).logs q ++ lines_of q ys ≡ s.logs q ++ lines_of q (ln (line_now M s r k o) ∷ ys)
  joined s ys r k p o q =
      let line = line_now M s r k o in
      let longer = s.logs o.object ++ (line ∷ []) in
      same_or (λ q. upd s.logs o.object longer q ++ lines_of q ys ≡ s.logs q ++ lines_of q (ln line ∷ ys)) o.object q
      (rw (upd_same s.logs o.object longer, eqb-self o.object)
      (append_assoc (s.logs o.object) (line ∷ []) (lines_of o.object ys)))
      (λ i d. rw (upd_other s.logs longer i, d))

  pub runs-logs : {ys : List Node} {s t : State M} → Runs ys s t → (q : ℕ) → t.logs q ≡ s.logs q ++ lines_of q ys
  runs-logs (ends {s = s}) q = sym (append-nil (s.logs q))
  runs-logs (arrives r prog a b f h) q = runs-logs h q
  runs-logs (replies r u v p k f d h) q = runs-logs h q
  runs-logs (operates {s = s} {ys = ys} r p k o f d h) q = runs-logs h q ∙ joined s ys r (suc k) p o q

  -- ── phases ──
  -- a closed request stays as it is
  pub persist : {ys : List Node} {s t : State M} (r : ℕ) (w : List ℕ) (n : ℕ) → Runs ys s t → s.phase r ≡ closed w n →
      t.phase r ≡ closed w n
  persist r w n ends e = e
  persist r w n (arrives {s = s} q prog a b f h) e = by_eq q r
      (λ i _. clash (cc))
      (λ i _. persist r w n h (upd_other s.phase (opened (start prog a b) 0) i ∙ e))
  persist r w n (replies {s = s} q u v p k f d h) e = by_eq q r
      (λ i _. clash (cc))
      (λ i _. persist r w n h (upd_other s.phase (closed (path_at_end p) k) i ∙ e))
  persist r w n (operates {s = s} q p k o f d h) e = by_eq q r
      (λ i _. clash (cc))
      (λ i _. persist r w n h (upd_other s.phase (opened (resume p (answer_now M s o)) (suc k)) i ∙ e))

  -- the operations of an open request do not become fewer
  pub grows : {ys : List Node} {s t : State M} (r : ℕ) (p : Process) (k : ℕ) → Runs ys s t → s.phase r ≡ opened p k →
      k ≤ operations_of M (t.phase r)
  grows r p k ends e = omega (arith, ap (operations_of M) e)
  grows r p k (arrives {s = s} q prog a b f h) e = by_eq q r
      (λ i _. clash (cc))
      (λ i _. grows r p k h (upd_other s.phase (opened (start prog a b) 0) i ∙ e))
  grows r p k (replies {s = s} q u v p' k' f d h) e = by_eq q r
      (λ i _.
      let j : k' ≡ k = cc in
      omega (arith, j, ap (operations_of M) (persist r (path_at_end p') k' h (upd-at s.phase (closed (path_at_end p') k') i))))
      (λ i _. grows r p k h (upd_other s.phase (closed (path_at_end p') k') i ∙ e))
  grows r p k (operates {s = s} q p' k' o f d h) e =
      let next = resume p' (answer_now M s o) in
      by_eq q r
      (λ i _.
      let j : k' ≡ k = cc in
      omega (arith, j, grows r next (suc k') h (upd-at s.phase (opened next (suc k')) i)))
      (λ i _. grows r p k h (upd_other s.phase (opened next (suc k')) i ∙ e))
