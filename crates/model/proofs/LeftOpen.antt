-- Whatever order is allowed, its run leaves a request that was never answered open, behind the operations that its `of` line counts.
use mathlib.Core.Bool.{false}
use mathlib.Core.List.{List, Memᴰ}
use mathlib.Core.Option.{some}
use mathlib.Core.Path.{◌≡◌, refl, sym, ap, subst, ◌∙◌}
use Prim.Native.Nat.{ℕ, suc}
use Rattle.basics.proofs.Maps.{upd-at, upd_other}
use Rattle.basics.proofs.Tests.{clash, by_eq}
use Rattle.text.specs.declared.report.Of.{Of}
use Rattle.model.specs.Allowed.{Allowed}
use Rattle.model.specs.Batch.{Batch, Node, answered}
use Rattle.model.specs.Machine.{Machine}
use Rattle.model.specs.PlainRun.{Phase, absent, opened, closed, State, answer_now, operations_of}
use Rattle.model.specs.Replay.{request_of}
use Rattle.model.proofs.Nodes.{events_in}
use Rattle.model.proofs.Placed.{place}
use Rattle.model.proofs.Requests.{ofs-asked}
use Rattle.model.proofs.Runs.{Runs, ends, arrives, replies, operates}
use Rattle.model.proofs.Trace.{Formed}

module _ (M : Machine) where
  open M use {Process, start, resume, path_at_end}

  abbrev Open : Phase M → Type 0
  Open f = (p : Process) × (k : ℕ) × (f ≡ opened p k)

  -- a request that is open stays so
  stays : {ys : List Node} {s t : State M} (r : ℕ) → Runs M ys s t → answered r (events_in ys) ≡ false → Open (s.phase r) → Open (t.phase r)
  stays r ends a e = e
  stays r (arrives {s = s} q prog x y f h) a e = by_eq q r
      (λ i _. let d = e.2 in clash (cc))
      (λ i _. stays r h a (subst Open (sym (upd_other s.phase (opened (start prog x y) 0) i)) e))
  stays r (replies {s = s} q u v p k f d h) a e = by_eq q r
      (λ i c. let a' = rw c at a in clash (cc))
      (λ i c. stays r h (rw c at a) (subst Open (sym (upd_other s.phase (closed (path_at_end p) k) i)) e))
  stays r (operates {s = s} q p k o f d h) a e =
      let next = resume p (answer_now M s o) in
      by_eq q r
      (λ i _. stays r h a (next, suc k, upd-at s.phase (opened next (suc k)) i))
      (λ i _. stays r h a (subst Open (sym (upd_other s.phase (opened next (suc k)) i)) e))

  -- and so does one that has not come yet
  comes : {ys : List Node} {s t : State M} (r : ℕ) (p : Process) → Runs M ys s t → answered r (events_in ys) ≡ false →
      request_of M (events_in ys) r ≡ some p → s.phase r ≡ absent → Open (t.phase r)
  comes r p ends a c e = clash (cc)
  comes r p (arrives {s = s} q prog x y f h) a c e =
      let next = opened (start prog x y) 0 in
      by_eq q r
      (λ i _. stays r h a (start prog x y, 0, upd-at s.phase next i))
      (λ i d. comes r p h a (rw d at c) (upd_other s.phase next i ∙ e))
  comes r p (replies {s = s} q u v p' k f d h) a c e = by_eq q r
      (λ i _. clash (cc))
      (λ i d. comes r p h (rw d at a) c (upd_other s.phase (closed (path_at_end p') k) i ∙ e))
  comes r p (operates {s = s} q p' k o f d h) a c e = by_eq q r
      (λ i _. clash (cc))
      (λ i _. comes r p h a c (upd_other s.phase (opened (resume p' (answer_now M s o)) (suc k)) i ∙ e))

  pub stops-open : (opening : ℕ → M.Content) (b : Batch) → Formed b → (a : Allowed M opening b) (x : Of) → Memᴰ x b.ofs →
      answered x.rid b.trace ≡ false → (p : Process) × (a.final.phase x.rid ≡ opened p x.count)
  stops-open opening b f a x m n =
      let p = place M opening b f a in
      let q = ofs-asked M b f x m in
      let o = comes x.rid q.0 p.runs (subst (λ es. answered x.rid es ≡ false) (sym p.events) n)
      (ap (λ es. request_of M es x.rid) p.events ∙ q.1) refl in
      let k : o.1 ≡ x.count = sym (ap (operations_of M) o.2) ∙ a.counts x m in
      (o.0, o.2 ∙ ap (opened o.0) k)
