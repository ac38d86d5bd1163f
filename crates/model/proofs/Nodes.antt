-- The lanes of a batch's items: the trace and the objects' logs.
use mathlib.Core.Bool.{cond}
use mathlib.Core.List.{List, [], ◌∷◌, ◌++◌, map}
use mathlib.Core.Path.{◌≡◌, refl, sym, ap, ◌∙◌}
use Prim.Native.Nat.{ℕ, zero, suc}
use lib.Dec.{eqb, eqb-suc-suc, eqb-suc-zero, eqb-zero-suc}
use Rattle.basics.proofs.Tests.{by_bool}
use Rattle.text.specs.declared.report.Entry.{Entry}
use Rattle.text.specs.declared.trace.Event.{Event}
use Rattle.ordering.specs.Order.{on_lane}
use Rattle.model.specs.Allowed.{events_of}
use Rattle.model.specs.Batch.{Batch, log_of, Node, ev, ln}
use Rattle.model.specs.Nodes.{lane, nodes}
use Rattle.model.specs.ByRule.{item_of}

-- the events of an order, and the lines of one object
abbrev pub events_in : List Node → List Event
events_in ys = events_of (map item_of ys)

abbrev pub lines_of : ℕ → List Node → List Entry
lines_of o [] = []
lines_of o (ev e ∷ ys) = lines_of o ys
lines_of o (ln l ∷ ys) = cond (eqb l.op.object o) (l ∷ lines_of o ys) (lines_of o ys)

lane-events : (ys : List Node) → on_lane lane 0 ys ≡ map ev (events_in ys)
lane-events [] = refl
lane-events (ev e ∷ ys) = ap (λ t. ev e ∷ t) (lane-events ys)
lane-events (ln l ∷ ys) = rw (eqb-suc-zero l.op.object) (lane-events ys)

lane-lines : (o : ℕ) (ys : List Node) → on_lane lane (suc o) ys ≡ map ln (lines_of o ys)
lane-lines o [] = refl
lane-lines o (ev e ∷ ys) = rw (eqb-zero-suc o) (lane-lines o ys)
lane-lines o (ln l ∷ ys) = rw (eqb-suc-suc l.op.object o) (by_bool (eqb l.op.object o)
    (λ e. rw e (ap (λ t. ln l ∷ t) (lane-lines o ys)))
    (λ e. rw e (lane-lines o ys)))

events-nodes : (log : List Entry) (trace : List Event) → events_in (map ln log ++ map ev trace) ≡ trace
events-nodes [] [] = refl
events-nodes [] (e ∷ es) = ap (λ t. e ∷ t) (events-nodes [] es)
events-nodes (l ∷ ls) es = events-nodes ls es

lines-nodes : (o : ℕ) (log : List Entry) (trace : List Event) → lines_of o (map ln log ++ map ev trace) ≡ log_of o log
lines-nodes o [] [] = refl
lines-nodes o [] (e ∷ es) = lines-nodes o [] es
lines-nodes o (l ∷ ls) es = by_bool (eqb l.op.object o)
    (λ e. rw e (ap (λ t. l ∷ t) (lines-nodes o ls es)))
    (λ e. rw e (lines-nodes o ls es))

pub nodes-events : (b : Batch) → on_lane lane 0 (nodes b) ≡ map ev b.trace
nodes-events b = lane-events (nodes b) ∙ ap (map ev) (events-nodes b.log b.trace)

pub nodes-lines : (b : Batch) (o : ℕ) → on_lane lane (suc o) (nodes b) ≡ map ln (log_of o b.log)
nodes-lines b o = lane-lines o (nodes b) ∙ ap (map ln) (lines-nodes o b.log b.trace)

-- ── an order has the batch's lanes exactly when it has its trace and its logs ──
abbrev lines_in : List Node → List Entry
lines_in [] = []
lines_in (ev e ∷ ys) = lines_in ys
lines_in (ln l ∷ ys) = l ∷ lines_in ys

lines-map : (ls : List Entry) → lines_in (map ln ls) ≡ ls
lines-map [] = refl
lines-map (l ∷ ls) = ap (λ t. l ∷ t) (lines-map ls)

module _ (b : Batch) (order : List Node) where
  abbrev pub SameLanes : Type 0
  SameLanes = (l : ℕ) → on_lane lane l order ≡ on_lane lane l (nodes b)

  pub order-events : SameLanes → events_in order ≡ b.trace
  order-events h =
      sym (events-nodes [] (events_in order)) ∙ ap events_in (sym (lane-events order) ∙ h 0 ∙ nodes-events b) ∙ events-nodes [] b.trace

  pub order-lines : SameLanes → (o : ℕ) → lines_of o order ≡ log_of o b.log
  order-lines h o =
      sym (lines-map (lines_of o order)) ∙ ap lines_in (sym (lane-lines o order) ∙ h (suc o) ∙ nodes-lines b o) ∙ lines-map (log_of o b.log)

  pub same-lanes : events_in order ≡ b.trace → ((o : ℕ) → lines_of o order ≡ log_of o b.log) → SameLanes
  same-lanes e h zero = lane-events order ∙ ap (map ev) e ∙ sym (nodes-events b)
  same-lanes e h (suc o) = lane-lines o order ∙ ap (map ln) (h o) ∙ sym (nodes-lines b o)
