-- The orders of a batch that the audit accepts: the allowed ones are the orders of its items, all of them answer and end alike, with the
-- same requests left open, and one of them is the merge's.
use mathlib.Core.Bool.{Bool, false}
use mathlib.Core.List.{List, map, Memᴰ}
use mathlib.Core.Logic.{◌↔◌}
use mathlib.Core.Path.{◌≡◌, sym, subst, ◌∙◌}
use Prim.Native.Nat.{ℕ}
use Rattle.text.specs.declared.report.Of.{Of}
use Rattle.ordering.specs.FirstFree.{Greedy}
use Rattle.model.specs.Allowed.{Allowed}
use Rattle.model.specs.Answers.{written, answer_of, logged_answer}
use Rattle.model.specs.Audit.{audit}
use Rattle.model.specs.Batch.{Batch, log_of, answered, Node}
use Rattle.model.specs.ByRule.{item_of, ByRule}
use Rattle.model.specs.Checks.{verdict}
use Rattle.model.specs.Machine.{Machine}
use Rattle.model.specs.Nodes.{nodes, merge_of}
use Rattle.model.specs.Orders.{OrderOf}
use Rattle.model.specs.PlainRun.{Item, opened, initial}
use Rattle.model.specs.Precedes.{Leads}
use Rattle.model.specs.Replay.{claim}
use Rattle.model.proofs.Answers.{logged-answers}
use Rattle.model.proofs.Audited.{Accepted, accepted-formed, audit-accepted}
use Rattle.model.proofs.ByRule.{only-by-rule}
use Rattle.model.proofs.Closing.{closing}
use Rattle.model.proofs.LeftOpen.{stops-open}
use Rattle.model.proofs.Placed.{place}
use Rattle.model.proofs.Printed.{printed-order}
use Rattle.model.proofs.Sound.{order-allowed, merge-is-order}
use Rattle.model.proofs.Trace.{Formed}

module _ (M : Machine) (opening : ℕ → M.Content) (known : ℕ → Bool) (b : Batch) (v : audit M opening known b ≡ verdict 0 0) where
  accepted : Accepted M opening known b
  accepted = (audit-accepted M opening known b).0 v

  formed : Formed b
  formed = accepted-formed M opening known b accepted

  pub allowed-orders : (xs : List Item) →
      ((a : Allowed M opening b) × (a.order ≡ xs)) ↔ ((ys : List Node) × (map item_of ys ≡ xs) × OrderOf b ys)
  allowed-orders xs = (
    λ h. let p = place M opening b formed h.0 in (p.items, p.order ∙ h.1, p.placed),
    λ h. let a = order-allowed M opening b formed accepted.passes h.0 h.2 in (a.0, a.1 ∙ h.1),
  )

  pub same-answers : (a : Allowed M opening b) (r k : ℕ) →
      answer_of M r k a.order (initial M opening) ≡ logged_answer M (claim M b.log opening r k)
  same-answers = logged-answers M opening b formed

  pub same-contents : (a : Allowed M opening b) (o : ℕ) → a.final.contents o ≡ written M (opening o) (log_of o b.log)
  same-contents = closing M opening b formed

  pub open-stops : (a : Allowed M opening b) (x : Of) → Memᴰ x b.ofs → answered x.rid b.trace ≡ false →
      (p : M.Process) × (a.final.phase x.rid ≡ opened p x.count)
  open-stops = stops-open M opening b formed

  pub one-printed : (order : List Node) → Greedy (Leads b) (nodes b) order ↔ (order ≡ (merge_of b).0)
  one-printed = printed-order b formed accepted.passes.reported accepted.passes.merged

  pub one-by-rule : (order : List Node) → ByRule b order ↔ (order ≡ (merge_of b).0)
  one-by-rule = only-by-rule b formed accepted.passes.reported accepted.passes.merged

  -- the merge's order is an order of the items, and allowed
  merge-allowed : (order : List Node) → order ≡ (merge_of b).0 →
      OrderOf b order × ((a : Allowed M opening b) × (a.order ≡ map item_of order))
  merge-allowed order e =
      let o : OrderOf b order = subst (OrderOf b) (sym e) (merge-is-order M opening b formed accepted.passes) in
      (o, order-allowed M opening b formed accepted.passes order o)

  pub printed-allowed : (order : List Node) → Greedy (Leads b) (nodes b) order →
      OrderOf b order × ((a : Allowed M opening b) × (a.order ≡ map item_of order))
  printed-allowed order g = merge-allowed order ((one-printed order).0 g)

  pub rule-allowed : (order : List Node) → ByRule b order → (a : Allowed M opening b) × (a.order ≡ map item_of order)
  rule-allowed order r = (merge-allowed order ((one-by-rule order).0 r)).1
