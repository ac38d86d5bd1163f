-- The theorems, each proved by one citation: over any machine, any contents at the start, and any set of known programs.
use mathlib.Core.Bool.{Bool, false}
use mathlib.Core.List.{List, map, Memᴰ}
use mathlib.Core.Logic.{◌↔◌}
use mathlib.Core.Path.{◌≡◌}
use Prim.Native.Nat.{ℕ}
use Rattle.basics.specs.Lists.{All}
use Rattle.text.specs.declared.report.Of.{Of}
use Rattle.text.specs.declared.schedule.Move.{Move}
use Rattle.ordering.specs.FirstFree.{Greedy}
use Rattle.model.specs.Allowed.{Allowed}
use Rattle.model.specs.Answers.{written, answer_of, logged_answer}
use Rattle.model.specs.Audit.{audit}
use Rattle.model.specs.Claims.{NoneTo8}
use Rattle.model.specs.Batch.{Batch, log_of, answered, Node}
use Rattle.model.specs.Bounds.{Within, Bounded}
use Rattle.model.specs.ByRule.{item_of, ByRule}
use Rattle.model.specs.Checks.{verdict}
use Rattle.model.specs.Demand.{Demand3}
use Rattle.model.specs.Host.{made, recorded}
use Rattle.model.specs.Machine.{Machine}
use Rattle.model.specs.Nodes.{nodes, merge_of}
use Rattle.model.specs.Orders.{OrderOf}
use Rattle.model.specs.PlainRun.{Item, opened, initial}
use Rattle.model.specs.Precedes.{Leads, Returns, ReturnsWeakly}
use Rattle.model.specs.Ranges.{FitMove, FitBatch}
use Rattle.model.specs.Replay.{claim}
use Rattle.model.proofs.Audited.{audit-demand, audit-zero, audit-nine, audit-nine-line}
use Rattle.model.proofs.Orders.{allowed-orders, same-answers, same-contents, open-stops, one-printed, printed-allowed, one-by-rule, rule-allowed}
use Rattle.model.proofs.Ranges.{recorded-fit}
use Rattle.model.proofs.Recorded.{recorded-accepted}
use Rattle.model.proofs.Weaker.{audit-nine-weaker}

module _ (M : Machine) (opening : ℕ → M.Content) (known : ℕ → Bool) where
  -- Demand 3 for the audit: verdict 0 at line 0 exactly when rows 4 and 6 do not hold and an order is allowed.
  pub audit-exactly : (b : Batch) → (audit M opening known b ≡ verdict 0 0) ↔ Demand3 M opening known b
  audit-exactly = audit-demand M opening known

  -- Row 9: no earlier row holds, and a chain of "comes before" returns to its start.
  pub row-9 : (b : Batch) → (audit M opening known b ≡ verdict 9 0) ↔ (NoneTo8 known b × Returns b)
  row-9 = audit-nine M opening known

  -- Both verdicts stand at line 0.
  pub line-of-0 : (b : Batch) → (audit M opening known b).number ≡ 0 → audit M opening known b ≡ verdict 0 0
  line-of-0 = audit-zero M opening known

  pub line-of-9 : (b : Batch) → (audit M opening known b).number ≡ 9 → audit M opening known b ≡ verdict 9 0
  line-of-9 = audit-nine-line M opening known

  -- The same by the weaker relation of source document 001, in which a response comes before each later request only.
  pub row-9-weaker : (b : Batch) → (audit M opening known b ≡ verdict 9 0) ↔ (NoneTo8 known b × ReturnsWeakly b)
  row-9-weaker = audit-nine-weaker M opening known

  module _ (limit objects : ℕ) (within : Within M objects) where
    -- Demand 3 for the host: what it writes without a fault is accepted.
    pub host-accepted : (ms : List Move) (b : Batch) → recorded M known limit objects opening ms ≡ made b →
        audit M opening known b ≡ verdict 0 0
    host-accepted = recorded-accepted M known limit objects within opening

    -- And it stays in range, where the machine does; R is the range of rids.
    pub host-in-range : (B : Bounded M) (R : ℕ → Type 0) → ((o : ℕ) → B.FitContent (opening o)) → (ms : List Move) →
        All (FitMove M B R) ms → (b : Batch) → recorded M known limit objects opening ms ≡ made b → FitBatch M B R limit ms b
    host-in-range B R = recorded-fit M B R known limit objects within opening

  module _ (b : Batch) (v : audit M opening known b ≡ verdict 0 0) where
    -- The orders that demand 3 allows of an accepted batch are the orders of its items.
    pub orders : (xs : List Item) →
        ((a : Allowed M opening b) × (a.order ≡ xs)) ↔ ((ys : List Node) × (map item_of ys ≡ xs) × OrderOf b ys)
    orders = allowed-orders M opening known b v

    -- All of them give operation k of request r the answer that the reported logs give,
    pub answers : (a : Allowed M opening b) (r k : ℕ) →
        answer_of M r k a.order (initial M opening) ≡ logged_answer M (claim M b.log opening r k)
    answers = same-answers M opening known b v

    -- and end with the contents that the reported logs give.
    pub contents : (a : Allowed M opening b) (o : ℕ) → a.final.contents o ≡ written M (opening o) (log_of o b.log)
    contents = same-contents M opening known b v

    -- In each of them a request that was never answered stops behind the operations that its `of` line counts.
    pub left_open : (a : Allowed M opening b) (x : Of) → Memᴰ x b.ofs → answered x.rid b.trace ≡ false →
        (p : M.Process) × (a.final.phase x.rid ≡ opened p x.count)
    left_open = open-stops M opening known b v

    -- Exactly one order takes at each step the first item that waits for none that is left: the merge's.
    pub printed : (order : List Node) → Greedy (Leads b) (nodes b) order ↔ (order ≡ (merge_of b).0)
    printed = one-printed M opening known b v

    -- It is an order of the items, and allowed.
    pub printed-is-allowed : (order : List Node) → Greedy (Leads b) (nodes b) order →
        OrderOf b order × ((a : Allowed M opening b) × (a.order ≡ map item_of order))
    printed-is-allowed = printed-allowed M opening known b v

    -- The merge's order is by the rule of P1, and any order by the rule is this one.
    pub by_rule : (order : List Node) → ByRule b order ↔ (order ≡ (merge_of b).0)
    by_rule = one-by-rule M opening known b v

    -- So an order by the rule is allowed.
    pub rule-is-allowed : (order : List Node) → ByRule b order → (a : Allowed M opening b) × (a.order ≡ map item_of order)
    rule-is-allowed = rule-allowed M opening known b v
