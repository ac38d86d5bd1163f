-- What the crate comes to: each statement, proved by one citation.
use mathlib.Core.Path.{◌≡◌}
use mathlib.Core.Logic.{◌≢◌, ◌↔◌}
use mathlib.Core.List.{List, []}
use Prim.Native.Nat.{ℕ}
use lib.ListN.{get_or, length}
use native.Mathlib.Omega.{arith}
use Rattle.basics.specs.Chain.{Chain, Cycle}
use Rattle.ordering.specs.Order.{IsOrder}
use Rattle.ordering.specs.Merge.{merge_all}
use Rattle.ordering.specs.Before.{ComesBefore, WeaklyBefore}
use Rattle.ordering.specs.Whole.{Whole}
use Rattle.ordering.specs.FirstFree.{Takes, Greedy}
use Rattle.ordering.specs.Positions.{merge_of, counts}
use Rattle.ordering.proofs.Orders.{merge-order, order-merge}
use Rattle.ordering.proofs.Cycles.{merge-cycle}
use Rattle.ordering.proofs.Weaker.{merge-weaker}
use Rattle.ordering.proofs.FirstFree.{merge-first-free, only-order}
use Rattle.ordering.proofs.Items.{Held, both, merge-items, OrderOf, none_left}

-- ── items of any kind ──
module _ {A : Type 0} (lane rid num : A → ℕ) (all : List A) where
  -- A merge that leaves nothing over is an order.
  pub nothing_left : (merge_all lane rid num all).1 ≡ [] → IsOrder lane rid num (λ r. 0) all (merge_all lane rid num all).0
  nothing_left = merge-order lane rid num (length all) (λ r. 0) all

  -- If there is any order, the merge leaves nothing over.
  pub any_order : (order : List A) → IsOrder lane rid num (λ r. 0) all order → (merge_all lane rid num all).1 ≡ []
  any_order order = order-merge lane rid num (length all) (λ r. 0) all order (omega arith)

  module _ (whole : Whole lane rid num all) where
    -- The merge leaves something over exactly when a chain of "comes before" returns to its start.
    pub something-left : ((merge_all lane rid num all).1 ≢ []) ↔ Cycle (ComesBefore lane rid num all)
    something-left = merge-cycle lane rid num all whole

    -- The same if only a response and each later request are ordered in place of all neighbouring trace events.
    pub something-left-weaker : ((merge_all lane rid num all).1 ≢ []) ↔ Cycle (WeaklyBefore lane rid num all)
    something-left-weaker = merge-weaker lane rid num all whole

    -- Each item that the merge takes is the first that waits for none that is left.
    pub takes_first : Takes (Chain (ComesBefore lane rid num all)) all (merge_all lane rid num all).0 (merge_all lane rid num all).1
    takes_first = merge-first-free lane rid num all whole

    -- If it leaves nothing over, its order is the only one by that rule.
    pub one-by-rule : (merge_all lane rid num all).1 ≡ [] →
        (order : List A) → Greedy (Chain (ComesBefore lane rid num all)) all order ↔ (order ≡ (merge_all lane rid num all).0)
    one-by-rule = only-order lane rid num all whole

-- ── items in arrays ──
-- Nothing is left exactly when there is an order of the positions.
pub positions-order : (lane request number : List ℕ) (n : ℕ) →
    ((counts (merge_of lane request number n)).left ≡ 0) ↔ ((order : List ℕ) × OrderOf lane request number n order)
positions-order = none_left

-- The merge of items that stand in arrays is the merge of their positions.
pub positions-items : {A : Type 0} (lane rid num : A → ℕ) (items : List A) (d : A) (lanes requests numbers : List ℕ) →
    Held lane rid num items d lanes requests numbers →
    merge_all lane rid num items ≡ both (λ i. get_or items i d) (merge_of lanes requests numbers (length items))
positions-items = merge-items
