-- The order of any three texts is small: how many items it has, that its operations are numbered, and how long its lines are.
use Prim.Native.Nat.{ℕ, suc, ◌+◌, ◌*◌, ◌≤◌}
use mathlib.Core.Bool.{Bool, true, false}
use mathlib.Core.List.{List, [], ◌∷◌, map}
use mathlib.Core.Path.{◌≡◌, refl, sym, ap, ◌∙◌, subst}
use native.Mathlib.Omega.{arith}
use lib.ListN.{length, length-append}
use Rattle.basics.specs.Lists.{All}
use Rattle.basics.specs.Count.{count}
use Rattle.basics.proofs.Lists.{all_append, all_map, all-imp, all_any, count-append, count_map, count-all, count-zero}
use Rattle.basics.proofs.Tests.{by_eq}
use Rattle.lines.specs.Bytes.{bytes}
use Rattle.lines.specs.Decimal.{digits_in, decimal}
use Rattle.lines.proofs.LineTrip.{line-bound}
use Rattle.text.specs.declared.report.Entry.{Entry}
use Rattle.text.specs.declared.trace.Event.{Event}
use Rattle.text.proofs.Ranges.{trace-few}
use Rattle.writing.specs.Order.{event_item, operation_item}
use Rattle.ordering.proofs.Lanes.{all_lanes, count-lanes}
use Rattle.model.specs.Batch.{Batch, batch_of, Node, ev, ln, count_of}
use Rattle.model.specs.Nodes.{lane, nodes, merge_of}
use Rattle.model.specs.ByRule.{item_of}
use Rattle.model.specs.Orders.{OrderOf}
use Rattle.model.specs.PlainRun.{Item, event, operation}
use Rattle.model.proofs.Claims.{Counted}
use Rattle.verifier.specs.Faults.{audit_of}
use Rattle.verifier.specs.Order.{order_of, order_text}
use Rattle.verifier.specs.Printed.{most_order}
use Rattle.verifier.specs.Readings.{Readings}
use Rattle.verifier.proofs.Acceptance.{audit-accepts}
use Rattle.verifier.proofs.OrderReads.{order-none, order-of-read, merge-order, lines-counted}
use Rattle.verifier.proofs.OrderTexts.{NotZero}
use Rattle.verifier.proofs.ReportRanges.{report-in-range}

-- ── items in range, and their lines ──
abbrev pub is_event : Item → Bool
is_event (event e) = true
is_event (operation r k) = false

abbrev pub is_operation : Item → Bool
is_operation (event e) = false
is_operation (operation r k) = true

abbrev pub Small : Item → Type 0
Small (event e) = Unit {0}
Small (operation r k) = (r ≤ 65535) × (k ≤ 256)

event-most : (n : ℕ) → n ≤ 128 → length (event_item n) ≤ 10
unfolding event_item decimal digits_in
event-most n h = line-bound (record { word = bytes "event="; largest = 128 ∷ [] }) (n ∷ [])
    (record { below = h; fits = omega arith }, tt)

operation-most : (r k : ℕ) → r ≤ 65535 → k ≤ 256 → length (operation_item r k) ≤ 13
unfolding operation_item decimal digits_in
operation-most r k h g = line-bound (record { word = bytes "op="; largest = 65535 ∷ 256 ∷ [] }) (r ∷ k ∷ [])
    (record { below = h; fits = omega arith }, (record { below = g; fits = omega arith }, tt))

-- an operation is a log line
lines-small : (ls : List Entry) → All (λ l. l.rid ≤ 65535) ls → All (λ l. l.num ≤ 256) ls → All (λ l. Small (item_of (ln l))) ls
lines-small [] h k = tt
lines-small (l ∷ ls) h k = ((h.0, k.0), lines-small ls h.1 k.1)

lines-numbered : (count : ℕ → ℕ) (ls : List Entry) → All (Counted count) ls → All (λ l. NotZero (item_of (ln l))) ls
lines-numbered count = all-imp (Counted count) (λ l. NotZero (item_of (ln l))) (λ l c i. omega (arith, c.low))

-- each item is an operation or an event
items-counted : (xs : List Item) → length xs ≡ count is_operation xs + count is_event xs
items-counted [] = refl
items-counted (event e ∷ xs) = omega (arith, items-counted xs)
items-counted (operation r k ∷ xs) = omega (arith, items-counted xs)

-- n is the trace line of the first event
text-most : (n : ℕ) (xs : List Item) → All Small xs → n + count is_event xs ≤ 129 →
    length (order_text n xs) ≤ 13 * count is_operation xs + 10 * count is_event xs
unfolding order_text
text-most n [] s h = omega arith
text-most n (event e ∷ xs) s h =
    omega (arith, length-append (event_item n) (order_text (suc n) xs), event-most n (omega arith), text-most (suc n) xs s.1 (omega arith))
text-most n (operation r k ∷ xs) s h =
    omega (
      arith,
      length-append (operation_item r k) (order_text n xs),
      operation-most r k s.0.0 s.0.1,
      text-most n xs s.1 (omega arith),
    )

-- ── an order has the items of its batch ──
module _ (b : Batch) (order : List Node) (o : OrderOf b order) where
  all-items : (P : Item → Type 0) → All (λ l. P (item_of (ln l))) b.log → ((e : Event) → P (event e)) → All P (map item_of order)
  all-items P h k =
      all_map P item_of order (all_lanes lane (λ y. P (item_of y)) order (nodes b) o.lanes
      (all_append (λ y. P (item_of y)) (map ln b.log) (map ev b.trace)
      (all_map (λ y. P (item_of y)) ln b.log h)
      (all_map (λ y. P (item_of y)) ev b.trace (all_any (λ e. P (event e)) k b.trace))))

  count-items : (f : Item → Bool) →
      count f (map item_of order) ≡ count (λ l. f (item_of (ln l))) b.log + count (λ e. f (item_of (ev e))) b.trace
  count-items f =
      let g : Node → Bool = λ y. f (item_of y) in
      count_map f item_of order
      ∙ count-lanes lane g order (nodes b) o.lanes
      ∙ count-append g (map ln b.log) (map ev b.trace)
      ∙ (λ i. count_map g ln b.log i + count_map g ev b.trace i)

  items-length : length (map item_of order) ≡ length b.log + length b.trace
  items-length =
      omega (
        arith,
        items-counted (map item_of order),
        count-items is_operation,
        count-items is_event,
        count-all b.log,
        count-zero b.log,
        count-all b.trace,
        count-zero b.trace,
      )

-- ── the order of three texts ──
pub record Ranged (xs : List Item) : Type 0 where
  pub operations : count is_operation xs ≤ 1024
  pub events : count is_event xs ≤ 128
  pub numbered : All NotZero xs
  pub small : All Small xs

module _ (programs trace report : List ℕ) where
  -- none of a refused batch
  pub order-ranged : Ranged (order_of programs trace report)
  order-ranged = by_eq (audit_of programs trace report).verdict 0
      (λ e _. at e ((audit-accepts programs trace report).0 e).texts)
      (λ n _.
      subst Ranged (sym (order-none programs trace report n))
      (record { operations = omega arith; events = omega arith; numbered = tt; small = tt }))
    where
      at : (audit_of programs trace report).verdict ≡ 0 → Readings programs trace report → Ranged (order_of programs trace report)
      at e x =
          let b = batch_of x.events x.lines in
          let order = (merge_of b).0 in
          let o : OrderOf b order = merge-order programs trace report e x in
          let r = report-in-range report x.lines x.lines_read in
          let t = trace-few trace x.events x.events_read in
          let c = lines-counted programs trace report e x in
          subst Ranged (sym (order-of-read programs trace report e x))
          (record {
            operations = omega (arith, count-items b order o is_operation, count-all b.log, count-zero b.trace, r.few);
            events = omega (arith, count-items b order o is_event, count-zero b.log, count-all b.trace, t);
            numbered = all-items b order o NotZero (lines-numbered (count_of b.ofs) b.log c) (λ e. tt);
            small = all-items b order o Small (lines-small b.log r.rids r.nums) (λ e. tt);
          })

  -- all items of an accepted batch
  pub order-length : (audit_of programs trace report).verdict ≡ 0 → (x : Readings programs trace report) →
      length (order_of programs trace report) ≡ length x.lines.log + length x.events
  order-length e x =
      ap length (order-of-read programs trace report e x)
      ∙ items-length (batch_of x.events x.lines) _ (merge-order programs trace report e x)

  pub order-few : length (order_of programs trace report) ≤ 1152
  order-few = omega (arith, items-counted (order_of programs trace report), order-ranged.operations, order-ranged.events)

  pub order-numbered : All NotZero (order_of programs trace report)
  order-numbered = order-ranged.numbered

  pub order-most : length (order_text 1 (order_of programs trace report)) ≤ most_order
  order-most =
      let r = order-ranged in
      omega (arith, text-most 1 (order_of programs trace report) r.small (omega (arith, r.events)), r.operations, r.events)
