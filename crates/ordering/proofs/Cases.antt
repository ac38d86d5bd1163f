-- Merges, computed. A batch is three arrays: lanes, requests (counted from 0) and numbers; first the log lines in report order, then the
-- trace events.
use mathlib.Core.Path.{◌≡◌, refl}
use mathlib.Core.Bool.{cond}
use mathlib.Core.List.{List, [], ◌∷◌, ◌++◌, Memᴰ}
use Prim.Native.Nat.{ℕ, suc, ◌-◌, ◌%◌, ◌/◌}
use lib.Dec.{ltb}
use native.Mathlib.Omega.{arith}
use Rattle.basics.specs.Chain.{Cycle, one, more}
use Rattle.ordering.specs.Merge.{bump, merge}
use Rattle.ordering.specs.Before.{ComesBefore, logged, next}
use Rattle.ordering.specs.Positions.{up_from, slot, value, merge_of, order_in}

-- ── batches A, B and C ──
-- C: two requests that run side by side; request 1, its write, request 2, its write, both reads, both responses
case-c : merge_of (1 ∷ 1 ∷ 2 ∷ 2 ∷ 0 ∷ 0 ∷ 0 ∷ 0 ∷ []) (0 ∷ 1 ∷ 1 ∷ 0 ∷ 0 ∷ 1 ∷ 0 ∷ 1 ∷ []) (1 ∷ 2 ∷ 1 ∷ 2 ∷ 0 ∷ 0 ∷ 3 ∷ 3 ∷ []) 8
    ≡ (4 ∷ 0 ∷ 5 ∷ 2 ∷ 1 ∷ 3 ∷ 6 ∷ 7 ∷ [], [])
unfolding merge_of bump
case-c = refl

-- B: C with the two lines of each object exchanged; only the requests are taken
abbrev lanes_b : List ℕ
lanes_b = 1 ∷ 1 ∷ 2 ∷ 2 ∷ 0 ∷ 0 ∷ 0 ∷ 0 ∷ []

abbrev requests_b : List ℕ
requests_b = 1 ∷ 0 ∷ 0 ∷ 1 ∷ 0 ∷ 1 ∷ 0 ∷ 1 ∷ []

abbrev numbers_b : List ℕ
numbers_b = 2 ∷ 1 ∷ 2 ∷ 1 ∷ 0 ∷ 0 ∷ 3 ∷ 3 ∷ []

case-b : merge_of lanes_b requests_b numbers_b 8 ≡ (4 ∷ 5 ∷ [], 0 ∷ 1 ∷ 2 ∷ 3 ∷ 6 ∷ 7 ∷ [])
unfolding merge_of bump
case-b = refl

-- its chain: each line comes before its neighbour in the log, and that one before the next operation of its request
chain-b : Cycle (ComesBefore (slot lanes_b 17) (slot requests_b 64) (value numbers_b) (up_from 0 8))
chain-b =
    let line1 : Memᴰ 1 (up_from 0 8) = mathlib.Core.List.Memᴰ.tail (mathlib.Core.List.Memᴰ.head refl) in
    let line2 : Memᴰ 2 (up_from 0 8) = mathlib.Core.List.Memᴰ.tail (mathlib.Core.List.Memᴰ.tail (mathlib.Core.List.Memᴰ.head refl)) in
    let line3 : Memᴰ 3 (up_from 0 8) = mathlib.Core.List.Memᴰ.tail (mathlib.Core.List.Memᴰ.tail (mathlib.Core.List.Memᴰ.tail (mathlib.Core.List.Memᴰ.head refl))) in
    record {
      item = 0;
      returns = more (more (more
          (one (logged 0 (record { front = []; back = []; split = refl })))
          (next line1 line2 (refl, refl) (λ p. absurd (omega arith))))
          (logged 1 (record { front = []; back = []; split = refl })))
          (next line3 (mathlib.Core.List.Memᴰ.head refl) (refl, refl) (λ p. absurd (omega arith)));
    }

-- A: response 1 before request 2, and the lines of object 0 exchanged; only request 1 is taken
case-a : merge_of (1 ∷ 1 ∷ 2 ∷ 2 ∷ 0 ∷ 0 ∷ 0 ∷ 0 ∷ []) (1 ∷ 0 ∷ 1 ∷ 0 ∷ 0 ∷ 0 ∷ 1 ∷ 1 ∷ []) (2 ∷ 1 ∷ 1 ∷ 2 ∷ 0 ∷ 3 ∷ 0 ∷ 3 ∷ []) 8
    ≡ (4 ∷ [], 0 ∷ 1 ∷ 2 ∷ 3 ∷ 5 ∷ 6 ∷ 7 ∷ [])
unfolding merge_of bump
case-a = refl

-- ── small batches ──
-- a request with no operations
no-operations : merge_of (0 ∷ 0 ∷ []) (0 ∷ 0 ∷ []) (0 ∷ 1 ∷ []) 2 ≡ (0 ∷ 1 ∷ [], [])
unfolding merge_of bump
no-operations = refl

-- a request with one operation and no response
no-response : merge_of (1 ∷ 0 ∷ []) (0 ∷ 0 ∷ []) (1 ∷ 0 ∷ []) 2 ≡ (1 ∷ 0 ∷ [], [])
unfolding merge_of bump
no-response = refl

-- operation 2 of a request before its operation 1 in one log
falling : merge_of (1 ∷ 1 ∷ 0 ∷ 0 ∷ []) (0 ∷ 0 ∷ 0 ∷ 0 ∷ []) (2 ∷ 1 ∷ 0 ∷ 3 ∷ []) 4 ≡ (2 ∷ [], 0 ∷ 1 ∷ 3 ∷ [])
unfolding merge_of bump
falling = refl

-- the trace has response 1 before request 2, and the log has their lines in that order
forced : merge_of (1 ∷ 1 ∷ 0 ∷ 0 ∷ 0 ∷ 0 ∷ []) (0 ∷ 1 ∷ 0 ∷ 0 ∷ 1 ∷ 1 ∷ []) (1 ∷ 1 ∷ 0 ∷ 2 ∷ 0 ∷ 2 ∷ []) 6
    ≡ (2 ∷ 0 ∷ 3 ∷ 4 ∷ 1 ∷ 5 ∷ [], [])
unfolding merge_of bump
forced = refl

-- and in the other order: what the trace forces is against the log
against : merge_of (1 ∷ 1 ∷ 0 ∷ 0 ∷ 0 ∷ 0 ∷ []) (1 ∷ 0 ∷ 0 ∷ 0 ∷ 1 ∷ 1 ∷ []) (1 ∷ 1 ∷ 0 ∷ 2 ∷ 0 ∷ 2 ∷ []) 6
    ≡ (2 ∷ [], 0 ∷ 1 ∷ 3 ∷ 4 ∷ 5 ∷ [])
unfolding merge_of bump
against = refl

-- ── what the arrays say beyond their ranges ──
-- lane 18 is lane 1, request 64 is request 0
beyond : merge_of (18 ∷ 1 ∷ []) (64 ∷ 0 ∷ []) (0 ∷ 1 ∷ []) 2 ≡ (0 ∷ 1 ∷ [], [])
unfolding merge_of bump
beyond = refl

-- the shortest array counts, and what stands behind the order stays
short : order_in (0 ∷ 0 ∷ 0 ∷ []) (0 ∷ 0 ∷ []) (0 ∷ 2 ∷ 1 ∷ []) (9 ∷ 9 ∷ 9 ∷ []) ≡ 0 ∷ 9 ∷ 9 ∷ []
unfolding merge_of bump
short = refl

-- ── 64 requests of 16 operations each on one object, the last request first; the trace has the 64 requests, then the 64 responses ──
abbrev lane : ℕ → ℕ
lane i = cond (ltb i 1024) 1 0

abbrev request : ℕ → ℕ
request i = cond (ltb i 1024) (63 - i / 16) (i % 64)

abbrev number : ℕ → ℕ
number i = cond (ltb i 1024) (suc (i % 16)) (cond (ltb i 1088) 0 17)

largest : merge lane request number 1152 (λ r. 0) (up_from 0 1152) ≡ (up_from 1024 64 ++ up_from 0 1024 ++ up_from 1088 64, [])
unfolding bump
largest = refl
