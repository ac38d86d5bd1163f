-- The paper's batches and the small examples of its table, as parsed batches with their lines: a table for the audit and one for the host,
-- each with one proof.
use mathlib.Core.Bool.{Bool}
use mathlib.Core.List.{List, [], ◌∷◌, map}
use mathlib.Core.Path.{◌≡◌, refl}
use Prim.Native.Nat.{ℕ, ◌<◌}
use lib.Dec.{ltb}
use native.Mathlib.Omega.{arith}
use Rattle.basics.specs.Lists.{All}
use Rattle.basics.specs.Maps.{upd}
use Rattle.text.specs.declared.report.Entry.{Entry}
use Rattle.text.specs.declared.report.Of.{Of}
use Rattle.text.specs.declared.report.Op.{Op}
use Rattle.text.specs.declared.schedule.Move.TheVariants.{Arrive, Turn}
use Rattle.text.specs.declared.schedule.Move.{Move}
use Rattle.text.specs.declared.trace.Event.TheVariants.{Request, Response}
use Rattle.text.specs.declared.trace.Event.{Event}
use Rattle.ordering.specs.Merge.{bump}
use Rattle.model.specs.Audit.{audit}
use Rattle.model.specs.Batch.{Batch, ev, ln}
use Rattle.model.specs.Bounds.{Bounded}
use Rattle.model.specs.Checks.{Verdict, verdict}
use Rattle.model.specs.Host.{Result, fault, made, recorded}
use Rattle.model.specs.Machine.{Machine}
use Rattle.model.specs.Nodes.{merge_of}
use Rattle.model.specs.Ranges.{FitMove, FitBatch}
use Rattle.model.proofs.Example.{machine, FitProgram, within, bounded, zero-fit}
use Rattle.model.proofs.Main.{host-accepted, host-in-range}

-- ── the texts' lines ──
abbrev of : (rid group count : ℕ) → Of
of rid group count = record { rid = rid; group = group; count = count }

abbrev log : (object rid num kind key value : ℕ) → Entry
log object rid num kind key value = record { rid = rid; num = num; op = record { object = object; kind = kind; key = key; value = value } }

abbrev batch : List Event → List Of → List Entry → Batch
batch es xs ls = record { trace = es; ofs = xs; log = ls }

-- ── the programs of A, B and C: one writes register 0 and reads register 1, the other exchanges the two ──
abbrev both : (mine yours : ℕ) → List Op
both mine yours = record { object = mine; kind = 7; key = 0; value = 1 } ∷ record { object = yours; kind = 6; key = 0; value = 0 } ∷ []

abbrev M : Machine
M = machine (both 0 1 ∷ both 1 0 ∷ [])

abbrev zeros : ℕ → ℕ → ℕ
zeros o k = 0

abbrev known : ℕ → Bool
known n = ltb n 2

abbrev trace_c : (v w : ℕ) → List Event
trace_c v w = Request 1 0 0 0 ∷ Request 2 1 0 0 ∷ Response 1 0 v ∷ Response 2 0 w ∷ []

abbrev ofs_c : List Of
ofs_c = of 1 0 2 ∷ of 2 1 2 ∷ []

abbrev log_c : List Entry
log_c = log 0 1 1 7 0 1 ∷ log 0 2 2 6 0 0 ∷ log 1 2 1 7 0 1 ∷ log 1 1 2 6 0 0 ∷ []

-- C's with the lines of object 0 exchanged
abbrev log_a : List Entry
log_a = log 0 2 2 6 0 0 ∷ log 0 1 1 7 0 1 ∷ log 1 2 1 7 0 1 ∷ log 1 1 2 6 0 0 ∷ []

-- one request of program 0, answered and not
abbrev single : List Event
single = Request 1 0 0 0 ∷ Response 1 0 0 ∷ []

abbrev left_open : List Event
left_open = Request 1 0 0 0 ∷ []

-- ── the audit ──
abbrev audits : List (Batch × Verdict)
audits =
    -- all texts empty; C
    (batch [] [] [], verdict 0 0)
    ∷ (batch (trace_c 1 1) ofs_c log_c, verdict 0 0)
    -- response with no open request; rid used twice, though it is open; unknown program; answered twice
    ∷ (batch (Response 1 0 0 ∷ []) [] [], verdict 4 1)
    ∷ (batch (Request 1 0 0 0 ∷ Request 2 0 0 0 ∷ Request 2 0 0 0 ∷ []) [] [], verdict 4 3)
    ∷ (batch (Request 1 2 0 0 ∷ Response 1 0 0 ∷ []) [] [], verdict 4 1)
    ∷ (batch (Request 1 0 0 0 ∷ Response 1 0 0 ∷ Response 1 0 0 ∷ []) [] [], verdict 4 3)
    -- `of` lines: one missing, one too many, one of another request
    ∷ (batch single [] [], verdict 6 1)
    ∷ (batch single (of 1 0 0 ∷ of 2 1 0 ∷ []) [], verdict 6 2)
    ∷ (batch single (of 2 0 0 ∷ []) [], verdict 6 1)
    -- a log line above the count, of an unknown rid, with number 0, claimed before
    ∷ (batch single (of 1 0 0 ∷ []) (log 0 1 1 7 0 1 ∷ []), verdict 7 2)
    ∷ (batch single (of 1 0 1 ∷ []) (log 0 2 1 7 0 1 ∷ []), verdict 7 2)
    ∷ (batch single (of 1 0 1 ∷ []) (log 0 1 0 7 0 1 ∷ []), verdict 7 2)
    ∷ (batch single (of 1 0 1 ∷ []) (log 0 1 1 7 0 1 ∷ log 1 1 1 6 0 0 ∷ []), verdict 7 3)
    -- an operation without a line
    ∷ (batch single (of 1 0 1 ∷ []) [], verdict 8 1)
    -- B; A
    ∷ (batch (trace_c 0 0) ofs_c (log 0 2 2 6 0 0 ∷ log 0 1 1 7 0 1 ∷ log 1 1 2 6 0 0 ∷ log 1 2 1 7 0 1 ∷ []), verdict 9 0)
    ∷ (batch (Request 1 0 0 0 ∷ Response 1 0 1 ∷ Request 2 1 0 0 ∷ Response 2 0 0 ∷ []) ofs_c log_a, verdict 9 0)
    -- C, first log value 2; a count too small and too large
    ∷ (batch (trace_c 1 1) ofs_c (log 0 1 1 7 0 2 ∷ log 0 2 2 6 0 0 ∷ log 1 2 1 7 0 1 ∷ log 1 1 2 6 0 0 ∷ []), verdict 10 1)
    ∷ (batch single (of 1 0 1 ∷ []) (log 0 1 1 7 0 1 ∷ []), verdict 10 1)
    ∷ (batch single (of 1 0 3 ∷ []) (log 0 1 1 7 0 1 ∷ log 1 1 2 6 0 0 ∷ log 1 1 3 6 0 0 ∷ []), verdict 10 1)
    -- C, second response 5; C, both requests in one group
    ∷ (batch (trace_c 1 5) ofs_c log_c, verdict 11 2)
    ∷ (batch (trace_c 1 1) (of 1 0 2 ∷ of 2 0 2 ∷ []) log_c, verdict 12 2)
    -- a request left open: before its first operation, behind it, behind its last; A with request 1 left open
    ∷ (batch left_open (of 1 0 0 ∷ []) [], verdict 0 0)
    ∷ (batch left_open (of 1 0 1 ∷ []) (log 0 1 1 7 0 1 ∷ []), verdict 0 0)
    ∷ (batch left_open (of 1 0 2 ∷ []) (log 0 1 1 7 0 1 ∷ log 1 1 2 6 0 0 ∷ []), verdict 0 0)
    ∷ (batch (Request 1 0 0 0 ∷ Request 2 1 0 0 ∷ Response 2 0 0 ∷ []) ofs_c log_a, verdict 0 0)
    -- an operation of it differs; its program has fewer than its count
    ∷ (batch left_open (of 1 0 1 ∷ []) (log 0 1 1 7 0 2 ∷ []), verdict 10 1)
    ∷ (batch left_open (of 1 0 3 ∷ []) (log 0 1 1 7 0 1 ∷ log 1 1 2 6 0 0 ∷ log 1 1 3 6 0 0 ∷ []), verdict 10 1)
    -- in a group: two of one program, of two programs, with a request that was answered
    ∷ (batch (Request 1 0 0 0 ∷ Request 2 0 0 0 ∷ []) (of 1 0 0 ∷ of 2 0 0 ∷ []) [], verdict 0 0)
    ∷ (batch (Request 1 0 0 0 ∷ Request 2 1 0 0 ∷ []) (of 1 0 0 ∷ of 2 0 0 ∷ []) [], verdict 12 2)
    ∷ (
      batch (Request 1 0 0 0 ∷ Response 1 0 0 ∷ Request 2 0 0 0 ∷ []) (of 1 0 2 ∷ of 2 0 2 ∷ [])
          (log 0 1 1 7 0 1 ∷ log 0 2 1 7 0 1 ∷ log 1 1 2 6 0 0 ∷ log 1 2 2 6 0 0 ∷ []),
      verdict 12 2,
    )
    ∷ []

audits-come-out : map (λ c. audit M zeros known c.0) audits ≡ map (λ c. c.1) audits
unfolding audit bump upd
audits-come-out = refl

-- the order that the merge makes of C
order-C : (merge_of (batch (trace_c 1 1) ofs_c log_c)).0
    ≡ ev (Request 1 0 0 0) ∷ ln (log 0 1 1 7 0 1) ∷ ev (Request 2 1 0 0) ∷ ln (log 1 2 1 7 0 1) ∷ ln (log 0 2 2 6 0 0)
    ∷ ln (log 1 1 2 6 0 0) ∷ ev (Response 1 0 1) ∷ ev (Response 2 0 1) ∷ []
unfolding bump upd
order-C = refl

-- ── the host ──
abbrev schedule_c : List Move
schedule_c = Arrive 1 0 0 0 ∷ Arrive 2 1 0 0 ∷ Turn 1 ∷ Turn 2 ∷ Turn 1 ∷ Turn 2 ∷ Turn 1 ∷ Turn 2 ∷ []

-- schedules, with the most operations that a batch may have
abbrev records : List (List Move × ℕ × Result Batch)
records =
    (schedule_c, 1024, made (batch (trace_c 1 1) ofs_c log_c))
    -- one operation too many; a turn of a rid not arrived; a rid that arrives twice; an unknown program
    ∷ (schedule_c, 3, fault 14 6)
    ∷ (Turn 1 ∷ [], 1024, fault 14 1)
    ∷ (Arrive 1 0 0 0 ∷ Turn 1 ∷ Arrive 1 0 0 0 ∷ [], 1024, fault 14 3)
    ∷ (Arrive 1 2 0 0 ∷ [], 1024, fault 14 1)
    -- requests left open: before the first operation, behind one
    ∷ (Arrive 1 0 0 0 ∷ [], 1024, made (batch (Request 1 0 0 0 ∷ []) (of 1 0 0 ∷ []) []))
    ∷ (
      Arrive 1 0 0 0 ∷ Arrive 3 1 0 0 ∷ Turn 1 ∷ Arrive 2 1 0 0 ∷ Turn 3 ∷ Turn 1 ∷ Turn 1 ∷ [],
      1024,
      made (batch
          (Request 1 0 0 0 ∷ Request 3 1 0 0 ∷ Request 2 1 0 0 ∷ Response 1 0 1 ∷ [])
          (of 1 0 2 ∷ of 3 1 1 ∷ of 2 2 0 ∷ [])
          (log 0 1 1 7 0 1 ∷ log 1 3 1 7 0 1 ∷ log 1 1 2 6 0 0 ∷ [])),
    )
    -- a turn after the response does nothing
    ∷ (
      Arrive 1 0 0 0 ∷ Turn 1 ∷ Turn 1 ∷ Turn 1 ∷ Turn 1 ∷ [],
      1024,
      made (batch single (of 1 0 2 ∷ []) (log 0 1 1 7 0 1 ∷ log 1 1 2 6 0 0 ∷ [])),
    )
    ∷ []

records-come-out : map (λ c. recorded M known c.1 16 zeros c.0) records ≡ map (λ c. c.2) records
unfolding upd
records-come-out = refl

-- ── the example's machine meets what the theorems ask: whatever the host takes without a fault is accepted, and in range ──
fit : All FitProgram (both 0 1 ∷ both 1 0 ∷ [])
fit = (two 0 1 (omega arith) (omega arith), (two 1 0 (omega arith) (omega arith), tt))
  where
    two : (i j : ℕ) → i < 16 → j < 16 → FitProgram (both i j)
    two i j h k = (omega arith, ((h, omega arith), ((k, omega arith), tt)))

example-accepted : (ms : List Move) (b : Batch) → recorded M known 1024 16 zeros ms ≡ made b → audit M zeros known b ≡ verdict 0 0
example-accepted = host-accepted M zeros known 1024 16 (within (both 0 1 ∷ both 1 0 ∷ []) fit)

abbrev bounds : Bounded M
bounds = bounded (both 0 1 ∷ both 1 0 ∷ []) fit

example-in-range : (ms : List Move) → All (FitMove M bounds (λ r. r < 65_536)) ms → (b : Batch) →
    recorded M known 1024 16 zeros ms ≡ made b → FitBatch M bounds (λ r. r < 65_536) 1024 ms b
example-in-range = host-in-range M zeros known 1024 16 (within (both 0 1 ∷ both 1 0 ∷ []) fit) bounds (λ r. r < 65_536)
    (λ o. zero-fit (both 0 1 ∷ both 1 0 ∷ []) fit)
