-- The reference host on parsed schedules: row 14, and the batch that it writes.
use Rattle.std.specs.Prelude.{Bool, cond, List, [], ◌∷◌, ◌++◌, ℕ, zero, suc, ltb}
use Rattle.text.specs.declared.report.Entry.{Entry}
use Rattle.text.specs.declared.report.Of.{Of}
use Rattle.text.specs.declared.schedule.Move.TheVariants.{Arrive, Turn}
use Rattle.text.specs.declared.schedule.Move.{Move}
use Rattle.text.specs.declared.trace.Event.TheVariants.{Request, Response}
use Rattle.text.specs.declared.trace.Event.{Event}
use Rattle.model.specs.Batch.{Batch}
use Rattle.model.specs.Machine.{Next, op, stop, Machine}
use Rattle.model.specs.PlainRun.{State, Phase, absent, opened, closed, initial, arrived, operated, replied, operations_of}

-- what was made, or the number of the row that is broken and its line
pub data Result (A : Type 0) : Type 0 where
  fault : (number line : ℕ) → Result A
  made : A → Result A

-- the checks go on with what was made, up to the first fault
abbrev pub and_then : {A B : Type 0} → Result A → (A → Result B) → Result B
and_then (fault number line) f = fault number line
and_then (made x) f = f x

-- the logs of n objects from k on, one behind the other
abbrev pub logs_from : (ℕ → List Entry) → (k n : ℕ) → List Entry
logs_from logs k zero = []
logs_from logs k (suc n) = logs k ++ logs_from logs (suc k) n

module _ (M : Machine) where
  open M use {Process, Content, advance}

  -- ── a turn, computed by value; the host then commits it ──
  pub data Turned : Type 0 where
    -- the rid has not arrived
    missing : Turned
    -- the request has its response: a turn does nothing
    idle : Turned
    -- the state behind an operation, and behind the reply or cut
    worked : State M → Turned
    finished : State M → (rid status value : ℕ) → Turned

  -- a turn runs a request up to and including its next operation, or to its reply or cut
  abbrev pub turn_at : State M → ℕ → Process → (operations : ℕ) → Next → Turned
  turn_at s r p k (op o) = worked (operated M s r (suc k) p o)
  turn_at s r p k (stop status value) = finished (replied M s r p k) r status value

  abbrev pub turn_of : State M → ℕ → Phase M → Turned
  turn_of s r absent = missing
  turn_of s r (opened p k) = turn_at s r p k (advance p)
  turn_of s r (closed w n) = idle

  -- ── the host: the plain run's state, the trace written so far, and how many operations were carried out ──
  pub record Host : Type 0 where
    pub state : State M
    pub trace : List Event
    pub operations : ℕ

  abbrev pub empty : (ℕ → Content) → Host
  empty opening = record { state = initial M opening; trace = []; operations = 0 }

  -- one line of the schedule: the host behind it, or row 14
  pub data Stepped : Type 0 where
    broken : Stepped
    on : Host → Stepped

  -- an arrival; a rid that arrives twice breaks row 14
  abbrev pub after_arrival : Host → (rid prog a b : ℕ) → Host
  after_arrival h r prog a b = record {
    state = arrived M h.state r prog a b;
    trace = h.trace ++ (Request r prog a b ∷ []);
    operations = h.operations;
  }

  abbrev pub arrive : Host → (rid prog a b : ℕ) → Phase M → Stepped
  arrive h r prog a b absent = on (after_arrival h r prog a b)
  arrive h r prog a b (opened p k) = broken
  arrive h r prog a b (closed w n) = broken

  -- an operation, and a reply or cut
  abbrev pub after_operation : Host → State M → Host
  after_operation h s = record { state = s; trace = h.trace; operations = suc h.operations }

  abbrev pub after_reply : Host → State M → (rid status value : ℕ) → Host
  after_reply h s r status value =
      record { state = s; trace = h.trace ++ (Response r status value ∷ []); operations = h.operations }

  -- known: the programs that there are; most_operations: of a batch
  module _ (known : ℕ → Bool) (most_operations : ℕ) where
    -- a turn of a rid not arrived, or an operation above the most, breaks row 14
    abbrev pub commit : Host → Turned → Stepped
    commit h missing = broken
    commit h idle = on h
    commit h (worked s) = cond (ltb h.operations most_operations) (on (after_operation h s)) broken
    commit h (finished s r status value) = on (after_reply h s r status value)

    -- an unknown program breaks row 14
    abbrev pub stepped : Host → Move → Stepped
    stepped h (Arrive r prog a b) = cond (known prog) (arrive h r prog a b (h.state.phase r)) broken
    stepped h (Turn r) = commit h (turn_of h.state r (h.state.phase r))

    -- Row 14, line by line: the run of the schedule from line n on
    abbrev pub go_on : ℕ → Stepped → (Host → Result Host) → Result Host
    go_on n broken f = fault 14 n
    go_on n (on h) f = f h

    abbrev pub run_from : ℕ → List Move → Host → Result Host
    run_from n [] h = made h
    run_from n (m ∷ ms) h = go_on n (stepped h m) (run_from (suc n) ms)

  -- ── what is written ──
  -- `of` lines in arrival order, with groups n, n + 1 and so on
  abbrev pub ofs_from : (ℕ → Phase M) → ℕ → List Event → List Of
  ofs_from phase n [] = []
  ofs_from phase n (Request r prog a b ∷ es) =
      record { rid = r; group = n; count = operations_of M (phase r) } ∷ ofs_from phase (suc n) es
  ofs_from phase n (Response r status value ∷ es) = ofs_from phase n es

  -- `log` lines by rising object, within one in order of execution
  abbrev pub batch_written : (objects : ℕ) → Host → Batch
  batch_written objects h = record {
    trace = h.trace;
    ofs = ofs_from h.state.phase 0 h.trace;
    log = logs_from h.state.logs 0 objects;
  }

  -- the run of a schedule, and the batch that it writes; a request may be left open
  abbrev pub recorded : (known : ℕ → Bool) (most_operations objects : ℕ) → (ℕ → Content) → List Move → Result Batch
  recorded known most_operations objects opening ms = and_then (run_from known most_operations 1 ms (empty opening)) (λ h. made (batch_written objects h))
