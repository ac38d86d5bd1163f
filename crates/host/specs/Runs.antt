-- The run of a schedule, and the model's host whose state is kept. What private functions promise.
use Rattle.std.specs.Prelude.{ℕ, zero, suc, ◌+◌, ◌≤◌, ◌<◌, cond, List, [], ◌∷◌, ◌≡◌, length, map, replicate, take, slice_index_or, Result as Answer, Ok, Err}
use Rattle.basics.specs.Lists.{All}
use Rattle.basics.specs.Count.{count}
use Rattle.text.specs.Formats.{most_entries, most_arrivals, most_objects, most_programs, most_requests, most_rids}
use Rattle.text.specs.Held.{Bounded, moves_in, of_at}
use Rattle.text.specs.Programs.{no_program, known}
use Rattle.text.specs.Schedule.{is_arrive}
use Rattle.text.specs.declared.programs.Program.{Program}
use Rattle.text.specs.declared.programs.Programs.{Programs}
use Rattle.text.specs.declared.report.Of.{Of}
use Rattle.text.specs.declared.schedule.Move.TheVariants.{Arrive, Turn}
use Rattle.text.specs.declared.schedule.Move.{Move}
use Rattle.text.specs.declared.schedule.Schedule.{Schedule}
use Rattle.text.specs.declared.trace.Event.TheVariants.{Request, Response}
use Rattle.text.specs.declared.trace.Event.{Event}
use Rattle.model.specs.Batch.{Batch}
use Rattle.model.specs.Host.{Host, Result, fault, made, empty, run_from, and_then, logs_from}
use Rattle.model.specs.Machine.{Machine}
use Rattle.model.specs.PlainRun.{Phase, absent, opened, closed}
use Rattle.machine.specs.Instance.{machine_of}
use Rattle.cells.specs.Rows.{most_cells}
use Rattle.machine.specs.Held.{ObjectsHeld, no_objects}
use Rattle.machine.specs.Objects.{Content}
use Rattle.text.specs.declared.reading.BadLine.{BadLine}
use Rattle.host.specs.Recorded.{run_of, Texts, texts_of, fitted}
use Rattle.host.specs.Requests.{state_at}
use Rattle.host.specs.Steps.{lines_of}
use Rattle.host.specs.declared.requests.State.{State}
use Rattle.host.specs.declared.runs.Run.{Run}

-- ── a request as it is kept: all of the model's phase but the path ──
pub data Seen : Type 0 where
  missing : Seen
  going : (prog : ℕ) (locals : List ℕ) (at done operations : ℕ) → Seen
  over : (operations : ℕ) → Seen

-- in a state, with its operations so far
abbrev pub seen_state : State → ℕ → Seen
seen_state x k = cond x.is_open (going x.prog x.locals x.at x.done k) (over k)

-- in a slot that counts from 1
abbrev pub seen_slot : List State → List Of → ℕ → Seen
seen_slot states ofs zero = missing
seen_slot states ofs (suc s) = seen_state (state_at states s) (of_at ofs s).count

-- the rids of a trace's requests
abbrev pub rids_of : List Event → List ℕ
rids_of [] = []
rids_of (Request r prog a b ∷ es) = r ∷ rids_of es
rids_of (Response r status value ∷ es) = rids_of es

-- slot s is that of a request whose rid has it, its program among the n that are known, and at most k operations
pub record SlotIs (n : ℕ) (slots : List ℕ) (states : List State) (ofs : List Of) (k s : ℕ) : Type 0 where
  pub rid : (of_at ofs s).rid < most_rids
  pub slot : slice_index_or slots (of_at ofs s).rid 0 ≡ suc s
  pub group : (of_at ofs s).group ≡ s
  pub few : (of_at ofs s).count ≤ k
  pub program : (state_at states s).prog < n

module _ (table : List Program) where
  abbrev pub M : Machine
  M = machine_of table

  abbrev pub seen : Phase M → Seen
  seen absent = missing
  seen (opened p k) = going p.prog p.locals p.at p.done k
  seen (closed w k) = over k

  -- the requests, with k operations in all
  pub record RequestsIs (slots : List ℕ) (states : List State) (ofs : List Of) (k : ℕ) (phase : ℕ → Phase M) (trace : List Event) :
      Type 0 where
    pub slots_room : length slots ≡ most_rids
    pub as_many : length states ≡ length ofs
    pub few : length ofs ≤ most_requests
    pub phases : (r : ℕ) → r < most_rids → seen (phase r) ≡ seen_slot states ofs (slice_index_or slots r 0)
    pub owner : (r s : ℕ) → r < most_rids → slice_index_or slots r 0 ≡ suc s → (s < length ofs) × ((of_at ofs s).rid ≡ r)
    pub rows : (s : ℕ) → s < length ofs → SlotIs (length table) slots states ofs k s
    pub arrived : rids_of trace ≡ map (λ x. x.rid) ofs

-- ── the run ──
abbrev pub RidIn : Move → Type 0
RidIn (Arrive r prog a b) = r < most_rids
RidIn (Turn r) = r < most_rids

abbrev pub ran_from : (table : List Program) (line : ℕ) → List Move → Host (M table) → Result (Host (M table))
ran_from table line ms h = run_from (M table) (known table) most_entries line ms h

abbrev pub ran : (opening : ℕ → Content) (table : List Program) → List Move → Result (Host (M table))
ran opening table ms = ran_from table 1 ms (empty (M table) opening)

-- rows 14 and 16
abbrev pub recorded_moves : (opening : ℕ → Content) → List Program → List Move → (room_for_trace room_for_report : ℕ) → Result Texts
recorded_moves opening table ms m n = and_then (run_of opening table ms) (λ b. fitted m n (texts_of b))

-- the programs as they stand in their table, with blank instructions behind each program's own
abbrev pub full_table : Programs → List Program
full_table programs = take programs.n programs.table

-- what is known of programs that were read, and of a schedule
pub record Known (programs : Programs) : Type 0 where
  pub room : length programs.table ≡ most_programs
  pub few : programs.n ≤ most_programs
  pub bounded : (i : ℕ) → i < programs.n → Bounded (slice_index_or programs.table i no_program)

pub record Scheduled (moves : List Move) : Type 0 where
  pub rids : All RidIn moves
  pub arrivals_few : count is_arrive moves ≤ most_arrivals

-- before the first line
abbrev pub blank : Run
blank =
    record {
      slots = replicate most_rids 0;
      states = record { items = [] };
      trace = record { items = [] };
      ofs = record { items = [] };
      log = record { items = [] };
      objects = no_objects;
    }

-- and nothing is kept but objects, which hold some contents and leave room for a cell of each operation
pub record Ready (programs : Programs) (schedule : Schedule) (before : Run) : Type 0 where
  pub programs_known : Known programs
  pub scheduled : Scheduled (moves_in schedule)
  pub nothing : before ≡ record blank { objects = before.objects }
  pub opening : ℕ → Content
  pub held : ObjectsHeld before.objects opening
  pub few_cells : before.objects.stores.used + most_entries ≤ most_cells

-- the batch of what is kept at the end, its log by rising object
abbrev pub batch_kept : Run → Batch
batch_kept x = record { trace = x.trace.items; ofs = x.ofs.items; log = logs_from (lines_of x.log.items) 0 most_objects }

module _ (opening : ℕ → Content) (table : List Program) (moves : List Move) where
  -- the state of the host behind the whole schedule is kept
  pub record Finished (after : Run) : Type 0 where
    pub host : Host (M table)
    pub made_it : ran opening table moves ≡ made host
    pub requests :
        RequestsIs table after.slots after.states.items after.ofs.items (length after.log.items) host.state.phase host.trace
    pub events_held : after.trace.items ≡ host.trace
    pub lines : (o : ℕ) → host.state.logs o ≡ lines_of after.log.items o

  unfoldable pub RunIs : (after : Run) → Answer Unit BadLine → Type 0
  RunIs after (Err e) = ran opening table moves ≡ fault 14 e.line
  RunIs after (Ok _) = Finished after

-- from the objects that are kept before it
abbrev pub RunsFrom : Programs → Schedule → (before after : Run) → Answer Unit BadLine → Type 0
RunsFrom programs schedule before after r =
    (opening : ℕ → Content) → ObjectsHeld before.objects opening → RunIs opening (full_table programs) (moves_in schedule) after r
