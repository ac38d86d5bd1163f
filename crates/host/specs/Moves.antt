-- What one line of the schedule does to what the host keeps. What private functions promise.
use Rattle.std.specs.Prelude.{ℕ, ◌+◌, ◌%◌, ◌≤◌, ◌<◌, ◌≡◌, ◌≢◌, ◌⊎◌, true, false, List, [], ◌∷◌, ◌++◌, length, slice_index_or, slice_set, Result, IsOk, IsErr, MatchResult}
use Rattle.arrayvec.specs.ArrayVec.{ArrayVec, with_item}
use Rattle.text.specs.Formats.{most_entries, most_ofs, most_programs, most_requests, most_rids}
use Rattle.text.specs.Held.{most_events, of_at}
use Rattle.text.specs.declared.programs.Program.{Program}
use Rattle.text.specs.declared.programs.Programs.{Programs}
use Rattle.text.specs.declared.report.Entry.{Entry}
use Rattle.text.specs.declared.report.Of.{Of}
use Rattle.text.specs.declared.report.Op.{Op}
use Rattle.text.specs.declared.schedule.Move.{Move}
use Rattle.text.specs.declared.schedule.Move.TheVariants.{Arrive, Turn}
use Rattle.text.specs.declared.trace.Event.TheVariants.{Request, Response}
use Rattle.machine.specs.Held.{Performs}
use Rattle.machine.specs.Instance.{code_at}
use Rattle.machine.specs.Objects.{shown}
use Rattle.machine.specs.Processes.{Advanced, first_locals, limit, advance_of, resumed}
use Rattle.machine.specs.declared.objects.Objects.{Objects}
use Rattle.machine.specs.declared.processes.Next.{Next}
use Rattle.machine.specs.declared.processes.Next.TheVariants.{Operation, Reply, Cut}
use Rattle.host.specs.Requests.{state_at, Stands}
use Rattle.host.specs.declared.requests.Standing.{Standing}
use Rattle.host.specs.declared.requests.Standing.TheVariants.{Missing, Idle, Open}
use Rattle.host.specs.declared.requests.State.{State}
use Rattle.host.specs.declared.runs.Breaks.{Breaks}
use Rattle.host.specs.declared.runs.Run.{Run}

-- one record more
abbrev pub joined : {T : Type 0} → ArrayVec T → T → ArrayVec T
joined v x = record { items = v.items ++ x ∷ [] }

-- the slot of a rid
abbrev pub slot_in : List ℕ → (rid : ℕ) → ℕ
slot_in slots rid = slice_index_or slots (rid % most_rids) 0

-- the `of` line of the request in slot s, which is its group
abbrev pub of_line : (rid s count : ℕ) → Of
of_line rid s count = record { rid = rid; group = s; count = count }

-- ── an arrival: the request opens in the next slot ──
abbrev pub begun : (prog a b : ℕ) → State
begun prog a b = record { is_open = true; prog = prog; at = 0; done = 0; locals = first_locals a b }

abbrev pub arrived : (rid prog a b : ℕ) → Run → Run
arrived rid prog a b h =
    let s = length h.states.items in
    record {
      slots = slice_set h.slots (rid % most_rids) (s + 1);
      states = joined h.states (begun prog a b);
      trace = joined h.trace (Request rid prog a b);
      ofs = joined h.ofs (of_line rid s 0);
      log = h.log;
      objects = h.objects;
    }

pub record ArriveRoom (before : Run) : Type 0 where
  pub states : length before.states.items < most_requests
  pub ofs : length before.ofs.items < most_ofs
  pub trace : length before.trace.items < most_events

-- an unknown program, or a rid that has arrived, breaks row 14
abbrev pub ArriveIs : (n rid prog a b : ℕ) → (before after : Run) → Result Unit Breaks → Type 0
ArriveIs n rid prog a b before after r =
    MatchResult r
    (λ _. (prog < n) × (slot_in before.slots rid ≡ 0) × (after ≡ arrived rid prog a b before))
    (λ _. (n ≤ prog) ⊎ (slot_in before.slots rid ≢ 0))

-- ── a turn of the request in slot s, whose state is x when it has gone on ──
-- its next log line
abbrev pub line_of : List Of → (s rid : ℕ) → Op → Entry
line_of ofs s rid o = record { rid = rid; num = (of_at ofs s).count + 1; op = o }

-- its `of` line with one operation more
abbrev pub counted : Of → Of
counted x = record { rid = x.rid; group = x.group; count = x.count + 1 }

-- it has come to an operation with the answer v, which leaves the objects `left`
abbrev pub operated : (s rid : ℕ) → State → Op → (into v : ℕ) → (left : Objects) → Run → Run
operated s rid x o into v left h =
    record {
      slots = h.slots;
      states =
          with_item h.states s
          (record { is_open = x.is_open; prog = x.prog; at = x.at; done = x.done; locals = resumed x.locals into v });
      trace = h.trace;
      ofs = with_item h.ofs s (counted (of_at h.ofs.items s));
      log = joined h.log (line_of h.ofs.items s rid (shown o v));
      objects = left;
    }

pub record Operated (s rid : ℕ) (x : State) (o : Op) (into : ℕ) (before after : Run) : Type 0 where
  pub few : length before.log.items < most_entries
  pub answer : ℕ
  pub left : Objects
  pub performs : Performs before.objects o left answer
  pub rest : after ≡ operated s rid x o into answer left before

-- there are no more operations than a report has room for
abbrev pub OperateIs : (s rid : ℕ) → State → Op → (into : ℕ) → (before after : Run) → Result Unit Breaks → Type 0
OperateIs s rid x o into before after r =
    MatchResult r (λ _. Operated s rid x o into before after) (λ _. most_entries ≤ length before.log.items)

pub record OperateRoom (s : ℕ) (before : Run) : Type 0 where
  pub state : s < length before.states.items
  pub own : s < length before.ofs.items
  pub few : (of_at before.ofs.items s).count ≤ length before.log.items

-- it has come to its reply or cut, and closes
abbrev pub replied : (s rid : ℕ) → State → (status value : ℕ) → Run → Run
replied s rid x status value h =
    record {
      slots = h.slots;
      states =
          with_item h.states s (record { is_open = false; prog = x.prog; at = x.at; done = x.done; locals = x.locals });
      trace = joined h.trace (Response rid status value);
      ofs = h.ofs;
      log = h.log;
      objects = h.objects;
    }

abbrev pub ReplyIs : (s rid : ℕ) → State → (status value : ℕ) → (before after : Run) → Result Unit Breaks → Type 0
ReplyIs s rid x status value before after r = IsOk r × (after ≡ replied s rid x status value before)

abbrev pub NextIs : Next → (s rid : ℕ) → State → (before after : Run) → Result Unit Breaks → Type 0
NextIs (Operation o into) s rid x before after r = OperateIs s rid x o into before after r
NextIs (Reply v) s rid x before after r = ReplyIs s rid x 0 v before after r
NextIs Cut s rid x before after r = ReplyIs s rid x 1 0 before after r

-- a request gone on by the programs of a table, and its state then
abbrev pub went_on : List Program → State → Advanced
went_on table x = advance_of limit (code_at table x.prog) x.locals x.at x.done

abbrev pub gone_on : State → Advanced → State
gone_on x w = record { is_open = x.is_open; prog = x.prog; at = w.stop.at; done = w.stop.done; locals = w.locals }

abbrev pub TurnIs : List Program → (s rid : ℕ) → (before after : Run) → Result Unit Breaks → Type 0
TurnIs table s rid before after r =
    let x = state_at before.states.items s in
    let w = went_on table x in
    NextIs w.stop.next s rid (gone_on x w) before after r

pub record TurnRoom (s : ℕ) (before : Run) : Type 0 where
  pub operate : OperateRoom s before
  pub trace : length before.trace.items < most_events
  pub program : (state_at before.states.items s).prog < most_programs

-- ── a line ──
abbrev pub StandIs : Standing → List Program → (rid : ℕ) → (before after : Run) → Result Unit Breaks → Type 0
StandIs Missing table rid before after r = IsErr r
StandIs Idle table rid before after r = IsOk r × (after ≡ before)
StandIs (Open s) table rid before after r = TurnIs table s rid before after r

pub record StandsSo (table : List Program) (rid : ℕ) (before after : Run) (r : Result Unit Breaks) : Type 0 where
  pub standing : Standing
  pub found : Stands before.states.items (slot_in before.slots rid) standing
  pub so : StandIs standing table rid before after r

abbrev pub StepIs : Programs → Move → (before after : Run) → Result Unit Breaks → Type 0
StepIs programs (Arrive rid prog a b) before after r = ArriveIs programs.n rid prog a b before after r
StepIs programs (Turn rid) before after r = StandsSo programs.table rid before after r

abbrev pub StepRoom : Move → Run → Type 0
StepRoom (Arrive rid prog a b) before = ArriveRoom before
StepRoom (Turn rid) before = (s : ℕ) → Stands before.states.items (slot_in before.slots rid) (Open s) → TurnRoom s before
