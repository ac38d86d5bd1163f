-- What the private functions of this crate promise. The public contracts do not need it.
use Rattle.std.specs.Prelude.{ℕ, ◌+◌, ◌*◌, ◌≤◌, ◌<◌, Bool, true, false, List, [], ◌∷◌, ◌++◌, drop, get_or, set, length, ◌≡◌, Some, None}
use Rattle.std.specs.Prelude.{Option as Answer}
use Rattle.std.proofs.Math.Option.{Option, some, none}
use Rattle.basics.specs.Count.{count}
use Rattle.basics.specs.Lists.{All}
use Rattle.lines.specs.Place.{Found, found, nothing, line, line_end}
use Rattle.text.specs.Codes.{is_operation}
use Rattle.text.specs.Formats.{most_bytes, most_arrivals, most_entries, most_instructions, most_ofs, most_programs, most_requests, most_responses}
use Rattle.text.specs.Held.{Bounded, arrival_of, moves_in, table_in}
use Rattle.text.specs.Text.{Kind, add_line, within}
use Rattle.text.specs.Programs.{no_program, instr_from, begun, add_do}
use Rattle.text.specs.Trace.{is_request, is_response}
use Rattle.text.specs.Report.{Report, of_from, entry_from}
use Rattle.text.specs.Schedule.{is_arrive}
use Rattle.text.specs.declared.trace.Event.{Event}
use Rattle.text.specs.declared.trace.Event.TheVariants.{Request, Response}
use Rattle.text.specs.declared.report.ReportLine.{ReportLine}
use Rattle.text.specs.declared.report.ReportLine.TheVariants.{Group, Log}
use Rattle.text.specs.declared.schedule.Move.{Move}
use Rattle.text.specs.declared.schedule.Move.TheVariants.{Turn}
use Rattle.text.specs.declared.schedule.ScheduleLine.{ScheduleLine}
use Rattle.text.specs.declared.schedule.ScheduleLine.TheVariants.{Arrive as Arrived, Turn as Turned}
use Rattle.text.specs.declared.schedule.Schedule.{Schedule}
use Rattle.text.specs.declared.schedule.Kept.{Kept}
use Rattle.text.specs.declared.schedule.Kept.TheVariants.{Turn as TurnOf, Arrival as ArrivalAt}
use Rattle.text.specs.declared.programs.Instr.{Instr}
use Rattle.text.specs.declared.programs.Program.{Program}
use Rattle.text.specs.declared.programs.Programs.{Programs}
use Rattle.text.specs.declared.programs.ProgramLine.{ProgramLine}
use Rattle.text.specs.declared.programs.ProgramLine.TheVariants.{Program as Begin, Do}

-- what a line of a text adds to what was read, by the line's record
abbrev pub Adds : Type 0 → Type 0 → Type 0
Adds L S = L → S → Option S

module _ {L S : Type 0} (ks : List (Kind S)) (adds : Adds L S) (least : ℕ) (s : List ℕ) (at : ℕ) where
  -- the line x stands at a place and ends at e, with so many bytes at least
  pub record Stands (x : L) (e : ℕ) : Type 0 where
    pub end : e ≡ line_end s at
    pub long : at + least ≤ e + 1
    pub added : (y : S) → add_line ks y (line (drop at s)) ≡ adds x y

  -- what reading a line answers
  abbrev pub LineIs : Answer (L × ℕ) → Type 0
  LineIs None = (y : S) → add_line ks y (line (drop at s)) ≡ none
  LineIs (Some (x, e)) = Stands x e

-- what reading a line of one format answers, by the record of its numbers
abbrev pub line_by : {L : Type 0} → (List ℕ → L) → Found → Answer (L × ℕ)
line_by from (found vs e) = Some (from vs, e)
line_by from nothing = None

-- whether a line joined: what was to come is y, and what is to hold of it holds; or nothing was to come
abbrev pub AddIs : {S : Type 0} → Option S → S → Type 0 → Bool → Type 0
AddIs o y K true = (o ≡ some y) × K
AddIs o y K false = o ≡ none

-- ── the trace ──
abbrev pub event_adds : Adds Event (List Event)
event_adds (Request rid prog a b) es = within (count is_request es) most_requests (es ++ Request rid prog a b ∷ [])
event_adds (Response rid status value) es = within (count is_response es) most_responses (es ++ Response rid status value ∷ [])

-- how many of each there are
pub record Counted (es : List Event) (requests responses : ℕ) : Type 0 where
  pub asks : count is_request es ≡ requests
  pub answers : count is_response es ≡ responses
  pub few_requests : requests ≤ most_requests
  pub few_responses : responses ≤ most_responses

-- ── the report ──
abbrev pub report_adds : Adds ReportLine Report
report_adds (Group x) r =
    elim r.log [
      | [] ↦ within (length r.ofs) most_ofs (record { ofs = r.ofs ++ x ∷ []; log = [] })
      | l ∷ ls ↦ none
    ]
report_adds (Log x) r =
    elim (is_operation x.op.kind) [
      | true ↦ within (length r.log) most_entries (record { ofs = r.ofs; log = r.log ++ x ∷ [] })
      | false ↦ none
    ]

abbrev pub group_from : List ℕ → ReportLine
group_from v = Group (of_from v)

abbrev pub log_from : List ℕ → ReportLine
log_from v = Log (entry_from v)

-- ── the schedule ──
-- an arrival and a turn by their numbers, and as moves
abbrev pub arrived_from : List ℕ → ScheduleLine
arrived_from v = Arrived (record { rid = get_or v 0 0; prog = get_or v 1 0; a = get_or v 2 0; b = get_or v 3 0 })

abbrev pub turned_from : List ℕ → ScheduleLine
turned_from v = Turned (get_or v 0 0)

abbrev pub schedule_adds : Adds ScheduleLine (List Move)
schedule_adds (Arrived x) ms = within (count is_arrive ms) most_arrivals (ms ++ arrival_of x ∷ [])
schedule_adds (Turned rid) ms = some (ms ++ Turn rid ∷ [])

-- a kept line's place is below n
abbrev pub PlaceBelow : ℕ → Kept → Type 0
PlaceBelow n (TurnOf rid) = Unit {0}
PlaceBelow n (ArrivalAt i) = i < n

-- a schedule that is being filled: each arrival's line has its place, and the lines are short enough for all of them to be kept
pub record ScheduleKept (x : Schedule) (at : ℕ) : Type 0 where
  pub comes : count is_arrive (moves_in x) ≡ length x.arrivals.items
  pub places : All (PlaceBelow (length x.arrivals.items)) x.lines.items
  pub bytes : 7 * length x.lines.items ≤ at

-- a line joins the schedule x, which is y then, or may not stand behind it
abbrev pub ScheduleJoins : ScheduleLine → (x y : Schedule) → Bool → Type 0
ScheduleJoins l x y b =
    (at end : ℕ) → ScheduleKept x at → at + 7 ≤ end → end ≤ most_bytes → AddIs (schedule_adds l (moves_in x)) (moves_in y) (ScheduleKept y end) b

-- ── the programs ──
abbrev pub program_adds : Adds ProgramLine (List Program)
program_adds (Begin number) ps = within (length ps) most_programs (ps ++ begun number ∷ [])
program_adds (Do x) ps = add_do ps (x.code ∷ x.a ∷ x.b ∷ x.c ∷ [])

abbrev pub program_from : List ℕ → ProgramLine
program_from v = Begin (get_or v 0 0)

abbrev pub do_from : List ℕ → ProgramLine
do_from v = Do (instr_from v)

-- a program with one instruction more in its array
abbrev pub grown : Program → Instr → Program
grown p x = record { number = p.number; n = p.n + 1; code = set p.code p.n x }

-- a table that is being filled
pub record Filling (ps : Programs) : Type 0 where
  pub few : ps.n ≤ most_programs
  pub bounded : (i : ℕ) → i < ps.n → Bounded (get_or ps.table i no_program)
  pub sized : (i : ℕ) → i < ps.n → length (get_or ps.table i no_program).code ≡ most_instructions
  pub room : length ps.table ≡ most_programs

-- a line joins the programs ps, which are qs then, or may not stand behind them
abbrev pub ProgramJoins : ProgramLine → (ps qs : Programs) → Bool → Type 0
ProgramJoins x ps qs b = Filling ps → AddIs (program_adds x (table_in ps)) (table_in qs) (Filling qs) b
