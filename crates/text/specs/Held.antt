-- What stands for a text that was read, and what the readers promise. What is lent holds anything where the text is unreadable, but for the
-- programs.
use Rattle.std.specs.Prelude.{ℕ, ◌+◌, ◌/◌, ◌%◌, ◌≤◌, ◌<◌, Bool, not, ◌||◌, eqb, List, [], ◌∷◌, ◌++◌, ◌≡◌, map, length, get_or, take, replicate, Result, Ok, Err, IsErr}
use Rattle.basics.specs.Firsts.{firsts}
use Rattle.text.specs.Formats.{most_arrivals, most_bytes, most_entries, most_instructions, most_programs, most_requests, most_responses, most_rids}
use Rattle.text.specs.Text.{Read, readable, unreadable}
use Rattle.text.specs.Programs.{no_instr, no_program, read_programs}
use Rattle.text.specs.Report.{Report}
use Rattle.text.specs.declared.programs.Program.{Program}
use Rattle.text.specs.declared.programs.Programs.{Programs}
use Rattle.text.specs.declared.reading.BadLine.{BadLine}
use Rattle.text.specs.declared.report.Of.{Of}
use Rattle.text.specs.declared.report.Entry.{Entry}
use Rattle.text.specs.declared.schedule.Arrival.{Arrival}
use Rattle.text.specs.declared.schedule.Kept.{Kept}
use Rattle.text.specs.declared.schedule.Kept.TheVariants.{Turn as TurnOf, Arrival as ArrivalAt}
use Rattle.text.specs.declared.schedule.Schedule.{Schedule}
use Rattle.text.specs.declared.schedule.Move.{Move}
use Rattle.text.specs.declared.schedule.Move.TheVariants.{Arrive, Turn}

-- what was read; or the unreadable line
unfoldable pub read_in : {A : Type 0} → Result (Unit {0}) BadLine → A → Read A
read_in (Ok u) x = readable x
read_in (Err e) x = unreadable e.line

-- the most events of a trace, items of an order (each log line and each event), and lines of a schedule, of which none is shorter than
-- the seven bytes of `turn=0`
abbrev pub most_events : ℕ
most_events = most_requests + most_responses

abbrev pub most_items : ℕ
most_items = most_entries + most_events

abbrev pub most_moves : ℕ
most_moves = most_bytes / 7

-- `of` line i of a report, of zeros past the last
abbrev pub no_of : Of
no_of = record { rid = 0; group = 0; count = 0 }

abbrev pub of_at : List Of → ℕ → Of
of_at ofs i = get_or ofs i no_of

-- a report of these `of` and `log` lines
abbrev pub report_of : List Of → List Entry → Report
report_of ofs log = record { ofs = ofs; log = log }

-- an arrival of a schedule by its place
abbrev pub no_arrival : Arrival
no_arrival = record { rid = 0; prog = 0; a = 0; b = 0 }

abbrev pub arrival_of : Arrival → Move
arrival_of x = Arrive x.rid x.prog x.a x.b

abbrev pub arrival_at : List Arrival → ℕ → Move
arrival_at arrivals i = arrival_of (get_or arrivals i no_arrival)

-- a schedule's line as it is kept: a turn, or an arrival's place
abbrev pub move_from : List Arrival → Kept → Move
move_from arrivals (TurnOf rid) = Turn rid
move_from arrivals (ArrivalAt i) = arrival_at arrivals i

-- the lines of a schedule
unfoldable pub moves_in : Schedule → List Move
moves_in x = map (move_from x.arrivals.items) x.lines.items

-- past the last line
abbrev pub no_move : Move
no_move = Turn 0

-- whether there is room for one line more, and for the numbers of an arrival
abbrev pub has_room : Schedule → Move → Bool
has_room x (Arrive rid prog a b) = not (eqb (length x.lines.items) most_moves || eqb (length x.arrivals.items) most_arrivals)
has_room x (Turn rid) = not (eqb (length x.lines.items) most_moves)

-- one line more: an arrival has its place behind the others, a turn a rid
abbrev pub with_move : Schedule → Move → Schedule
with_move x (Arrive rid prog a b) =
    record {
      lines = record { items = x.lines.items ++ ArrivalAt (length x.arrivals.items) ∷ [] };
      arrivals = record { items = x.arrivals.items ++ record { rid = rid; prog = prog; a = a; b = b } ∷ [] };
    }
with_move x (Turn rid) = record { lines = record { items = x.lines.items ++ TurnOf (rid % most_rids) ∷ [] }; arrivals = x.arrivals }

-- the rid of a turn is one
abbrev pub TurnIn : Move → Type 0
TurnIn (Arrive rid prog a b) = Unit {0}
TurnIn (Turn rid) = rid < most_rids

-- a program with just its n instructions
abbrev pub trimmed : Program → Program
trimmed p = record { number = p.number; n = p.n; code = take p.n p.code }

unfoldable pub program_at : List Program → ℕ → Program
program_at table i = trimmed (get_or table i no_program)

-- the programs that a table holds
abbrev pub table_in : Programs → List Program
table_in r = firsts (program_at r.table) r.n

-- no more instructions than there is room for, and nothing stands behind the n instructions
pub record Bounded (p : Program) : Type 0 where
  pub few : p.n ≤ most_instructions
  pub blank : (j : ℕ) → p.n ≤ j → get_or p.code j no_instr ≡ no_instr

-- a program in the table, with no instructions yet
abbrev pub blank_program : ℕ → Program
blank_program number = record { number = number; n = 0; code = replicate most_instructions no_instr }

-- no programs, which is what stands for an unreadable text
abbrev pub no_programs : Programs
no_programs = record { n = 0; table = replicate most_programs (blank_program 0) }

-- what the table holds behind the n programs is left free
pub record ProgramsIs (s : List ℕ) (r : Result (Unit {0}) BadLine) (ps : Programs) : Type 0 where
  pub read : read_in r (table_in ps) ≡ read_programs s
  pub unread : IsErr r → ps ≡ no_programs
  pub few : ps.n ≤ most_programs
  pub bounded : (i : ℕ) → i < ps.n → Bounded (get_or ps.table i no_program)
  pub room : length ps.table ≡ most_programs
