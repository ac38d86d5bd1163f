-- What the private functions of this crate promise. The public contracts do not need it.
use Rattle.std.specs.Prelude.{ℕ, ◌+◌, ◌≤◌, ◌<◌, List, map, ◌≢◌, ◌≡◌, ltb, length, get_or, take, Result, Ok, Err}
use Rattle.std.proofs.Math.Option.{Option, none, some}
use Rattle.basics.specs.Count.{count}
use Rattle.text.specs.Formats.{most_programs}
use Rattle.text.specs.Held.{Bounded, table_in}
use Rattle.text.specs.Programs.{no_program, known, read_programs}
use Rattle.text.specs.Report.{Report, no_lines, read_report}
use Rattle.text.specs.Text.{Read, readable}
use Rattle.text.specs.Trace.{is_request}
use Rattle.text.specs.declared.programs.Program.{Program}
use Rattle.text.specs.declared.programs.Programs.{Programs}
use Rattle.text.specs.declared.report.Entry.{Entry}
use Rattle.text.specs.declared.report.Of.{Of}
use Rattle.text.specs.declared.trace.Event.{Event}
use Rattle.model.specs.Audit.{from6, from4}
use Rattle.model.specs.Requests.{row4, row6}
use Rattle.model.specs.Claims.{row7}
use Rattle.model.specs.Batch.{Batch, batch_of}
use Rattle.model.specs.Checks.{first_fault, contents}
use Rattle.machine.specs.Front.{program_checks}
use Rattle.machine.specs.Instance.{machine_of}
use Rattle.machine.specs.Objects.{Content}
use Rattle.machine.specs.Rules.{row2}
use Rattle.model.specs.ByRule.{item_of}
use Rattle.model.specs.PlainRun.{Item}
use Rattle.lines.specs.Put.{PutIs}
use Rattle.replay.specs.Held.{node_at}
use Rattle.replay.specs.Judges.{Orders}
use Rattle.replay.specs.declared.batch.Fault.{Fault}
use Rattle.verifier.specs.Faults.{audited, audited_of, audit_of}
use Rattle.verifier.specs.Order.{order_of, order_numbers}
use Rattle.verifier.specs.declared.Audited.{Audited}
use Rattle.verifier.specs.declared.orders.Ordered.{Ordered}

-- ── the audit from one text to the next ──
abbrev pub refusal : (verdict line : ℕ) → Audited
refusal verdict line = record { verdict = verdict; line = line; requests = 0; operations = 0; blocks = 0; rest = 0 }

-- the fault of a row at the line that breaks it, if one does
abbrev pub fault_at : (row : ℕ) → Option ℕ → Result (Unit {0}) Fault
fault_at row none = Ok tt
fault_at row (some line) = Err (record { row = row; line = line })

-- the audit from row 6 on, and from row 4 on
abbrev pub audited_report : (opening : ℕ → Content) → List Program → List Event → Report → Audited
audited_report opening table events lines =
    audited (first_fault (from6 (machine_of table) opening (batch_of events lines))) (count is_request events) (length lines.log)

abbrev pub audited_trace : (opening : ℕ → Content) → List Program → List Event → Read Report → Audited
audited_trace opening table events report =
    audited
    (first_fault (from4 (machine_of table) opening (known table) events report))
    (count is_request events)
    (length (contents no_lines report).log)

-- ── programs as far as row 2 ──
-- programs that were read, of which row 2 does not hold
pub record ProgramsHeld (programs : List ℕ) (ps : Programs) : Type 0 where
  pub read : read_programs programs ≡ readable (table_in ps)
  pub rules : row2 (table_in ps) ≡ none
  pub few : ps.n ≤ most_programs
  pub bounded : (i : ℕ) → i < ps.n → Bounded (get_or ps.table i no_program)

-- rows 1 and 2: a refusal, which is that of any trace, any report and any contents at the start, or programs that stand in the table
abbrev pub ProgramsChecked : (programs : List ℕ) → Programs → Result (Unit {0}) Fault → Type 0
ProgramsChecked programs ps (Err f) =
    (f.row ≢ 0)
    × ((opening : ℕ → Content) (trace : Read (List Event)) (report : Read Report) →
    refusal f.row f.line ≡ audited_of opening (read_programs programs) trace report)
ProgramsChecked programs ps (Ok u) = ProgramsHeld programs ps

-- ── a batch as far as row 7 ──
-- neither row 6 nor row 7 holds
pub record Unbroken (events : List Event) (lines : Report) : Type 0 where
  pub row6_none : row6 (batch_of events lines) ≡ none
  pub row7_none : row7 (batch_of events lines) ≡ none

-- a report that was read, where no row from 4 to 7 holds
pub record BatchHeld (k : ℕ) (report : List ℕ) (events : List Event) (lines : Report) : Type 0 where
  pub lines4 : row4 (λ prog. ltb prog k) events ≡ none
  pub read : read_report report ≡ readable lines
  pub unbroken : Unbroken events lines

-- rows 4 to 7: a refusal, which is that of any k programs, or a batch that was read
abbrev pub BatchChecked : (k : ℕ) → List Event → (report : List ℕ) → List Of → List Entry → Result (Unit {0}) Fault → Type 0
BatchChecked k events report ofs log (Err f) =
    (f.row ≢ 0)
    × ((opening : ℕ → Content) (table : List Program) → length table ≡ k →
    refusal f.row f.line ≡ audited_trace opening table events (read_report report))
BatchChecked k events report ofs log (Ok u) = BatchHeld k report events (record { ofs = ofs; log = log })

-- ── the order ──
-- the items at places, of a batch
abbrev pub items_in : Batch → (order : List ℕ) → List Item
items_in b order = map item_of (map (node_at b) order)

-- how many items a batch has
abbrev pub size_of : Batch → ℕ
size_of b = length b.log + length b.trace

-- such items are the order of a batch: as many as it has, and those at any places that order it
pub record OrderIs (b : Batch) (items : List Item) : Type 0 where
  pub all : length items ≡ size_of b
  pub placed : (order : List ℕ) → size_of b ≤ length order → Orders b order → items_in b (take (size_of b) order) ≡ items

-- a refusal, which leaves the buffer, or an acceptance with its order in front of it
abbrev pub OrderedIs : (programs trace report before after : List ℕ) → Result Ordered Fault → Type 0
OrderedIs programs trace report before after (Err f) =
    (f.row ≢ 0) × (refusal f.row f.line ≡ audit_of programs trace report) × (after ≡ before)
OrderedIs programs trace report before after (Ok o) =
    (o.audited ≡ audit_of programs trace report)
    × PutIs (order_numbers 1 (order_of programs trace report)) before after o.order
