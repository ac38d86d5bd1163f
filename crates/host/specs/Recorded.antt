-- The reference host on texts: its checks in the order of the scope (1, 2, 13, then 14 line by line, 16), what it writes, and its result.
use Rattle.std.specs.Prelude.{ℕ, ◌||◌, List, [], ◌∷◌, ◌++◌, ◌≡◌, ltb, length}
use Rattle.std.proofs.Math.Option.{Option}
use Rattle.lines.specs.Put.{front}
use Rattle.text.specs.Formats.{most_entries, most_objects}
use Rattle.text.specs.Programs.{read_programs, known}
use Rattle.text.specs.Written.{report_text, trace_text}
use Rattle.text.specs.Schedule.{read_schedule}
use Rattle.text.specs.Text.{Read}
use Rattle.text.specs.declared.programs.Program.{Program}
use Rattle.text.specs.declared.schedule.Move.{Move}
use Rattle.model.specs.Batch.{Batch}
use Rattle.model.specs.Checks.{check, breaks, fault_or, unless_fault, bad_line, contents}
use Rattle.model.specs.Host.{Result, fault, made, and_then, recorded}
use Rattle.machine.specs.Front.{program_checks}
use Rattle.machine.specs.Instance.{machine_of}
use Rattle.machine.specs.Objects.{Content, at_start}
use Rattle.host.specs.declared.Recorded.{Recorded}

-- Row 14: the run of a schedule from contents at the start, which makes a batch. It has at most as many operations as a report has room for.
abbrev pub run_of : (opening : ℕ → Content) → List Program → List Move → Result Batch
run_of opening table moves = recorded (machine_of table) (known table) most_entries most_objects opening moves

-- rows 1, 2 and 13, and then the run, where `programs` and `schedule` are what was read
abbrev pub batch_from : (opening : ℕ → Content) → Read (List Program) → Read (List Move) → Result Batch
batch_from opening programs schedule =
    unless_fault fault (program_checks programs ++ (check 13 (bad_line schedule) ∷ [])) (run_of opening (contents [] programs) (contents [] schedule))

unfoldable pub batch_recorded : (programs schedule : List ℕ) → Result Batch
batch_recorded programs schedule = batch_from at_start (read_programs programs) (read_schedule schedule)

-- the two texts of a batch
pub record Texts : Type 0 where
  pub trace : List ℕ
  pub report : List ℕ

abbrev pub texts_of : Batch → Texts
texts_of b = record { trace = trace_text b.trace; report = report_text (record { ofs = b.ofs; log = b.log }) }

-- Row 16: a lent buffer is too short for its text.
abbrev pub row16 : (room_for_trace room_for_report : ℕ) → Texts → Option ℕ
row16 m n t = breaks (ltb m (length t.trace) || ltb n (length t.report)) 0

abbrev pub fitted : (room_for_trace room_for_report : ℕ) → Texts → Result Texts
fitted m n t = fault_or fault 16 (row16 m n t) (made t)

-- what the host makes of programs and a schedule, with so much room for the two texts
unfoldable pub record_of : (programs schedule : List ℕ) → (room_for_trace room_for_report : ℕ) → Result Texts
record_of programs schedule m n = and_then (batch_recorded programs schedule) (λ b. fitted m n (texts_of b))

-- its numbers: verdict 0 and the lengths of the texts; or the verdict with its line
abbrev pub result_of : Result Texts → Recorded
result_of (fault number line) = record { verdict = number; line = line; trace_len = 0; report_len = 0 }
result_of (made t) = record { verdict = 0; line = 0; trace_len = length t.trace; report_len = length t.report }

-- what is written into each buffer: nothing on a refusal
abbrev pub written_of : Result Texts → Texts
written_of (fault number line) = record { trace = []; report = [] }
written_of (made t) = t

-- the result, and the two buffers afterwards: each text over the front of what its buffer held
pub record RecordIs (x : Result Texts) (trace report trace_after report_after : List ℕ) (r : Recorded) : Type 0 where
  pub result : r ≡ result_of x
  pub trace_bytes : trace_after ≡ front (written_of x).trace trace
  pub report_bytes : report_after ≡ front (written_of x).report report
