-- What the private functions of this crate promise. The public contracts do not need it.
use Rattle.std.specs.Prelude.{ℕ, List, Result, Ok, Err}
use Rattle.arrayvec.specs.ArrayVec.{ArrayVec}
use Rattle.text.specs.declared.report.Entry.{Entry}
use Rattle.text.specs.declared.report.Of.{Of}
use Rattle.text.specs.declared.trace.Event.{Event}
use Rattle.model.specs.Batch.{Batch, log_of}
use Rattle.host.specs.declared.Recorded.{Recorded}
use Rattle.host.specs.declared.outputs.Written.{Written}
use Rattle.host.specs.declared.refusals.Refusal.{Refusal}
use Rattle.host.specs.declared.refusals.Refusal.TheVariants.{Programs, Rules, Schedule, Run, Short}

-- the batch of these lines
abbrev pub batch_in : ArrayVec Event → ArrayVec Of → ArrayVec Entry → Batch
batch_in trace ofs log = record { trace = trace.items; ofs = ofs.items; log = log.items }

-- the lines of each object
abbrev pub lines_of : List Entry → (object : ℕ) → List Entry
lines_of log object = log_of object log

-- the number of a row that does not hold, and its line
abbrev pub number_of : Refusal → ℕ
number_of (Programs e) = 1
number_of (Rules e) = 2
number_of (Schedule e) = 13
number_of (Run e) = 14
number_of Short = 16

abbrev pub line_of : Refusal → ℕ
line_of (Programs e) = e.line
line_of (Rules e) = e.line
line_of (Schedule e) = e.line
line_of (Run e) = e.line
line_of Short = 0

-- the numbers of what was written, or of a refusal
abbrev pub recorded_of : Result Written Refusal → Recorded
recorded_of (Ok w) = record { verdict = 0; line = 0; trace_len = w.trace; report_len = w.report }
recorded_of (Err r) = record { verdict = number_of r; line = line_of r; trace_len = 0; report_len = 0 }
