-- A trace and a report as bytes: the numbers of each line, their ranges, and the lines one behind the other.
use Rattle.std.specs.Prelude.{ℕ, true, List, [], ◌∷◌, ◌++◌, ◌≡◌}
use Rattle.lines.specs.Line.{Format, InRanges}
use Rattle.lines.specs.LineText.{line_text}
use Rattle.text.specs.Codes.{is_operation}
use Rattle.text.specs.Formats.{request_line, response_line, of_line, log_line}
use Rattle.text.specs.Report.{Report}
use Rattle.text.specs.declared.report.Entry.{Entry}
use Rattle.text.specs.declared.report.Of.{Of}
use Rattle.text.specs.declared.trace.Event.{Event}
use Rattle.text.specs.declared.trace.Event.TheVariants.{Request, Response}

-- lines as bytes, one behind the other
unfoldable pub lines_text : {A : Type 0} → (A → List ℕ) → List A → List ℕ
lines_text f [] = []
lines_text f (x ∷ xs) = f x ++ lines_text f xs

-- the format and the numbers of an event's line
abbrev pub event_format : Event → Format
event_format (Request rid prog a b) = request_line
event_format (Response rid status value) = response_line

abbrev pub event_numbers : Event → List ℕ
event_numbers (Request rid prog a b) = rid ∷ prog ∷ a ∷ b ∷ []
event_numbers (Response rid status value) = rid ∷ status ∷ value ∷ []

-- each field in its range
abbrev pub EventIn : Event → Type 0
EventIn e = InRanges (event_format e).largest (event_numbers e)

-- the trace as bytes
unfoldable pub event_text : Event → List ℕ
event_text e = line_text (event_format e).word (event_numbers e)

unfoldable pub trace_text : List Event → List ℕ
trace_text es = lines_text event_text es

-- the numbers of an `of` and of a `log` line
abbrev pub of_numbers : Of → List ℕ
of_numbers o = o.rid ∷ o.group ∷ o.count ∷ []

abbrev pub entry_numbers : Entry → List ℕ
entry_numbers l = l.op.object ∷ l.rid ∷ l.num ∷ l.op.kind ∷ l.op.key ∷ l.op.value ∷ []

-- each field in its range, and the kind one of an operation
abbrev pub OfIn : Of → Type 0
OfIn o = InRanges of_line.largest (of_numbers o)

pub record EntryIn (l : Entry) : Type 0 where
  pub fields : InRanges log_line.largest (entry_numbers l)
  pub operation : is_operation l.op.kind ≡ true

-- the report as bytes
unfoldable pub of_text : Of → List ℕ
of_text o = line_text of_line.word (of_numbers o)

unfoldable pub entry_text : Entry → List ℕ
entry_text l = line_text log_line.word (entry_numbers l)

unfoldable pub report_text : Report → List ℕ
report_text r = lines_text of_text r.ofs ++ lines_text entry_text r.log
