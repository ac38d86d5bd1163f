-- The scope's worked batches, and the small examples of its table, as texts with what the audit finds: computed from the meaning.
use Prim.Native.Nat.{ℕ}
use Prim.Native.String.{String}
use mathlib.Core.List.{List, [], ◌∷◌, ◌++◌, map}
use mathlib.Core.Path.{◌≡◌, refl}
use Rattle.basics.specs.Maps.{upd}
use Rattle.lines.specs.Bytes.{bytes}
use Rattle.lines.specs.Decimal.{digits_in, decimal}
use Rattle.lines.specs.Line.{prefix, field_of, fields_of, line_of}
use Rattle.lines.specs.LineText.{separator_of, numbers_text, line_text}
use Rattle.lines.specs.Number.{push_of, digits_of, number_of}
use Rattle.lines.specs.Parts.{onto, parts}
use Rattle.text.specs.Programs.{add_program, add_do, read_programs}
use Rattle.text.specs.Report.{add_of, add_log, read_report}
use Rattle.text.specs.Text.{within, add_line, read_lines, read_text}
use Rattle.text.specs.Trace.{add_request, add_response, read_trace}
use Rattle.writing.specs.Order.{event_item, operation_item}
use Rattle.writing.specs.Verdict.{verdict_text}
use Rattle.ordering.specs.Merge.{bump}
use Rattle.model.specs.Checks.{verdict}
use Rattle.machine.specs.Instructions.{effect_as}
use Rattle.machine.specs.Processes.{go}
use Rattle.verifier.specs.Faults.{audited, audit_of}
use Rattle.verifier.specs.Order.{order_of, order_text}
use Rattle.verifier.specs.Printed.{audited_text, printed_text}
use Rattle.verifier.specs.declared.Audited.{Audited}

-- three texts as their lines, and what the audit finds
pub record Case : Type 0 where
  pub program_lines : List String
  pub trace_lines : List String
  pub report_lines : List String
  pub finds : Audited

abbrev pub case : (programs trace report : List String) → Audited → Case
case programs trace report a = record { program_lines = programs; trace_lines = trace; report_lines = report; finds = a }

abbrev pub text : List String → List ℕ
text [] = []
text (l ∷ ls) = bytes l ++ 10 ∷ text ls

abbrev pub audits : Case → Audited
audits c = audit_of (text c.program_lines) (text c.trace_lines) (text c.report_lines)

-- less than a hundred operations
abbrev pub accepted : (requests operations : ℕ) → Audited
accepted requests operations =
    record { verdict = 0; line = 0; requests = requests; operations = operations; blocks = 0; rest = operations }

abbrev pub refused : (verdict line : ℕ) → Audited
refused verdict line = record { verdict = verdict; line = line; requests = 0; operations = 0; blocks = 0; rest = 0 }

-- ── the worked batches ──
abbrev pub programs_abc : List String
programs_abc =
    "program=0" ∷ "do=1,2,1,0" ∷ "do=7,0,2,0" ∷ "do=6,0,1,0" ∷ "do=0,0,0,0"
    ∷ "program=1" ∷ "do=1,2,1,0" ∷ "do=7,1,2,0" ∷ "do=6,0,0,0" ∷ "do=0,0,0,0" ∷ []

abbrev pub trace_c : (response1 response2 : String) → List String
trace_c response1 response2 = "request=1,0,0,0" ∷ "request=2,1,0,0" ∷ response1 ∷ response2 ∷ []

-- read2 and read1 are the reads of register 0 by request 2, and of register 1 by request 1
abbrev report_with : (of2 log1 read2 read1 : String) → List String
report_with of2 log1 read2 read1 = "of=1,0,2" ∷ of2 ∷ log1 ∷ read2 ∷ "log=1,2,1,7,0,1" ∷ read1 ∷ []

abbrev pub report_c : (of2 log1 : String) → List String
report_c of2 log1 = report_with of2 log1 "log=0,2,2,6,0,1" "log=1,1,2,6,0,1"

abbrev case_c : Case
case_c = case programs_abc (trace_c "response=1,0,1" "response=2,0,1") (report_c "of=2,1,2" "log=0,1,1,7,0,1") (accepted 2 4)

-- C's with the lines of both objects exchanged, and of object 0 alone
abbrev pub report_b : (of1 of2 read2 read1 : String) → List String
report_b of1 of2 read2 read1 = of1 ∷ of2 ∷ read2 ∷ "log=0,1,1,7,0,1" ∷ read1 ∷ "log=1,2,1,7,0,1" ∷ []

abbrev report_a : (read2 : String) → List String
report_a read2 = "of=1,0,2" ∷ "of=2,1,2" ∷ read2 ∷ "log=0,1,1,7,0,1" ∷ "log=1,2,1,7,0,1" ∷ "log=1,1,2,6,0,1" ∷ []

abbrev case_b : (read2 read1 : String) → Case
case_b read2 read1 =
    case programs_abc (trace_c "response=1,0,0" "response=2,0,0") (report_b "of=1,0,2" "of=2,1,2" read2 read1) (refused 9 0)

abbrev case_a : (read2 : String) → Case
case_a read2 =
    case programs_abc ("request=1,0,0,0" ∷ "response=1,0,1" ∷ "request=2,1,0,0" ∷ "response=2,0,0" ∷ []) (report_a read2) (refused 9 0)

-- C with another value in its first log line, and all three texts empty
abbrev value_changed : Case
value_changed = case programs_abc (trace_c "response=1,0,1" "response=2,0,1") (report_c "of=2,1,2" "log=0,1,1,7,0,2") (refused 10 1)

abbrev all_empty : Case
all_empty = case [] [] [] (accepted 0 0)

abbrev pub cases : List Case
cases =
    case_c
    -- B and A as changes of C, whose reads show 1; and with what their logs give, so that 9 is their only fault
    ∷ case_b "log=0,2,2,6,0,1" "log=1,1,2,6,0,1"
    ∷ case_a "log=0,2,2,6,0,1"
    ∷ case_b "log=0,2,2,6,0,0" "log=1,1,2,6,0,0"
    ∷ case_a "log=0,2,2,6,0,0"
    -- C's single changes: the first log value, the second response, the second group
    ∷ value_changed
    ∷ case programs_abc (trace_c "response=1,0,1" "response=2,0,5") (report_c "of=2,1,2" "log=0,1,1,7,0,1") (refused 11 2)
    ∷ case programs_abc (trace_c "response=1,0,1" "response=2,0,1") (report_c "of=2,0,2" "log=0,1,1,7,0,1") (refused 12 2)
    ∷ all_empty
    -- the program that never replies is cut off
    ∷ case ("program=0" ∷ "do=1,2,1,0" ∷ "do=5,2,0,0" ∷ "do=0,0,0,0" ∷ []) ("request=1,0,0,0" ∷ "response=1,1,0" ∷ []) ("of=1,0,0" ∷ [])
    (accepted 1 0)
    ∷ []

stars : map audits cases ≡ map (λ c. c.finds) cases
unfolding audit_of read_programs read_trace read_report read_text read_lines add_line line_of fields_of field_of prefix number_of digits_of push_of
    parts onto within add_program add_do add_request add_response add_of add_log go effect_as upd bump
stars = refl

-- ── what reads show ──
-- C with other lines for its reads
abbrev reads_c : (response2 read2 read1 : String) → Audited → Case
reads_c response2 read2 read1 =
    case programs_abc (trace_c "response=1,0,1" response2) (report_with "of=2,1,2" "log=0,1,1,7,0,1" read2 read1)

-- a request that puts 4 at key 3 of a store and looks it up, and then key 4
abbrev looks_up : (response read3 read4 : String) → Audited → Case
looks_up response read3 read4 =
    case ("program=0" ∷ "do=9,8,0,1" ∷ "do=8,2,8,0" ∷ "do=8,3,8,1" ∷ "do=0,2,0,0" ∷ []) ("request=1,0,3,4" ∷ response ∷ [])
    ("of=1,0,3" ∷ "log=8,1,1,9,3,4" ∷ read3 ∷ read4 ∷ [])

abbrev shows : List Case
shows =
    -- as reports had it before reads were shown, and one line of them
    reads_c "response=2,0,1" "log=0,2,2,6,0,0" "log=1,1,2,6,0,0" (refused 10 1)
    ∷ reads_c "response=2,0,1" "log=0,2,2,6,0,0" "log=1,1,2,6,0,1" (refused 10 2)
    -- a wrong value, and the request answers with it, or with the right one
    ∷ reads_c "response=2,0,7" "log=0,2,2,6,0,7" "log=1,1,2,6,0,1" (refused 10 2)
    ∷ reads_c "response=2,0,1" "log=0,2,2,6,0,7" "log=1,1,2,6,0,1" (refused 10 2)
    -- a key that was put, and one that was not, which reads 0
    ∷ looks_up "response=1,0,4" "log=8,1,2,8,3,4" "log=8,1,3,8,4,0" (accepted 1 3)
    ∷ looks_up "response=1,0,4" "log=8,1,2,8,3,0" "log=8,1,3,8,4,0" (refused 10 1)
    ∷ looks_up "response=1,0,9" "log=8,1,2,8,3,9" "log=8,1,3,8,4,0" (refused 10 1)
    ∷ looks_up "response=1,0,4" "log=8,1,2,8,3,4" "log=8,1,3,8,4,4" (refused 10 1)
    ∷ []

reads-shown : map audits shows ≡ map (λ c. c.finds) shows
unfolding audit_of read_programs read_trace read_report read_text read_lines add_line line_of fields_of field_of prefix number_of digits_of push_of
    parts onto within add_program add_do add_request add_response add_of add_log go effect_as upd bump
reads-shown = refl

-- ── a key never put, or put as 0 ──
-- program 0 fills well a with volume b; program 1 asks whether well a was filled and reads its volume
abbrev pub programs_wells : List String
programs_wells = "program=0" ∷ "do=9,8,0,1" ∷ "do=0,1,0,0" ∷ "program=1" ∷ "do=10,2,8,0" ∷ "do=8,3,8,0" ∷ "do=0,2,0,0" ∷ []

-- well 7 is filled with volume 0, well 12 never; both are asked for
abbrev pub trace_wells : (response7 response12 : String) → List String
trace_wells response7 response12 =
    "request=1,0,7,0" ∷ "response=1,0,0" ∷ "request=2,1,7,0" ∷ "request=3,1,12,0" ∷ response7 ∷ response12 ∷ []

abbrev pub report_wells : (asked7 asked12 : String) → List String
report_wells asked7 asked12 =
    "of=1,0,1" ∷ "of=2,1,2" ∷ "of=3,2,2" ∷ "log=8,1,1,9,7,0" ∷ asked7 ∷ asked12 ∷ "log=8,2,2,8,7,0" ∷ "log=8,3,2,8,12,0" ∷ []

abbrev wells : (response7 response12 asked7 asked12 : String) → Audited → Case
wells response7 response12 asked7 asked12 = case programs_wells (trace_wells response7 response12) (report_wells asked7 asked12)

-- program 0 asks for a key, program 1 reads register 0; request 2, of either, arrives first, and the line of request 1 stands above its own
abbrev asks_later : (request2 line1 line2 : String) → Audited → Case
asks_later request2 line1 line2 =
    case ("program=0" ∷ "do=10,2,8,0" ∷ "do=0,2,0,0" ∷ "program=1" ∷ "do=6,2,0,0" ∷ "do=0,2,0,0" ∷ [])
    (request2 ∷ "request=1,0,5,0" ∷ "response=2,0,0" ∷ "response=1,0,0" ∷ []) ("of=2,0,1" ∷ "of=1,1,1" ∷ line1 ∷ line2 ∷ [])

abbrev keys : List Case
keys =
    -- told apart by code 10, alike to code 8
    wells "response=2,0,1" "response=3,0,0" "log=8,2,1,10,7,1" "log=8,3,1,10,12,0" (accepted 3 5)
    -- well 7 shown and answered as never filled, well 12 as filled; a value that is no 1 or 0
    ∷ wells "response=2,0,0" "response=3,0,0" "log=8,2,1,10,7,0" "log=8,3,1,10,12,0" (refused 10 2)
    ∷ wells "response=2,0,1" "response=3,0,1" "log=8,2,1,10,7,1" "log=8,3,1,10,12,1" (refused 10 3)
    ∷ wells "response=2,0,2" "response=3,0,0" "log=8,2,1,10,7,2" "log=8,3,1,10,12,0" (refused 10 2)
    -- the right line with a wrong reply; the line of a read; kind 11
    ∷ wells "response=2,0,1" "response=3,0,1" "log=8,2,1,10,7,1" "log=8,3,1,10,12,0" (refused 11 3)
    ∷ wells "response=2,0,1" "response=3,0,0" "log=8,2,1,10,7,1" "log=8,3,1,8,12,0" (refused 10 3)
    ∷ wells "response=2,0,1" "response=3,0,0" "log=8,2,1,10,7,1" "log=8,3,1,11,12,0" (refused 5 6)
    -- a line of kind 10 puts nothing into its store, writes no register, and is a fault of its own request alone
    ∷ asks_later "request=2,0,5,0" "log=8,1,1,10,5,1" "log=8,2,1,10,5,0" (refused 10 2)
    ∷ asks_later "request=2,1,0,0" "log=0,1,1,10,0,1" "log=0,2,1,6,0,0" (refused 10 2)
    -- a register for the store; code 11
    ∷ case ("program=0" ∷ "do=10,2,7,0" ∷ "do=0,2,0,0" ∷ []) [] [] (refused 2 2)
    ∷ case ("program=0" ∷ "do=11,2,8,0" ∷ "do=0,2,0,0" ∷ []) [] [] (refused 2 2)
    ∷ []

keys-held : map audits keys ≡ map (λ c. c.finds) keys
unfolding audit_of read_programs read_trace read_report read_text read_lines add_line line_of fields_of field_of prefix number_of digits_of push_of
    parts onto within add_program add_do add_request add_response add_of add_log go effect_as upd bump
keys-held = refl

-- ── requests left open ──
-- A with request 1 left open: nothing of it comes before request 2 then
abbrev open_a : Case
open_a = case programs_abc ("request=1,0,0,0" ∷ "request=2,1,0,0" ∷ "response=2,0,0" ∷ []) (report_a "log=0,2,2,6,0,0") (accepted 2 4)

-- a local that does not exist, in line 2
abbrev pub no_local : List String
no_local = "program=0" ∷ "do=0,8,0,0" ∷ []

-- a program that replies at once
abbrev pub replies : List String
replies = "program=0" ∷ "do=0,0,0,0" ∷ []

-- its one operation is the 256th instruction
abbrev last_reads : List String
last_reads =
    "program=0" ∷ "do=1,4,0,0" ∷ "do=1,3,1,0" ∷ "do=1,2,126,0" ∷ "do=3,2,2,3" ∷ "do=5,2,3,0" ∷ "do=6,0,1,0" ∷ "do=0,0,0,0" ∷ []

-- one request of program 0
abbrev lone : List String
lone = "request=1,0,0,0" ∷ []

abbrev opens : List Case
opens =
    -- before the first operation, behind it, behind the last
    case programs_abc lone ("of=1,0,0" ∷ []) (accepted 1 0)
    ∷ case programs_abc lone ("of=1,0,1" ∷ "log=0,1,1,7,0,1" ∷ []) (accepted 1 1)
    ∷ case programs_abc lone ("of=1,0,2" ∷ "log=0,1,1,7,0,1" ∷ "log=1,1,2,6,0,0" ∷ []) (accepted 1 2)
    ∷ open_a
    -- an operation differs; the program replies, and is cut off, before the operations that the count says
    ∷ case programs_abc lone ("of=1,0,1" ∷ "log=0,1,1,7,0,2" ∷ []) (refused 10 1)
    ∷ case replies lone ("of=1,0,1" ∷ "log=0,1,1,7,0,1" ∷ []) (refused 10 1)
    ∷ case last_reads lone ("of=1,0,2" ∷ "log=1,1,1,6,0,0" ∷ "log=1,1,2,6,0,0" ∷ []) (refused 10 1)
    -- in one group: of one program, of two programs, one answered
    ∷ case programs_abc ("request=1,0,0,0" ∷ "request=2,0,0,0" ∷ []) ("of=1,0,0" ∷ "of=2,0,0" ∷ []) (accepted 2 0)
    ∷ case programs_abc ("request=1,0,0,0" ∷ "request=2,1,0,0" ∷ []) ("of=1,0,0" ∷ "of=2,0,0" ∷ []) (refused 12 2)
    ∷ case replies ("request=1,0,0,0" ∷ "response=1,0,0" ∷ "request=2,0,0,0" ∷ []) ("of=1,0,0" ∷ "of=2,0,0" ∷ []) (refused 12 2)
    -- and one that was cut off right behind that operation
    ∷ case last_reads ("request=1,0,0,0" ∷ "response=1,1,0" ∷ "request=2,0,0,0" ∷ [])
    ("of=1,0,1" ∷ "of=2,0,1" ∷ "log=1,1,1,6,0,0" ∷ "log=1,2,1,6,0,0" ∷ []) (accepted 2 2)
    ∷ []

open-requests : map audits opens ≡ map (λ c. c.finds) opens
unfolding audit_of read_programs read_trace read_report read_text read_lines add_line line_of fields_of field_of prefix number_of digits_of push_of
    parts onto within add_program add_do add_request add_response add_of add_log go effect_as upd bump
open-requests = refl

-- ── the bill ──
-- at 0, about the whole hundreds, and at most; of a refusal nothing
bills : map (λ n. let a = audited (verdict 0 0) 1 n in (a.operations ∷ a.blocks ∷ a.rest ∷ [])) (0 ∷ 4 ∷ 99 ∷ 100 ∷ 101 ∷ 200 ∷ 1024 ∷ [])
    ≡ (0 ∷ 0 ∷ 0 ∷ []) ∷ (4 ∷ 0 ∷ 4 ∷ []) ∷ (99 ∷ 0 ∷ 99 ∷ []) ∷ (100 ∷ 1 ∷ 0 ∷ []) ∷ (101 ∷ 1 ∷ 1 ∷ []) ∷ (200 ∷ 2 ∷ 0 ∷ [])
    ∷ (1024 ∷ 10 ∷ 24 ∷ []) ∷ []
bills = refl

no-bill : map (λ n. audited (verdict 9 0) 1 n) (0 ∷ 99 ∷ 1024 ∷ []) ≡ refused 9 0 ∷ refused 9 0 ∷ refused 9 0 ∷ []
no-bill = refl

-- ── what is printed ──
-- Request 1 gets object 1, where request 2 put before it; so behind operation 1 of request 2 both requests have an operation that waits for
-- nothing. That of request 2 stands above in the report and goes first, though its request came later. Then its response may be printed too,
-- but the operation that is left goes before an event.
abbrev later_first : Case
later_first =
    case ("program=0" ∷ "do=6,0,1,0" ∷ "do=0,0,0,0" ∷ "program=1" ∷ "do=1,2,1,0" ∷ "do=7,1,2,0" ∷ "do=6,0,0,0" ∷ "do=0,0,0,0" ∷ [])
    ("request=1,0,0,0" ∷ "request=2,1,0,0" ∷ "response=2,0,0" ∷ "response=1,0,1" ∷ [])
    ("of=1,0,1" ∷ "of=2,1,2" ∷ "log=1,2,1,7,0,1" ∷ "log=0,2,2,6,0,0" ∷ "log=1,1,1,6,0,1" ∷ []) (accepted 2 3)

-- of C, of empty texts, of a refusal, of the batch above, and of one with a request left open, whose response is no event
printed : map (λ c. printed_text (text c.program_lines) (text c.trace_lines) (text c.report_lines))
    (case_c ∷ all_empty ∷ value_changed ∷ later_first ∷ open_a ∷ [])
    ≡ text (
    "verdict=0" ∷ "line=0" ∷ "requests=2" ∷ "operations=4" ∷ "blocks=0" ∷ "rest=4"
    ∷ "event=1" ∷ "op=1,1" ∷ "event=2" ∷ "op=2,1" ∷ "op=2,2" ∷ "op=1,2" ∷ "event=3" ∷ "event=4" ∷ [])
    ∷ text ("verdict=0" ∷ "line=0" ∷ "requests=0" ∷ "operations=0" ∷ "blocks=0" ∷ "rest=0" ∷ [])
    ∷ text ("verdict=10" ∷ "line=1" ∷ "requests=0" ∷ "operations=0" ∷ "blocks=0" ∷ "rest=0" ∷ [])
    ∷ text (
    "verdict=0" ∷ "line=0" ∷ "requests=2" ∷ "operations=3" ∷ "blocks=0" ∷ "rest=3"
    ∷ "event=1" ∷ "event=2" ∷ "op=2,1" ∷ "op=2,2" ∷ "op=1,1" ∷ "event=3" ∷ "event=4" ∷ [])
    ∷ text (
    "verdict=0" ∷ "line=0" ∷ "requests=2" ∷ "operations=4" ∷ "blocks=0" ∷ "rest=4"
    ∷ "event=1" ∷ "event=2" ∷ "op=2,1" ∷ "op=2,2" ∷ "op=1,1" ∷ "op=1,2" ∷ "event=3" ∷ [])
    ∷ []
unfolding audit_of read_programs read_trace read_report read_text read_lines add_line line_of fields_of field_of prefix number_of digits_of push_of
    parts onto within add_program add_do add_request add_response add_of add_log go effect_as upd bump
    printed_text audited_text verdict_text order_of order_text event_item operation_item line_text numbers_text separator_of decimal digits_in
printed = refl

-- ── the small examples of rows 1 to 8 ──
abbrev pub answered : List String
answered = "request=1,0,0,0" ∷ "response=1,0,0" ∷ []

abbrev small : List Case
small =
    case ("do=1,2" ∷ []) [] [] (refused 1 1)
    ∷ case no_local [] [] (refused 2 2)
    ∷ case [] ("request=01,0,0,0" ∷ []) [] (refused 3 1)
    ∷ case [] ("response=1,0,0" ∷ []) [] (refused 4 1)
    ∷ case [] [] ("of=1,0" ∷ []) (refused 5 1)
    ∷ case replies answered [] (refused 6 1)
    ∷ case replies answered ("of=1,0,0" ∷ "log=0,1,1,7,0,1" ∷ []) (refused 7 2)
    ∷ case replies answered ("of=1,0,1" ∷ []) (refused 8 1)
    -- a rid used twice, though its request is open; an unknown program
    ∷ case replies ("request=1,0,0,0" ∷ "request=1,0,0,0" ∷ []) [] (refused 4 2)
    ∷ case replies ("request=1,0,0,0" ∷ "request=2,1,0,0" ∷ []) [] (refused 4 2)
    -- row 5 stands between rows 4 and 6
    ∷ case replies ("request=1,1,0,0" ∷ []) ("of=1,0" ∷ []) (refused 4 1)
    ∷ case replies answered ("of=2,0,0" ∷ "log=0" ∷ []) (refused 5 2)
    ∷ []

rows-1-to-8 : map audits small ≡ map (λ c. c.finds) small
unfolding audit_of read_programs read_trace read_report read_text read_lines add_line line_of fields_of field_of prefix number_of digits_of push_of
    parts onto within add_program add_do add_request add_response add_of add_log go effect_as upd bump
rows-1-to-8 = refl
