-- The scope's worked batches and schedules in one table, as texts with what the audit finds and what the host makes of them, computed from
-- the meanings by one proof; and the small examples of rows 13 to 16.
use Prim.Native.Nat.{ℕ, zero, suc}
use Prim.Native.String.{String}
use mathlib.Core.List.{List, [], ◌∷◌, ◌++◌, map}
use mathlib.Core.Path.{◌≡◌, refl}
use Rattle.basics.specs.Maps.{upd}
use Rattle.lines.specs.Decimal.{digits_in, decimal}
use Rattle.lines.specs.Line.{prefix, field_of, fields_of, line_of}
use Rattle.lines.specs.LineText.{separator_of, numbers_text, line_text}
use Rattle.lines.specs.Number.{push_of, digits_of, number_of}
use Rattle.lines.specs.Parts.{onto, parts}
use Rattle.text.specs.Programs.{add_program, add_do, read_programs}
use Rattle.text.specs.Report.{add_of, add_log, read_report}
use Rattle.text.specs.Written.{of_text, entry_text, report_text, lines_text, event_text, trace_text}
use Rattle.text.specs.Schedule.{add_arrive, add_turn, read_schedule}
use Rattle.text.specs.Text.{within, add_line, read_lines, read_text}
use Rattle.text.specs.Trace.{add_request, add_response, read_trace}
use Rattle.writing.specs.Verdict.{verdict_text}
use Rattle.ordering.specs.Merge.{bump}
use Rattle.model.specs.Host.{Result, fault, made}
use Rattle.machine.specs.Instructions.{effect_as}
use Rattle.machine.specs.Processes.{go}
use Rattle.verifier.specs.Faults.{audit_of}
use Rattle.verifier.specs.declared.Audited.{Audited}
use Rattle.verifier.proofs.Stars as audit
use Rattle.verifier.proofs.Stars.{text, audits, programs_abc, no_local, trace_c, report_c, programs_wells, trace_wells, report_wells, replies}
use Rattle.host.specs.Printed.{recorded_text}
use Rattle.host.specs.Recorded.{Texts, batch_recorded, record_of, result_of}
use Rattle.host.specs.declared.Recorded.{Recorded}

-- programs and a schedule as their lines, the room for the two texts, and what the host makes of them
record Case : Type 0 where
  program_lines : List String
  schedule_lines : List String
  room_for_trace : ℕ
  room_for_report : ℕ
  writes : Result Texts

abbrev case : (programs schedule : List String) → (room_for_trace room_for_report : ℕ) → Result Texts → Case
case programs schedule m n r =
    record { program_lines = programs; schedule_lines = schedule; room_for_trace = m; room_for_report = n; writes = r }

abbrev records : Case → Result Texts
records c = record_of (text c.program_lines) (text c.schedule_lines) c.room_for_trace c.room_for_report

abbrev texts : (trace report : List String) → Result Texts
texts trace report = made (record { trace = text trace; report = text report })

-- ── C's schedule, and the program that never replies ──
abbrev schedule_c : List String
schedule_c = "arrive=1,0,0,0" ∷ "arrive=2,1,0,0" ∷ "turn=1" ∷ "turn=2" ∷ "turn=1" ∷ "turn=2" ∷ "turn=1" ∷ "turn=2" ∷ []

abbrev trace : List String
trace = trace_c "response=1,0,1" "response=2,0,1"

abbrev report : List String
report = report_c "of=2,1,2" "log=0,1,1,7,0,1"

abbrev writes_c : Result Texts
writes_c = texts trace report

abbrev programs_loop : List String
programs_loop = "program=0" ∷ "do=1,2,1,0" ∷ "do=5,2,0,0" ∷ "do=0,0,0,0" ∷ []

abbrev cases : List Case
cases =
    case programs_abc schedule_c 65535 65535 writes_c
    ∷ case programs_loop ("arrive=1,0,0,0" ∷ "turn=1" ∷ []) 65535 65535
    (texts ("request=1,0,0,0" ∷ "response=1,1,0" ∷ []) ("of=1,0,0" ∷ []))
    ∷ []

-- ── the table: the audit's batches, then the host's schedules ──
data Star : Type 0 where
  batch : audit.Case → Star
  run : Case → Star

data Meaning : Type 0 where
  found : Audited → Meaning
  makes : Result Texts → Meaning

abbrev meaning_of : Star → Meaning
meaning_of (batch c) = found (audits c)
meaning_of (run c) = makes (records c)

abbrev expected : Star → Meaning
expected (batch c) = found c.finds
expected (run c) = makes c.writes

abbrev table : List Star
table = map batch audit.cases ++ map run cases

stars : map meaning_of table ≡ map expected table
unfolding audit_of record_of batch_recorded read_programs read_trace read_report read_schedule read_text read_lines add_line line_of fields_of field_of prefix
    number_of digits_of push_of parts onto within add_program add_do add_request add_response add_of add_log add_arrive add_turn go effect_as
    upd bump trace_text report_text lines_text event_text of_text entry_text line_text numbers_text separator_of decimal digits_in
stars = refl

-- what the program prints: C's texts behind the verdict with its line, and of a refusal that alone
printed : map recorded_text (writes_c ∷ fault 14 1 ∷ [])
    ≡ text ("verdict=0" ∷ "line=0" ∷ (trace ++ report)) ∷ text ("verdict=14" ∷ "line=1" ∷ []) ∷ []
unfolding recorded_text verdict_text line_text numbers_text separator_of decimal digits_in
printed = refl

abbrev times : ℕ → String → List String → List String
times zero l ls = ls
times (suc n) l ls = l ∷ times n l ls

-- ── the small examples of rows 1, 2, 13, 14 and 16 ──
-- C's trace has 62 bytes, its report 82
abbrev small : List Case
small =
    case ("do=1,2" ∷ []) ("turn=1," ∷ []) 0 0 (fault 1 1)
    ∷ case no_local ("turn=1," ∷ []) 0 0 (fault 2 2)
    ∷ case [] ("turn=1," ∷ []) 0 0 (fault 13 1)
    ∷ case [] ("turn=1" ∷ []) 0 0 (fault 14 1)
    ∷ case replies ("arrive=1,0,0,0" ∷ "turn=1" ∷ "arrive=1,0,0,0" ∷ []) 0 0 (fault 14 3)
    ∷ case replies ("arrive=1,1,0,0" ∷ []) 0 0 (fault 14 1)
    ∷ case programs_abc schedule_c 10 65535 (fault 16 0)
    ∷ case programs_abc schedule_c 61 82 (fault 16 0)
    ∷ case programs_abc schedule_c 62 81 (fault 16 0)
    -- room to the byte
    ∷ case programs_abc schedule_c 62 82 writes_c
    -- a turn behind the response does nothing
    ∷ case replies ("arrive=1,0,7,0" ∷ "turn=1" ∷ "turn=1" ∷ []) 31 9
    (texts ("request=1,0,7,0" ∷ "response=1,0,7" ∷ []) ("of=1,0,0" ∷ []))
    ∷ case [] [] 0 0 (texts [] [])
    -- requests left open: arrivals only; behind one operation, with another behind its last, and a third answered
    ∷ case replies ("arrive=1,0,0,0" ∷ "arrive=2,0,0,0" ∷ []) 32 18
    (texts ("request=1,0,0,0" ∷ "request=2,0,0,0" ∷ []) ("of=1,0,0" ∷ "of=2,1,0" ∷ []))
    ∷ case programs_abc
    ("arrive=1,0,0,0" ∷ "arrive=2,1,0,0" ∷ "turn=1" ∷ "turn=2" ∷ "turn=2" ∷ "arrive=3,1,0,0" ∷ "turn=3" ∷ "turn=3" ∷ "turn=3" ∷ []) 65535 65535
    (texts ("request=1,0,0,0" ∷ "request=2,1,0,0" ∷ "request=3,1,0,0" ∷ "response=3,0,1" ∷ [])
    ("of=1,0,1" ∷ "of=2,1,2" ∷ "of=3,2,2"
    ∷ "log=0,1,1,7,0,1" ∷ "log=0,2,2,6,0,1" ∷ "log=0,3,2,6,0,1" ∷ "log=1,2,1,7,0,1" ∷ "log=1,3,1,7,0,1" ∷ []))
    -- a register and a store, read before and behind a write
    ∷ case ("program=0" ∷ "do=6,2,0,0" ∷ "do=7,0,1,0" ∷ "do=6,2,0,0" ∷ "do=8,3,8,0" ∷ "do=9,8,0,1" ∷ "do=8,3,8,0" ∷ "do=0,3,0,0" ∷ [])
    ("arrive=1,0,7,42" ∷ times 7 "turn=1" []) 65535 65535
    (texts ("request=1,0,7,42" ∷ "response=1,0,42" ∷ [])
    ("of=1,0,6" ∷ "log=0,1,1,6,0,0" ∷ "log=0,1,2,7,0,42" ∷ "log=0,1,3,6,0,42"
    ∷ "log=8,1,4,8,7,0" ∷ "log=8,1,5,9,7,42" ∷ "log=8,1,6,8,7,42" ∷ []))
    -- a well filled with volume 0, and one never filled
    ∷ case programs_wells
    ("arrive=1,0,7,0" ∷ "turn=1" ∷ "turn=1" ∷ "arrive=2,1,7,0" ∷ "arrive=3,1,12,0"
    ∷ "turn=2" ∷ "turn=3" ∷ "turn=2" ∷ "turn=3" ∷ "turn=2" ∷ "turn=3" ∷ []) 65535 65535
    (texts (trace_wells "response=2,0,1" "response=3,0,0") (report_wells "log=8,2,1,10,7,1" "log=8,3,1,10,12,0"))
    ∷ []

rows-of-host : map records small ≡ map (λ c. c.writes) small
unfolding record_of batch_recorded read_programs read_schedule read_text read_lines add_line line_of fields_of field_of prefix number_of digits_of push_of
    parts onto within add_program add_do add_arrive add_turn go effect_as upd
    trace_text report_text lines_text event_text of_text entry_text line_text numbers_text separator_of decimal digits_in
rows-of-host = refl

-- ── two rows at once: the one that comes first in the host's order is given ──
abbrev two_rows : List Case
two_rows =
    -- 1 and 2, 1 and 13, 2 and 13
    case (no_local ++ ("do=1" ∷ [])) [] 0 0 (fault 1 3)
    ∷ case ("do=1,2" ∷ []) ("turn=1," ∷ []) 0 0 (fault 1 1)
    ∷ case no_local ("turn=1," ∷ []) 0 0 (fault 2 2)
    -- 1 and 14, 2 and 14
    ∷ case ("do=1,2" ∷ []) ("turn=1" ∷ []) 0 0 (fault 1 1)
    ∷ case no_local ("turn=1" ∷ []) 0 0 (fault 2 2)
    -- 13 and 14
    ∷ case replies ("turn=1" ∷ "turn=1," ∷ []) 0 0 (fault 13 2)
    -- 2 and 16, 14 and 16: C's schedule, whose trace has no room, and a rule broken, or a turn of a rid that has not arrived
    ∷ case (programs_abc ++ ("program=2" ∷ [])) schedule_c 10 65535 (fault 2 11)
    ∷ case programs_abc (schedule_c ++ ("turn=3" ∷ [])) 10 65535 (fault 14 9)
    ∷ []

first-of-two : map records two_rows ≡ map (λ c. c.writes) two_rows
unfolding record_of batch_recorded read_programs read_schedule read_text read_lines add_line line_of fields_of field_of prefix number_of digits_of push_of
    parts onto within add_program add_do add_arrive add_turn go effect_as upd
    trace_text report_text lines_text event_text of_text entry_text line_text numbers_text separator_of decimal digits_in
first-of-two = refl

-- ── the edges: a program that reads as each second instruction, so that the 128th operation is the 256th instruction ──
abbrev reading : List String
reading = "program=0" ∷ "do=1,2,1,0" ∷ "do=6,3,0,0" ∷ "do=5,2,1,0" ∷ "do=0,0,0,0" ∷ []

abbrev results : (schedule : List String) → Recorded
results schedule = result_of (record_of (text reading) (text schedule) 65535 65535)

abbrev recorded_as : (verdict line trace report : ℕ) → Recorded
recorded_as verdict line trace report = record { verdict = verdict; line = line; trace_len = trace; report_len = report }

-- it is carried out and logged, and the next turn cuts
last-instruction : results ("arrive=1,0,0,0" ∷ times 129 "turn=1" []) ≡ recorded_as 0 0 31 2207
unfolding record_of batch_recorded read_programs read_schedule read_text read_lines add_line line_of fields_of field_of prefix number_of digits_of push_of
    parts onto within add_program add_do add_arrive add_turn go effect_as upd
    trace_text report_text lines_text event_text of_text entry_text line_text numbers_text separator_of decimal digits_in
last-instruction = refl

-- without that turn it is left open behind its last instruction
still_open : results ("arrive=1,0,0,0" ∷ times 128 "turn=1" []) ≡ recorded_as 0 0 16 2207
unfolding record_of batch_recorded read_programs read_schedule read_text read_lines add_line line_of fields_of field_of prefix number_of digits_of push_of
    parts onto within add_program add_do add_arrive add_turn go effect_as upd
    trace_text report_text lines_text event_text of_text entry_text line_text numbers_text separator_of decimal digits_in
still_open = refl

-- 1,024 operations of eight requests pass; the ninth's first is one too many
abbrev turns_of8 : List String → List String
turns_of8 ls =
    times 128 "turn=1" (times 128 "turn=2" (times 128 "turn=3" (times 128 "turn=4"
    (times 128 "turn=5" (times 128 "turn=6" (times 128 "turn=7" (times 128 "turn=8" ls)))))))

abbrev nine : List String → List String
nine ls =
    "arrive=1,0,0,0" ∷ "arrive=2,0,0,0" ∷ "arrive=3,0,0,0" ∷ "arrive=4,0,0,0" ∷ "arrive=5,0,0,0" ∷ "arrive=6,0,0,0"
    ∷ "arrive=7,0,0,0" ∷ "arrive=8,0,0,0" ∷ "arrive=9,0,0,0" ∷ ls

one-too-many : results (nine (turns_of8 ("turn=9" ∷ []))) ≡ recorded_as 14 1034 0 0
unfolding record_of batch_recorded read_programs read_schedule read_text read_lines add_line line_of fields_of field_of prefix number_of digits_of push_of
    parts onto within add_program add_do add_arrive add_turn go effect_as upd
    trace_text report_text lines_text event_text of_text entry_text line_text numbers_text separator_of decimal digits_in
one-too-many = refl

enough : results (nine (turns_of8 [])) ≡ recorded_as 0 0 144 17665
unfolding record_of batch_recorded read_programs read_schedule read_text read_lines add_line line_of fields_of field_of prefix number_of digits_of push_of
    parts onto within add_program add_do add_arrive add_turn go effect_as upd
    trace_text report_text lines_text event_text of_text entry_text line_text numbers_text separator_of decimal digits_in
enough = refl
