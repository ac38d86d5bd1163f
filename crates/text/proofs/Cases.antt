-- Readable and unreadable texts, computed. Each table gives for a text the first unreadable line, or none where it is readable.
use Prim.Native.Nat.{ℕ, zero, suc}
use Prim.Native.String.{String}
use mathlib.Core.List.{List, [], ◌∷◌, ◌++◌, map}
use mathlib.Core.Option.{Option, some, none}
use mathlib.Core.Path.{◌≡◌, refl}
use lib.ListN.{length, replicate}
use Rattle.lines.specs.Bytes.{bytes}
use Rattle.lines.specs.Number.{push_of, digits_of, number_of}
use Rattle.lines.specs.Parts.{onto, parts}
use Rattle.lines.specs.Line.{prefix, field_of, fields_of, line_of}
use Rattle.text.specs.Text.{Read, readable, unreadable, within, add_line, read_lines, read_text}
use Rattle.text.specs.Programs.{add_program, add_do, read_programs}
use Rattle.text.specs.Trace.{add_request, add_response, read_trace}
use Rattle.text.specs.Report.{add_of, add_log, read_report}
use Rattle.text.specs.Schedule.{add_arrive, add_turn, read_schedule}
use Rattle.text.specs.declared.trace.Event.TheVariants.{Request, Response}
use Rattle.text.specs.declared.schedule.Move.TheVariants.{Arrive, Turn}

abbrev bad_line : {S : Type 0} → Read S → Option ℕ
bad_line (readable x) = none
bad_line (unreadable n) = some n

abbrev times : ℕ → List ℕ → List ℕ
times zero s = []
times (suc n) s = s ++ times n s

abbrev report : String → Option ℕ
report t = bad_line (read_report (bytes t))

-- lines and numbers, shown on the report
layouts :
    map report
    (""
    ∷ "of=1,0,2\n"
    ∷ "of=1,0,2"
    ∷ "of=1,0,2\nof=2,0,2"
    ∷ "x\nof=2,0,2"
    ∷ "\n"
    ∷ "of=1,0,2\n\n"
    ∷ "of=1,0,2\r\n"
    ∷ " of=1,0,2\n"
    ∷ "of=1, 0,2\n"
    ∷ "of=01,0,2\n"
    ∷ "of=00,0,2\n"
    ∷ "of=+1,0,2\n"
    ∷ "of=-1,0,2\n"
    ∷ "of=,0,2\n"
    ∷ "of=1,,2\n"
    ∷ "of=1,0,2,\n"
    ∷ "of=\n"
    ∷ "of\n"
    ∷ "of1,0,2\n"
    ∷ "OF=1,0,2\n"
    ∷ "of=1,0\n"
    ∷ "of=1,0,2,0\n"
    ∷ "of=0,0,0\n"
    ∷ [])
    ≡ none ∷ none ∷ some 1 ∷ some 2 ∷ some 1 ∷ some 1 ∷ some 2 ∷ some 1 ∷ some 1 ∷ some 1 ∷ some 1 ∷ some 1 ∷ some 1 ∷ some 1 ∷ some 1
    ∷ some 1 ∷ some 1 ∷ some 1 ∷ some 1 ∷ some 1 ∷ some 1 ∷ some 1 ∷ some 1 ∷ none ∷ []
unfolding read_report read_text read_lines add_line add_of add_log within line_of fields_of field_of prefix parts onto number_of digits_of push_of
layouts = refl

-- each range of the report at its last good and first bad value; 2^64 − 1, 2^64 and 25 digits; an `of` line behind a `log` line
ranges :
    map report
    ("of=65535,63,256\n"
    ∷ "of=65536,63,256\n"
    ∷ "of=65535,64,256\n"
    ∷ "of=65535,63,257\n"
    ∷ "log=15,65535,256,10,18446744073709551615,18446744073709551615\n"
    ∷ "log=0,0,0,6,0,0\n"
    ∷ "log=16,0,0,6,0,0\n"
    ∷ "log=0,65536,0,6,0,0\n"
    ∷ "log=0,0,257,6,0,0\n"
    ∷ "log=0,0,0,5,0,0\n"
    ∷ "log=0,0,0,11,0,0\n"
    ∷ "log=0,0,0,6,18446744073709551616,0\n"
    ∷ "log=0,0,0,6,0,18446744073709551616\n"
    ∷ "log=0,0,0,6,0,1000000000000000000000000\n"
    ∷ "log=0,0,0,6,0,0\nof=1,0,2\n"
    ∷ [])
    ≡ none ∷ some 1 ∷ some 1 ∷ some 1 ∷ none ∷ none ∷ some 1 ∷ some 1 ∷ some 1 ∷ some 1 ∷ some 1 ∷ some 1 ∷ some 1 ∷ some 1 ∷ some 2 ∷ []
unfolding read_report read_text read_lines add_line add_of add_log within line_of fields_of field_of prefix parts onto number_of digits_of push_of
ranges = refl

-- no line of a log is longer than this one, which has the 62 bytes of `entry-bound`
longest : length (bytes "log=15,65535,256,10,18446744073709551615,18446744073709551615\n") ≡ 62
longest = refl

-- a byte above 127; 65,535 bytes, looked at line by line, and 65,536; the limits of lines
limits :
    map (λ s. bad_line (read_report s))
    ((111 ∷ 102 ∷ 61 ∷ 200 ∷ 10 ∷ [])
    ∷ replicate 65535 120
    ∷ replicate 65536 120
    ∷ times 64 (bytes "of=1,0,0\n")
    ∷ times 65 (bytes "of=1,0,0\n")
    ∷ times 1024 (bytes "log=0,0,0,6,0,0\n")
    ∷ times 1025 (bytes "log=0,0,0,6,0,0\n")
    ∷ [])
    ≡ some 1 ∷ some 1 ∷ some 0 ∷ none ∷ some 65 ∷ none ∷ some 1025 ∷ []
unfolding read_report read_text read_lines add_line add_of add_log within line_of fields_of field_of prefix parts onto number_of digits_of push_of
limits = refl

-- what is read
lines-of-report :
    read_report (bytes "of=1,0,2\nlog=8,1,2,9,5,7\n")
    ≡ readable (record {
      ofs = record { rid = 1; group = 0; count = 2 } ∷ [];
      log = record { rid = 1; num = 2; op = record { object = 8; kind = 9; key = 5; value = 7 } } ∷ [];
    })
unfolding read_report read_text read_lines add_line add_of add_log within line_of fields_of field_of prefix parts onto number_of digits_of push_of
lines-of-report = refl

-- ── the trace ──

traces :
    map (λ s. bad_line (read_trace s))
    (bytes ""
    ∷ bytes "request=65535,18446744073709551615,0,0\nresponse=65535,1,18446744073709551615\n"
    ∷ bytes "request=65536,0,0,0\n"
    ∷ bytes "request=01,0,0,0\n"
    ∷ bytes "request=1,0,0\n"
    ∷ bytes "response=1,2,0\n"
    ∷ bytes "response=1,0,18446744073709551616\n"
    ∷ bytes "request=1,0,0,0\nresponse=1,0,0"
    ∷ times 64 (bytes "request=1,0,0,0\n")
    ∷ times 65 (bytes "request=1,0,0,0\n")
    ∷ times 64 (bytes "response=1,0,0\n")
    ∷ times 65 (bytes "response=1,0,0\n")
    ∷ replicate 65536 120
    ∷ [])
    ≡ none ∷ none ∷ some 1 ∷ some 1 ∷ some 1 ∷ some 1 ∷ some 1 ∷ some 2 ∷ none ∷ some 65 ∷ none ∷ some 65 ∷ some 0 ∷ []
unfolding read_trace read_text read_lines add_line add_request add_response within line_of fields_of field_of prefix parts onto number_of
    digits_of push_of
traces = refl

lines-of-trace :
    read_trace (bytes "request=1,2,3,4\nresponse=1,0,9\n") ≡ readable (Request 1 2 3 4 ∷ Response 1 0 9 ∷ [])
unfolding read_trace read_text read_lines add_line add_request add_response within line_of fields_of field_of prefix parts onto number_of
    digits_of push_of
lines-of-trace = refl

-- ── the programs ──

programs :
    map (λ s. bad_line (read_programs s))
    (bytes ""
    ∷ bytes "program=18446744073709551615\ndo=18446744073709551615,18446744073709551615,18446744073709551615,18446744073709551615\n"
    ∷ bytes "program=18446744073709551616\n"
    ∷ bytes "do=1,2\n"
    ∷ bytes "do=0,0,0,0\n"
    ∷ bytes "program=0\ndo=0,0,0\n"
    ∷ bytes "program=0\nprogram=0\n"
    ∷ times 16 (bytes "program=0\n")
    ∷ times 17 (bytes "program=0\n")
    ∷ (bytes "program=0\n" ++ times 64 (bytes "do=0,0,0,0\n"))
    ∷ (bytes "program=0\n" ++ times 65 (bytes "do=0,0,0,0\n"))
    ∷ replicate 65536 120
    ∷ [])
    ≡ none ∷ none ∷ some 1 ∷ some 1 ∷ some 1 ∷ some 2 ∷ none ∷ none ∷ some 17 ∷ none ∷ some 66 ∷ some 0 ∷ []
unfolding read_programs read_text read_lines add_line add_program add_do within line_of fields_of field_of prefix parts onto number_of digits_of push_of
programs = refl

lines-of-programs :
    read_programs (bytes "program=0\ndo=1,2,3,4\nprogram=7\n")
    ≡ readable (
    record { number = 0; n = 1; code = record { code = 1; a = 2; b = 3; c = 4 } ∷ [] }
    ∷ record { number = 7; n = 0; code = [] }
    ∷ [])
unfolding read_programs read_text read_lines add_line add_program add_do within line_of fields_of field_of prefix parts onto number_of digits_of push_of
lines-of-programs = refl

-- ── the schedule ──

schedules :
    map (λ s. bad_line (read_schedule s))
    (bytes ""
    ∷ bytes "arrive=65535,18446744073709551615,0,0\nturn=65535\n"
    ∷ bytes "arrive=65536,0,0,0\n"
    ∷ bytes "turn=65536\n"
    ∷ bytes "turn=1,\n"
    ∷ bytes "turn=1"
    ∷ times 64 (bytes "arrive=1,0,0,0\n")
    ∷ times 65 (bytes "arrive=1,0,0,0\n")
    ∷ times 200 (bytes "turn=1\n")
    ∷ replicate 65536 120
    ∷ [])
    ≡ none ∷ none ∷ some 1 ∷ some 1 ∷ some 1 ∷ some 1 ∷ none ∷ some 65 ∷ none ∷ some 0 ∷ []
unfolding read_schedule read_text read_lines add_line add_arrive add_turn within line_of fields_of field_of prefix parts onto number_of digits_of
    push_of
schedules = refl

lines-of-schedule :
    read_schedule (bytes "arrive=1,2,3,4\nturn=1\n") ≡ readable (Arrive 1 2 3 4 ∷ Turn 1 ∷ [])
unfolding read_schedule read_text read_lines add_line add_arrive add_turn within line_of fields_of field_of prefix parts onto number_of digits_of
    push_of
lines-of-schedule = refl
