-- The order of the rows, by batches that break two of them at once: what the audit finds of each, and the first two rows that hold of it. Were
-- the rows in another order, something else would be found of some batch of the table.
use Prim.Native.Nat.{ℕ}
use Prim.Native.String.{String}
use mathlib.Core.Bool.{Bool, true, false, ◌&&◌, ◌||◌, not}
use mathlib.Core.List.{List, [], ◌∷◌, ◌++◌, map}
use mathlib.Core.Option.{none, some}
use mathlib.Core.Path.{◌≡◌, refl}
use lib.Dec.{eqb, ltb}
use lib.ListN.{take}
use Rattle.basics.specs.Maps.{upd}
use Rattle.lines.specs.Line.{prefix, field_of, fields_of, line_of}
use Rattle.lines.specs.Number.{push_of, digits_of, number_of}
use Rattle.lines.specs.Parts.{onto, parts}
use Rattle.text.specs.Programs.{add_program, add_do, read_programs}
use Rattle.text.specs.Report.{add_of, add_log, read_report}
use Rattle.text.specs.Text.{unreadable, within, add_line, read_lines, read_text}
use Rattle.text.specs.Trace.{add_request, add_response, read_trace}
use Rattle.ordering.specs.Merge.{bump}
use Rattle.model.specs.Audit.{bad11, bad12}
use Rattle.model.specs.Checks.{Verdict, verdict, Check, check, first_fault, contents}
use Rattle.model.specs.Replay.{Reply, Outcome, differs}
use Rattle.model.specs.Requests.{row4}
use Rattle.machine.specs.Instructions.{effect_as}
use Rattle.machine.specs.Objects.{at_start}
use Rattle.machine.specs.Processes.{go}
use Rattle.machine.specs.Rules.{row2}
use Rattle.verifier.specs.Faults.{audit_of, checks_of}
use Rattle.verifier.specs.declared.Audited.{Audited}
use Rattle.verifier.proofs.Stars.{Case, case, text, audits, refused, cases, programs_abc, no_local, trace_c, report_b, replies, answered}

-- a batch that is refused, and the rows that hold of it: the first, which is the verdict, and the next
record Pair : Type 0 where
  batch : Case
  holding : List Verdict

abbrev pair : (programs trace report : List String) → (first : Verdict) → List Verdict → Pair
pair programs trace report v next =
    record { batch = case programs trace report (refused v.number v.line); holding = v ∷ next }

-- the rows of a batch, and those that hold, in their order
abbrev rows : Case → List Check
rows c = checks_of at_start (read_programs (text c.program_lines)) (read_trace (text c.trace_lines)) (read_report (text c.report_lines))

abbrev faults : List Check → List Verdict
faults [] = []
faults (check k none ∷ cs) = faults cs
faults (check k (some n) ∷ cs) = verdict k n ∷ faults cs

-- ── the table ──
-- Three requests of programs that reply at once, and carry out no operation. Faults of requests 2 and 3: an operation in the report, another
-- response, the group of request 1, whose program is another.
abbrev three : (of2 of3 response2 response3 : String) → (logs : List String) → (first : Verdict) → List Verdict → Pair
three of2 of3 response2 response3 logs =
    pair ("program=0" ∷ "do=0,0,0,0" ∷ "program=1" ∷ "do=0,0,0,0" ∷ [])
    ("request=1,0,0,0" ∷ "request=2,1,0,0" ∷ "request=3,1,0,0" ∷ "response=1,0,0" ∷ response2 ∷ response3 ∷ [])
    ("of=1,0,0" ∷ of2 ∷ of3 ∷ logs)

-- case B, whose order returns to itself, with other lines
abbrev returning : (of1 of2 response1 read : String) → (first : Verdict) → List Verdict → Pair
returning of1 of2 response1 read = pair programs_abc (trace_c response1 "response=2,0,0") (report_b of1 of2 "log=0,2,2,6,0,0" read)

abbrev pairs : List Pair
pairs =
    -- 1 and 2: what is unreadable holds nothing, so that no rule is broken
    pair (no_local ++ ("do=1" ∷ [])) [] [] (verdict 1 3) []
    -- 1 and 3, 2 and 3
    ∷ pair ("do=1,2" ∷ []) ("request=01,0,0,0" ∷ []) [] (verdict 1 1) (verdict 3 1 ∷ [])
    ∷ pair no_local ("request=01,0,0,0" ∷ []) [] (verdict 2 2) (verdict 3 1 ∷ [])
    -- 1 and 4, 2 and 4
    ∷ pair ("do=1,2" ∷ []) ("response=1,0,0" ∷ []) [] (verdict 1 1) (verdict 4 1 ∷ [])
    ∷ pair no_local ("response=1,0,0" ∷ []) [] (verdict 2 2) (verdict 4 1 ∷ [])
    -- 3 and 4, as 1 and 2
    ∷ pair replies ("response=1,0,0" ∷ "request=01,0,0,0" ∷ []) [] (verdict 3 2) []
    -- 3 and 5, 4 and 5
    ∷ pair replies ("request=01,0,0,0" ∷ []) ("of=1,0" ∷ []) (verdict 3 1) (verdict 5 1 ∷ [])
    ∷ pair replies ("response=1,0,0" ∷ []) ("of=1,0" ∷ []) (verdict 4 1) (verdict 5 1 ∷ [])
    -- 5 and 6
    ∷ pair replies answered ("of=2,0,0" ∷ "log=0" ∷ []) (verdict 5 2) (verdict 6 1 ∷ [])
    -- 6 and 7: the second of line is one too many, and the log line's number is above its count
    ∷ pair replies answered ("of=1,0,0" ∷ "of=2,1,0" ∷ "log=0,1,1,7,0,1" ∷ []) (verdict 6 2) (verdict 7 3 ∷ [])
    -- 7 and 8: operation 2 is above the count, operation 1 has no line
    ∷ pair replies answered ("of=1,0,1" ∷ "log=0,1,2,7,0,1" ∷ []) (verdict 7 2) (verdict 8 1 ∷ [])
    -- 8 and 9: operation 3 has no line
    ∷ returning "of=1,0,3" "of=2,1,2" "response=1,0,0" "log=1,1,2,6,0,0" (verdict 8 1) (verdict 9 0 ∷ [])
    -- 9 and 10, 11, 12: a wrong value read, a wrong response, one group for both
    ∷ returning "of=1,0,2" "of=2,1,2" "response=1,0,0" "log=1,1,2,6,0,1" (verdict 9 0) (verdict 10 1 ∷ [])
    ∷ returning "of=1,0,2" "of=2,1,2" "response=1,0,5" "log=1,1,2,6,0,0" (verdict 9 0) (verdict 11 1 ∷ [])
    ∷ returning "of=1,0,2" "of=2,0,2" "response=1,0,0" "log=1,1,2,6,0,0" (verdict 9 0) (verdict 12 2 ∷ [])
    -- of one request: 10 and 11, 10 and 12, where no response and no path is looked at behind an operation that differs; 11 and 12
    ∷ three "of=2,1,1" "of=3,2,0" "response=2,0,5" "response=3,0,0" ("log=0,2,1,7,0,1" ∷ []) (verdict 10 2) []
    ∷ three "of=2,0,1" "of=3,2,0" "response=2,0,0" "response=3,0,0" ("log=0,2,1,7,0,1" ∷ []) (verdict 10 2) []
    ∷ three "of=2,0,0" "of=3,2,0" "response=2,0,5" "response=3,0,0" [] (verdict 11 2) (verdict 12 2 ∷ [])
    -- of two requests, each of 10, 11 and 12 before each
    ∷ three "of=2,1,1" "of=3,2,1" "response=2,0,0" "response=3,0,0" ("log=0,2,1,7,0,1" ∷ "log=0,3,1,7,0,1" ∷ []) (verdict 10 2) (verdict 10 3 ∷ [])
    ∷ three "of=2,1,1" "of=3,2,0" "response=2,0,0" "response=3,0,5" ("log=0,2,1,7,0,1" ∷ []) (verdict 10 2) (verdict 11 3 ∷ [])
    ∷ three "of=2,1,1" "of=3,0,0" "response=2,0,0" "response=3,0,0" ("log=0,2,1,7,0,1" ∷ []) (verdict 10 2) (verdict 12 3 ∷ [])
    ∷ three "of=2,1,0" "of=3,2,1" "response=2,0,5" "response=3,0,0" ("log=0,3,1,7,0,1" ∷ []) (verdict 11 2) (verdict 10 3 ∷ [])
    ∷ three "of=2,1,0" "of=3,2,0" "response=2,0,5" "response=3,0,5" [] (verdict 11 2) (verdict 11 3 ∷ [])
    ∷ three "of=2,1,0" "of=3,0,0" "response=2,0,5" "response=3,0,0" [] (verdict 11 2) (verdict 12 3 ∷ [])
    ∷ three "of=2,0,0" "of=3,2,1" "response=2,0,0" "response=3,0,0" ("log=0,3,1,7,0,1" ∷ []) (verdict 12 2) (verdict 10 3 ∷ [])
    ∷ three "of=2,0,0" "of=3,2,0" "response=2,0,0" "response=3,0,5" [] (verdict 12 2) (verdict 11 3 ∷ [])
    ∷ three "of=2,0,0" "of=3,0,0" "response=2,0,0" "response=3,0,0" [] (verdict 12 2) (verdict 12 3 ∷ [])
    ∷ []

abbrev found : Pair → Audited × List Verdict
found p = (audits p.batch, take 2 (faults (rows p.batch)))

first-of-two : map found pairs ≡ map (λ p. (p.batch.finds, p.holding)) pairs
unfolding audit_of read_programs read_trace read_report read_text read_lines add_line line_of fields_of field_of prefix number_of digits_of push_of
    parts onto within add_program add_do add_request add_response add_of add_log go effect_as upd bump
first-of-two = refl

-- ── other orders ──
-- the checks of the rows that pass a test
abbrev those : (ℕ → Bool) → List Check → List Check
those test [] = []
those test (check k x ∷ cs) = elim (test k) [ true ↦ check k x ∷ those test cs | false ↦ those test cs ]

-- row k before all others, and behind them
abbrev first : (k : ℕ) → List Check → List Check
first k cs = those (eqb k) cs ++ those (λ j. not (eqb k j)) cs

abbrev last : (k : ℕ) → List Check → List Check
last k cs = those (λ j. not (eqb k j)) cs ++ those (eqb k) cs

-- rows 10, 11 and 12, each over all requests
abbrev row_by_row : List Check → List Check
row_by_row cs = those (λ k. ltb k 10) cs ++ (those (eqb 10) cs ++ (those (eqb 11) cs ++ those (eqb 12) cs))

-- each check of row k behind the next one
abbrev exchanged : (k : ℕ) → List Check → List Check
exchanged k [] = []
exchanged k (c ∷ []) = c ∷ []
exchanged k (check j x ∷ c ∷ cs) =
    elim (eqb j k) [ true ↦ c ∷ check j x ∷ exchanged k cs | false ↦ check j x ∷ exchanged k (c ∷ cs) ]

-- Of an unreadable text nothing was read, and where an operation differs there is no reply and no path. So rows 1 and 2, 3 and 4, and of one
-- request 10 with 11 or 12, never hold together, and in either order the verdict is the same.
not-1-and-2 : (n : ℕ) → row2 (contents [] (unreadable n)) ≡ none
not-1-and-2 n = refl

not-3-and-4 : (known : ℕ → Bool) (n : ℕ) → row4 known (contents [] (unreadable n)) ≡ none
not-3-and-4 known n = refl

not-10-and-11 : (a : Reply) → bad11 a differs ≡ false
not-10-and-11 a = refl

not-10-and-12 : (first : Outcome) → bad12 first differs ≡ false
not-10-and-12 first = refl

-- All others of two neighbours are exchanged, row 12 with row 10 of the next request.
abbrev others : List (List Check → List Check)
others =
    first 3 ∷ first 4 ∷ last 9 ∷ row_by_row
    ∷ map exchanged (2 ∷ 4 ∷ 5 ∷ 6 ∷ 7 ∷ 8 ∷ 9 ∷ 11 ∷ 12 ∷ [])

abbrev same : Verdict → Audited → Bool
same v a = eqb v.number a.verdict && eqb v.line a.line

-- some batch gets another verdict
abbrev told : List Case → (List Check → List Check) → Bool
told [] order = false
told (c ∷ cs) order = not (same (first_fault (order (rows c))) c.finds) || told cs order

no-other-order : map (told (map (λ p. p.batch) pairs)) others ≡ map (λ order. true) others
unfolding read_programs read_trace read_report read_text read_lines add_line line_of fields_of field_of prefix number_of digits_of push_of
    parts onto within add_program add_do add_request add_response add_of add_log go effect_as upd bump
no-other-order = refl

-- The scope's cases A and B, as changes of case C, show by themselves that row 9 goes before row 10.
stars-tell : told cases (last 9) ≡ true
unfolding read_programs read_trace read_report read_text read_lines add_line line_of fields_of field_of prefix number_of digits_of push_of
    parts onto within add_program add_do add_request add_response add_of add_log go effect_as upd bump
stars-tell = refl
