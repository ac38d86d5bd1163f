-- The kinds of line of the four texts, and the records of their lines.
use Rattle.std.proofs.Common.{◌≡◌, ℕ, true, List, [], ◌∷◌, refl, ap, arith, get_or}
use Rattle.lines.proofs.Prefix.{unbroken}
use Rattle.text.specs.Programs.{in_front_of, add_program, add_do, program_kinds}
use Rattle.text.specs.Formats.{program_line, do_line, request_line, response_line, of_line, log_line, arrive_line, turn_line}
use Rattle.text.specs.Trace.{request_from, response_from, add_request, add_response, trace_kinds}
use Rattle.text.specs.Report.{add_of, add_log, report_kinds}
use Rattle.text.specs.Schedule.{add_arrive, add_turn, schedule_kinds}
use Rattle.text.specs.Steps.{
  event_adds,
  group_from,
  log_from,
  report_adds,
  arrived_from,
  turned_from,
  schedule_adds,
  program_from,
  do_from,
  program_adds,
}
use Rattle.text.specs.declared.programs.Program.{Program}
use Rattle.text.proofs.LineKinds.{Told, apart}

pub request-told : Told (record { format = request_line; add = add_request }) request_from event_adds 0
unfolding unbroken add_request
request-told = record { whole = refl; adding = λ vs y. refl; bytes = omega arith }

pub response-told : Told (record { format = response_line; add = add_response }) response_from event_adds 0
unfolding unbroken add_response
response-told = record { whole = refl; adding = λ vs y. refl; bytes = omega arith }

pub of-told : Told (record { format = of_line; add = add_of }) group_from report_adds 0
unfolding unbroken add_of
of-told = record { whole = refl; adding = λ vs y. refl; bytes = omega arith }

pub log-told : Told (record { format = log_line; add = add_log }) log_from report_adds 0
unfolding unbroken add_log
log-told = record { whole = refl; adding = λ vs y. refl; bytes = omega arith }

pub arrive-told : Told (record { format = arrive_line; add = add_arrive }) arrived_from schedule_adds 7
unfolding unbroken add_arrive
arrive-told = record { whole = refl; adding = λ vs y. refl; bytes = omega arith }

pub turn-told : Told (record { format = turn_line; add = add_turn }) turned_from schedule_adds 7
unfolding unbroken add_turn
turn-told = record { whole = refl; adding = λ vs y. refl; bytes = omega arith }

pub program-told : Told (record { format = program_line; add = add_program }) program_from program_adds 0
unfolding unbroken add_program
program-told = record { whole = refl; adding = λ vs y. refl; bytes = omega arith }

-- a `do` line adds by its first four numbers
first-four : (vs : List ℕ) (ps : List Program) → add_do ps vs ≡ add_do ps (get_or vs 0 0 ∷ get_or vs 1 0 ∷ get_or vs 2 0 ∷ get_or vs 3 0 ∷ [])
unfolding add_do
first-four vs [] = refl
first-four vs (p ∷ []) = refl
first-four vs (p ∷ q ∷ ps) = ap (in_front_of p) (first-four vs (q ∷ ps))

pub do-told : Told (record { format = do_line; add = add_do }) do_from program_adds 0
unfolding unbroken
do-told = record { whole = refl; adding = first-four; bytes = omega arith }

-- the kinds of each text are apart, so `told-known` is a law of it
pub trace-apart : apart trace_kinds ≡ true
unfolding unbroken
trace-apart = refl

pub report-apart : apart report_kinds ≡ true
unfolding unbroken
report-apart = refl

pub schedule-apart : apart schedule_kinds ≡ true
unfolding unbroken
schedule-apart = refl

pub programs-apart : apart program_kinds ≡ true
unfolding unbroken
programs-apart = refl
