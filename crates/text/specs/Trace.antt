-- The trace: requests and responses in time order, at most 64 of each.
use Rattle.std.specs.Prelude.{ℕ, List, [], ◌∷◌, ◌++◌, Bool, true, false, not, get_or}
use Rattle.std.proofs.Math.Option.{Option}
use Rattle.basics.specs.Count.{count}
use Rattle.text.specs.Text.{Read, Kind, within, read_text}
use Rattle.text.specs.Formats.{request_line, response_line, most_requests, most_responses}
use Rattle.text.specs.declared.trace.Event.{Event}
use Rattle.text.specs.declared.trace.Event.TheVariants.{Request, Response}

-- the numbers of a `request` and of a `response` line
abbrev pub request_from : List ℕ → Event
request_from v = Request (get_or v 0 0) (get_or v 1 0) (get_or v 2 0) (get_or v 3 0)

abbrev pub response_from : List ℕ → Event
response_from v = Response (get_or v 0 0) (get_or v 1 0) (get_or v 2 0)

abbrev pub is_request : Event → Bool
is_request (Request rid prog a b) = true
is_request (Response rid status value) = false

abbrev pub is_response : Event → Bool
is_response e = not (is_request e)

unfoldable pub add_request : List Event → List ℕ → Option (List Event)
add_request es v = within (count is_request es) most_requests (es ++ request_from v ∷ [])

unfoldable pub add_response : List Event → List ℕ → Option (List Event)
add_response es v = within (count is_response es) most_responses (es ++ response_from v ∷ [])

abbrev pub trace_kinds : List (Kind (List Event))
trace_kinds = record { format = request_line; add = add_request } ∷ record { format = response_line; add = add_response } ∷ []

unfoldable pub read_trace : List ℕ → Read (List Event)
read_trace s = read_text trace_kinds [] s
