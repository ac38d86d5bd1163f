-- The schedule: `arrive` and `turn` lines, at most 64 arrivals.
use Rattle.std.specs.Prelude.{ℕ, List, [], ◌∷◌, ◌++◌, Bool, true, false, get_or}
use Rattle.std.proofs.Math.Option.{Option, some}
use Rattle.basics.specs.Count.{count}
use Rattle.text.specs.Text.{Read, Kind, within, read_text}
use Rattle.text.specs.Formats.{arrive_line, turn_line, most_arrivals}
use Rattle.text.specs.declared.schedule.Move.{Move}
use Rattle.text.specs.declared.schedule.Move.TheVariants.{Arrive, Turn}

-- the numbers of an `arrive` and of a `turn` line
abbrev pub arrive_from : List ℕ → Move
arrive_from v = Arrive (get_or v 0 0) (get_or v 1 0) (get_or v 2 0) (get_or v 3 0)

abbrev pub turn_from : List ℕ → Move
turn_from v = Turn (get_or v 0 0)

abbrev pub is_arrive : Move → Bool
is_arrive (Arrive rid prog a b) = true
is_arrive (Turn rid) = false

unfoldable pub add_arrive : List Move → List ℕ → Option (List Move)
add_arrive ms v = within (count is_arrive ms) most_arrivals (ms ++ arrive_from v ∷ [])

unfoldable pub add_turn : List Move → List ℕ → Option (List Move)
add_turn ms v = some (ms ++ turn_from v ∷ [])

abbrev pub schedule_kinds : List (Kind (List Move))
schedule_kinds = record { format = arrive_line; add = add_arrive } ∷ record { format = turn_line; add = add_turn } ∷ []

unfoldable pub read_schedule : List ℕ → Read (List Move)
read_schedule s = read_text schedule_kinds [] s
