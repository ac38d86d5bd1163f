-- What the private functions of this crate promise. The public contracts do not need it.
use Rattle.std.specs.Prelude.{ℕ, ◌+◌, ◌-◌, Bool, true, false, List, length, drop, Option, Some, None, ◌==◌, nat_eq, nat_lt, slice_index}
use Rattle.lines.specs.Number.{digits_of}
use Rattle.lines.specs.Place.{field, spell}

-- whether b ends a number: a comma or a line feed
unfoldable pub ends_of : ℕ → Bool
ends_of b = elim (b == 44) [ true ↦ true | false ↦ nat_eq b 10 ]

-- what is left of a number from i on, behind v
unfoldable pub spelling : ℕ → List ℕ → ℕ → Option (ℕ × ℕ)
spelling v s i = spell (digits_of v (field (drop i s))) (i + length (field (drop i s)))

-- whether a comma stands at e
unfoldable pub comma_at : List ℕ → ℕ → Bool
comma_at s e = elim (nat_lt e (length s)) [ true ↦ nat_eq (slice_index s e) 44 | false ↦ false ]

-- the room left behind n bytes, where there are as many
unfoldable pub room_behind : (room n : ℕ) → Option ℕ
room_behind room n = elim (nat_lt room n) [ true ↦ None | false ↦ Some (room - n) ]
