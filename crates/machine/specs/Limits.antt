-- How many locals a request has, and which objects are registers. Formats says how many objects there are.
use Rattle.std.specs.Prelude.{ℕ}

abbrev pub most_locals : ℕ
most_locals = 8

-- objects below this are registers, the others are stores
abbrev pub first_store : ℕ
first_store = 8
