-- The codes of instructions: the table of the scope, 'The machine', has a row for each. A log line's kind is the code of its operation.
use Rattle.std.specs.Prelude.{ℕ, Bool, true, false, List, [], ◌∷◌, ltb, get_or, length}

pub data Code : Type 0 where
  reply constant add subtract less jump read write get put has other : Code

-- in the order of their numbers, from 0
abbrev pub codes : List Code
codes = reply ∷ constant ∷ add ∷ subtract ∷ less ∷ jump ∷ read ∷ write ∷ get ∷ put ∷ has ∷ []

-- a number past the last is no code
abbrev pub is_code : ℕ → Bool
is_code n = ltb n (length codes)

abbrev pub code_of : ℕ → Code
code_of n = get_or codes n other

-- an operation goes to an object; the other instructions have to do with the locals alone
abbrev pub operates : Code → Bool
operates reply = false
operates constant = false
operates add = false
operates subtract = false
operates less = false
operates jump = false
operates read = true
operates write = true
operates get = true
operates put = true
operates has = true
operates other = false

abbrev pub is_operation : ℕ → Bool
is_operation n = operates (code_of n)
