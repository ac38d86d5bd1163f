-- The programs text: at most 16 programs of at most 64 instructions each.
use Rattle.std.specs.Prelude.{ℕ, suc, List, [], ◌∷◌, ◌++◌, Bool, ltb, length, get_or}
use Rattle.std.proofs.Math.Option.{Option, some, none}
use Rattle.text.specs.Text.{Read, Kind, within, read_text}
use Rattle.text.specs.Formats.{program_line, do_line, most_programs, most_instructions}
use Rattle.text.specs.declared.programs.Instr.{Instr}
use Rattle.text.specs.declared.programs.Program.{Program}

-- the blank instruction and program: what stands past the end of a program, and of the table
abbrev pub no_instr : Instr
no_instr = record { code = 0; a = 0; b = 0; c = 0 }

abbrev pub no_program : Program
no_program = record { number = 0; n = 0; code = [] }

-- the numbers of the programs that there are
abbrev pub known : List Program → ℕ → Bool
known table prog = ltb prog (length table)

-- the numbers of a `do` line
abbrev pub instr_from : List ℕ → Instr
instr_from v = record { code = get_or v 0 0; a = get_or v 1 0; b = get_or v 2 0; c = get_or v 3 0 }

-- a program with no instructions yet
abbrev pub begun : ℕ → Program
begun number = record { number = number; n = 0; code = [] }

-- an instruction more at a program's end
abbrev pub with_instr : Program → Instr → Program
with_instr p i = record { number = p.number; n = suc p.n; code = p.code ++ i ∷ [] }

unfoldable pub add_program : List Program → List ℕ → Option (List Program)
add_program ps v = within (length ps) most_programs (ps ++ begun (get_or v 0 0) ∷ [])

abbrev pub in_front_of : Program → Option (List Program) → Option (List Program)
in_front_of p (some ps) = some (p ∷ ps)
in_front_of p none = none

-- an instruction belongs to the last program
unfoldable pub add_do : List Program → List ℕ → Option (List Program)
add_do [] v = none
add_do (p ∷ []) v = within p.n most_instructions (with_instr p (instr_from v) ∷ [])
add_do (p ∷ q ∷ ps) v = in_front_of p (add_do (q ∷ ps) v)

abbrev pub program_kinds : List (Kind (List Program))
program_kinds = record { format = program_line; add = add_program } ∷ record { format = do_line; add = add_do } ∷ []

unfoldable pub read_programs : List ℕ → Read (List Program)
read_programs s = read_text program_kinds [] s
