-- The program rules, by the fields of each code, and the first line that breaks one.
use Rattle.std.specs.Prelude.{ℕ, zero, suc, ◌+◌, Bool, true, not, ◌&&◌, ◌||◌, List, [], ◌∷◌, ◌++◌, ◌==◌, nat_le, nat_lt, slice_index_or, Result, Ok, Err}
use Rattle.std.proofs.Math.Option.{Option, none, some}
use Rattle.text.specs.Formats.{most_instructions, most_objects}
use Rattle.text.specs.Codes.{Code, reply, constant, add, subtract, less, jump, read, write, get, put, has, other, code_of, is_code}
use Rattle.text.specs.declared.programs.Instr.{Instr}
use Rattle.text.specs.declared.programs.Program.{Program}
use Rattle.text.specs.Programs.{no_instr}
use Rattle.model.specs.FirstBad.{first_bad}
use Rattle.machine.specs.Limits.{first_store, most_locals}
use Rattle.machine.specs.declared.rules.Field.{Field}
use Rattle.machine.specs.declared.rules.Field.TheVariants.{Unused, Constant, Local, Register, Store, Target}
use Rattle.machine.specs.declared.rules.Fields.{Fields}
use Rattle.text.specs.declared.reading.BadLine.{BadLine}

abbrev pub fields : (a b c : Field) → Fields
fields a b c = record { 0 = a; 1 = b; 2 = c }

-- what each field of each code names
abbrev pub fields_of : Code → Fields
fields_of reply = fields Local Unused Unused
fields_of constant = fields Local Constant Unused
fields_of add = fields Local Local Local
fields_of subtract = fields Local Local Local
fields_of less = fields Local Local Local
fields_of jump = fields Local Target Unused
fields_of read = fields Local Register Unused
fields_of write = fields Register Local Unused
fields_of get = fields Local Store Local
fields_of put = fields Store Local Local
fields_of has = fields Local Store Local
fields_of other = fields Unused Unused Unused

-- a field may be v, in a program of n instructions
abbrev pub fits_as : Field → ℕ → ℕ → Bool
fits_as Unused n v = v == 0
fits_as Constant n v = true
fits_as Local n v = nat_lt v most_locals
fits_as Register n v = nat_lt v first_store
fits_as Store n v = nat_le first_store v && nat_lt v most_objects
fits_as Target n v = nat_lt v n

abbrev pub fit_fields : Fields → ℕ → Instr → Bool
fit_fields f n i = fits_as f.0 n i.a && (fits_as f.1 n i.b && fits_as f.2 n i.c)

-- an instruction has a code, and its fields fit
abbrev pub keeps_fields : ℕ → Instr → Bool
keeps_fields n i = is_code i.code && fit_fields (fields_of (code_of i.code)) n i

-- A line of the programs text: that of program k, with its number and how many instructions it has, or that of instruction j of n.
pub data Line : Type 0 where
  program : (k number n : ℕ) → Line
  instruction : (j n : ℕ) → Instr → Line

-- k instructions of a program, from instruction j on
abbrev pub instruction_lines : (k j : ℕ) → Program → List Line
instruction_lines zero j p = []
instruction_lines (suc k) j p = instruction j p.n (slice_index_or p.code j no_instr) ∷ instruction_lines k (suc j) p

-- programs from program k on
abbrev pub lines_from : (k : ℕ) → List Program → List Line
lines_from k [] = []
lines_from k (p ∷ ps) = program k p.number p.n ∷ instruction_lines p.n 0 p ++ lines_from (suc k) ps

-- a program's number is its place, and it has an instruction (a table that was read has room for no more); the last instruction has code 0
abbrev pub keeps_rules : Line → Bool
keeps_rules (program k number n) = number == k && (not (n == 0) && nat_le n most_instructions)
keeps_rules (instruction j n i) = keeps_fields n i && (nat_lt (j + 1) n || i.code == 0)

-- Row 2: a program rule broken.
abbrev pub row2 : List Program → Option ℕ
row2 table = first_bad (λ past line. not (keeps_rules line)) 1 [] (lines_from 0 table)

-- the line that breaks a rule
abbrev pub broken_line : Result Unit BadLine → Option ℕ
broken_line (Ok _) = none
broken_line (Err e) = some e.line
