-- What each instruction does to the locals of a request, and what it comes to.
use Rattle.std.specs.Prelude.{ℕ, ◌+◌, ◌-◌, ◌%◌, ◌^◌, Bool, cond, List, ◌==◌, nat_lt, slice_index, slice_set}
use Rattle.text.specs.Formats.{most_objects}
use Rattle.text.specs.Codes.{Code, reply, constant, add, subtract, less, jump, read, write, get, put, has, other, code_of}
use Rattle.text.specs.declared.programs.Instr.{Instr}
use Rattle.machine.specs.Limits.{most_locals}
use Rattle.machine.specs.declared.instructions.Act.{Act}
use Rattle.machine.specs.declared.instructions.Act.TheVariants.{Goes, Asks, Replies}

-- a local, read and set. The program rules keep the numbers of locals and objects below how many there are; others count modulo these, so
-- that an instruction that breaks the rules still does something
abbrev pub local : List ℕ → ℕ → ℕ
local l i = slice_index l (i % most_locals)

abbrev pub assign : List ℕ → ℕ → ℕ → List ℕ
assign l i v = slice_set l (i % most_locals) v

abbrev pub bit : Bool → ℕ
bit b = cond b 1 0

-- the locals after an instruction, and what it came to
pub record Effect : Type 0 where
  pub locals : List ℕ
  pub act : Act

abbrev pub effect : List ℕ → Act → Effect
effect l x = record { locals = l; act = x }

-- local a becomes v, and the request goes on at n
abbrev pub becomes : List ℕ → Instr → ℕ → ℕ → Effect
becomes l i v n = effect (assign l i.a v) (Goes n)

-- stands for the local of an answer where an operation takes none
abbrev pub no_local : ℕ
no_local = most_locals

-- an operation, whose kind is the code, with 0 for a key or value that it does not have, and the local for its answer
abbrev pub asks : List ℕ → Instr → (object key value into : ℕ) → Effect
asks l i object key value into = effect l (Asks (record { object = object % most_objects; kind = i.code; key = key; value = value }) into)

-- each code's action on the locals l, where n is the position behind the instruction
unfoldable pub effect_as : Code → List ℕ → Instr → ℕ → Effect
effect_as reply l i n = effect l (Replies (local l i.a))
effect_as constant l i n = becomes l i i.b n
effect_as add l i n = becomes l i ((local l i.b + local l i.c) % 2 ^ 64) n
effect_as subtract l i n = becomes l i ((local l i.b + (2 ^ 64 - local l i.c)) % 2 ^ 64) n
effect_as less l i n = becomes l i (bit (nat_lt (local l i.b) (local l i.c))) n
effect_as jump l i n = effect l (Goes (cond (local l i.a == 0) n i.b))
effect_as read l i n = asks l i i.b 0 0 (i.a % most_locals)
effect_as write l i n = asks l i i.a 0 (local l i.b) no_local
effect_as get l i n = asks l i i.b (local l i.c) 0 (i.a % most_locals)
effect_as put l i n = asks l i i.a (local l i.b) (local l i.c) no_local
effect_as has l i n = asks l i i.b (local l i.c) 0 (i.a % most_locals)
effect_as other l i n = effect l (Goes n)

abbrev pub effect_of : List ℕ → Instr → ℕ → Effect
effect_of l i n = effect_as (code_of i.code) l i n
