-- A request as it goes on: up to and including its next operation, or to its reply, or to its cut.
use Rattle.std.specs.Prelude.{ℕ, zero, suc, ◌+◌, ◌-◌, ◌%◌, cond, List, [], ◌∷◌, ◌++◌, nat_lt, slice_index_or, slice_set}
use Rattle.text.specs.Formats.{most_instructions}
use Rattle.text.specs.declared.programs.Instr.{Instr}
use Rattle.text.specs.Programs.{no_instr}
use Rattle.machine.specs.declared.instructions.Act.TheVariants.{Goes, Asks, Replies}
use Rattle.machine.specs.declared.processes.Next.{Next}
use Rattle.machine.specs.declared.processes.Next.TheVariants.{Operation, Reply, Cut}
use Rattle.machine.specs.declared.processes.Stop.{Stop}
use Rattle.machine.specs.Instructions.{effect_of, no_local}

-- the locals of a request with inputs a and b
abbrev pub first_locals : ℕ → ℕ → List ℕ
first_locals a b = a ∷ b ∷ 0 ∷ 0 ∷ 0 ∷ 0 ∷ 0 ∷ 0 ∷ []

-- a request that has carried out this many instructions without a reply is cut off
abbrev pub limit : ℕ
limit = 256

-- The instruction at a position. Positions count modulo the room for a program's instructions; the program rules keep a request from
-- what stands behind the last.
abbrev pub instr_at : List Instr → ℕ → Instr
instr_at p at = slice_index_or p (at % most_instructions) no_instr

-- a request that has gone on: its locals, where it stands and what it came to, and the positions of the instructions carried out on the way
pub record Advanced : Type 0 where
  pub locals : List ℕ
  pub stop : Stop
  pub path : List ℕ

abbrev pub advanced : List ℕ → Stop → List ℕ → Advanced
advanced l s path = record { locals = l; stop = s; path = path }

abbrev pub stop_at : (at done : ℕ) → Next → Stop
stop_at at done x = record { at = at; done = done; next = x }

-- with the positions that were carried out before
abbrev pub behind : List ℕ → Advanced → Advanced
behind path r = advanced r.locals r.stop (path ++ r.path)

-- a request with k instructions left, which has carried out `done`
unfoldable pub go : (k : ℕ) → List Instr → List ℕ → (at done : ℕ) → Advanced
go zero p l at done = advanced l (stop_at at done Cut) []
go (suc k) p l at done =
    let here = at % most_instructions in
    let e = effect_of l (instr_at p at) (here + 1) in
    behind (here ∷ [])
    (elim e.act [
      | Goes to ↦ go k p e.locals to (done + 1)
      | Asks o into ↦ advanced e.locals (stop_at (here + 1) (done + 1) (Operation o into)) []
      | Replies v ↦ advanced e.locals (stop_at (here + 1) (done + 1) (Reply v)) []
    ])

-- under a limit of instructions in all; it is looked at before an instruction is fetched
abbrev pub advance_of : (limit : ℕ) → List Instr → List ℕ → (at done : ℕ) → Advanced
advance_of limit p l at done = go (limit - done) p l at done

-- the answer v of an operation goes into its local, if it has one
abbrev pub resumed : List ℕ → (into v : ℕ) → List ℕ
resumed l into v = cond (nat_lt into no_local) (slice_set l into v) l
