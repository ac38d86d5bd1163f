-- Laws of a request that goes on, as a loop over its instructions meets them.
use Rattle.std.proofs.Common.{◌≡◌, ℕ, ◌+◌, ◌%◌, ◌≤◌, ◌<◌, List, [], sym, ap}
use Rattle.text.specs.declared.programs.Instr.{Instr}
use Rattle.machine.specs.Instructions.{effect, effect_of}
use Rattle.machine.specs.Processes.{advanced, limit, instr_at, stop_at, advance_of}
use Rattle.machine.specs.declared.instructions.Act.{Act}
use Rattle.machine.specs.declared.processes.Next.TheVariants.{Cut}
use Rattle.machine.proofs.Steps.{follow, one, cut}
use Rattle.host.specs.Requests.{pathless}

module _ (code : List Instr) (l : List ℕ) (at done : ℕ) where
  -- one instruction, which came to x with the locals m
  pub went : done < limit → (m : List ℕ) (x : Act) → effect_of l (instr_at code at) (at % 64 + 1) ≡ effect m x →
      pathless (follow x m (at % 64 + 1) (done + 1) (λ n to. advance_of limit code n to (done + 1)))
      ≡ pathless (advance_of limit code l at done)
  went h m x e = sym (ap pathless (one limit code l at done h m x e))

  pub cut_off : limit ≤ done → pathless (advance_of limit code l at done) ≡ advanced l (stop_at at done Cut) []
  cut_off h = ap pathless (cut limit code l at done h)
