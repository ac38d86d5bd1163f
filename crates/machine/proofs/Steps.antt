-- Laws of a request that goes on: what one instruction does to a request that has instructions left.
use Rattle.std.proofs.Common.{◌≡◌, ℕ, suc, ◌+◌, ◌-◌, ◌%◌, ◌<◌, ◌≤◌, List, [], ◌∷◌, ap, arith}
use Rattle.text.specs.declared.programs.Instr.{Instr}
use Rattle.machine.specs.declared.instructions.Act.TheVariants.{Goes, Asks, Replies}
use Rattle.machine.specs.declared.instructions.Act.{Act}
use Rattle.machine.specs.declared.processes.Next.TheVariants.{Operation, Reply, Cut}
use Rattle.machine.specs.Instructions.{effect, effect_of}
use Rattle.machine.specs.Processes.{Advanced, advanced, stop_at, behind, go, advance_of, instr_at}

-- what follows an instruction that came to x, with the locals l after it: f goes on
abbrev pub follow : Act → List ℕ → (next done : ℕ) → (List ℕ → ℕ → Advanced) → Advanced
follow x l n done f =
    elim x [
      | Goes to ↦ f l to
      | Asks o into ↦ advanced l (stop_at n done (Operation o into)) []
      | Replies v ↦ advanced l (stop_at n done (Reply v)) []
    ]

module _ (limit : ℕ) (p : List Instr) (l : List ℕ) (at done : ℕ) (h : done < limit) where
  left : limit - done ≡ suc (limit - (done + 1))
  left = omega arith

  -- one instruction, that comes to x with the locals m
  pub one : (m : List ℕ) (x : Act) → effect_of l (instr_at p at) (at % 64 + 1) ≡ effect m x
      → advance_of limit p l at done
      ≡ behind (at % 64 ∷ []) (follow x m (at % 64 + 1) (done + 1) (λ n to. advance_of limit p n to (done + 1)))
  unfolding go
  one m x e =
      rw left
      (ap (λ e. behind (at % 64 ∷ []) (follow e.act e.locals (at % 64 + 1) (done + 1) (λ n to. advance_of limit p n to (done + 1)))) e)

-- none is left
pub cut : (limit : ℕ) (p : List Instr) (l : List ℕ) (at done : ℕ) → limit ≤ done
    → advance_of limit p l at done ≡ advanced l (stop_at at done Cut) []
unfolding go
cut limit p l at done h = let z : limit - done ≡ 0 = omega arith in rw z
