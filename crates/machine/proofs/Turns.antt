-- Laws of a process: one instruction takes it on, or stops it, and at its limit it is cut. A loop that carries out instructions keeps `gone`
-- of its process by them.
use Rattle.std.proofs.Common.{◌≡◌, ℕ, ◌+◌, ◌%◌, ◌<◌, ◌≤◌, List, [], ◌∷◌, ◌++◌, sym, ap, ◌∙◌, append-nil}
use lib.Seq.{append_snoc}
use Rattle.text.specs.declared.programs.Program.{Program}
use Rattle.text.specs.declared.report.Op.{Op}
use Rattle.machine.specs.declared.instructions.Act.{Act}
use Rattle.machine.specs.declared.instructions.Act.TheVariants.{Goes, Asks, Replies}
use Rattle.machine.specs.declared.processes.Next.TheVariants.{Operation, Reply, Cut}
use Rattle.machine.specs.Instructions.{Effect, effect, effect_of}
use Rattle.machine.specs.Processes.{Advanced, advanced, behind, stop_at, instr_at, advance_of}
use Rattle.machine.specs.Instance.{Process, code_at, gone}
use Rattle.machine.proofs.Steps.{follow, one, cut}

module _ (limit : ℕ) (table : List Program) (p : Process) (h : p.done < limit) where
  -- the process's next instruction
  abbrev does : Effect
  does = effect_of p.locals (instr_at (code_at table p.prog) p.at) (p.at % 64 + 1)

  abbrev marked : List ℕ
  marked = p.path ++ (p.at % 64) ∷ []

  -- what follows an instruction that came to x
  abbrev rest : Act → List ℕ → Advanced
  rest x m = follow x m (p.at % 64 + 1) (p.done + 1) (λ n to. advance_of limit (code_at table p.prog) n to (p.done + 1))

  next : (m : List ℕ) (x : Act) → does ≡ effect m x → gone limit table p ≡ behind marked (rest x m)
  next m x e =
      let r = rest x m in
      ap (behind p.path) (one limit (code_at table p.prog) p.locals p.at p.done h m x e)
      ∙ ap (advanced r.locals r.stop) (sym (append_snoc p.path (p.at % 64) r.path))

  pub moved : (m : List ℕ) (to : ℕ) → does ≡ effect m (Goes to)
      → gone limit table p ≡ gone limit table (record { prog = p.prog; locals = m; at = to; done = p.done + 1; path = marked })
  moved m to e = next m (Goes to) e

  pub asked : (m : List ℕ) (o : Op) (into : ℕ) → does ≡ effect m (Asks o into)
      → gone limit table p ≡ advanced m (stop_at (p.at % 64 + 1) (p.done + 1) (Operation o into)) marked
  asked m o into e = next m (Asks o into) e ∙ ap (advanced m (stop_at (p.at % 64 + 1) (p.done + 1) (Operation o into))) (append-nil marked)

  pub replied : (m : List ℕ) (v : ℕ) → does ≡ effect m (Replies v)
      → gone limit table p ≡ advanced m (stop_at (p.at % 64 + 1) (p.done + 1) (Reply v)) marked
  replied m v e = next m (Replies v) e ∙ ap (advanced m (stop_at (p.at % 64 + 1) (p.done + 1) (Reply v))) (append-nil marked)

pub cut_off : (limit : ℕ) (table : List Program) (p : Process) → limit ≤ p.done
    → gone limit table p ≡ advanced p.locals (stop_at p.at p.done Cut) p.path
cut_off limit table p h =
    ap (behind p.path) (cut limit (code_at table p.prog) p.locals p.at p.done h)
    ∙ ap (advanced p.locals (stop_at p.at p.done Cut)) (append-nil p.path)
