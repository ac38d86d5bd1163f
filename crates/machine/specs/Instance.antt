-- The machine of the scope as the model's record, for a table of programs and a limit of instructions.
use Rattle.std.specs.Prelude.{ℕ, List, [], ◌∷◌, slice_index_or}
use Rattle.text.specs.declared.programs.Instr.{Instr}
use Rattle.text.specs.declared.programs.Program.{Program}
use Rattle.text.specs.Programs.{no_program}
use Rattle.model.specs.Machine.{Machine, op, stop}
use Rattle.model.specs.Machine as model
use Rattle.machine.specs.declared.processes.Next.{Next}
use Rattle.machine.specs.declared.processes.Next.TheVariants.{Operation, Reply, Cut}
use Rattle.machine.specs.Instructions.{no_local}
use Rattle.machine.specs.Processes.{Advanced, behind, first_locals, limit, advance_of, resumed}
use Rattle.machine.specs.Objects.{Content, apply, logged}
use Rattle.machine.specs.Redone.{apply_shown}

-- a request: its program, its locals, its position, how many instructions it has carried out, and their positions
pub record Process : Type 0 where
  pub prog : ℕ
  pub locals : List ℕ
  pub at : ℕ
  pub done : ℕ
  pub path : List ℕ

-- what a request comes to, as the model says it: a reply has status 0, a cut status 1 and value 0
abbrev pub next_of : Next → model.Next
next_of (Operation o into) = op o
next_of (Reply v) = stop 0 v
next_of Cut = stop 1 0

-- the local for the answer
abbrev pub into_of : Next → ℕ
into_of (Operation o into) = into
into_of (Reply v) = no_local
into_of Cut = no_local

-- the instructions of a program of the table
abbrev pub code_at : List Program → ℕ → List Instr
code_at table prog = (slice_index_or table prog no_program).code

-- a process of a program that has gone on to an operation, with the answer v
abbrev pub resumed_with : (prog v : ℕ) → Advanced → Process
resumed_with prog v r =
    record {
      prog = prog;
      locals = resumed r.locals (into_of r.stop.next) v;
      at = r.stop.at;
      done = r.stop.done;
      path = r.path;
    }

-- the model's record, where `gone` tells how a process goes on
abbrev pub machine_by : (Process → Advanced) → Machine
machine_by gone =
    record {
      Process = Process;
      Content = Content;
      start = λ prog a b. record { prog = prog; locals = first_locals a b; at = 0; done = 0; path = [] };
      advance = λ p. next_of (gone p).stop.next;
      resume = λ p v. resumed_with p.prog v (gone p);
      path_so_far = λ p. p.prog ∷ p.path;
      path_at_end = λ p. p.prog ∷ (gone p).path;
      apply = apply;
      logged = logged;
      logged_apply = λ o c. apply_shown o (apply o c).0 c;
    }

module _ (limit : ℕ) (table : List Program) where
  -- the request gone on, with its whole path
  abbrev pub gone : Process → Advanced
  gone p = behind p.path (advance_of limit (code_at table p.prog) p.locals p.at p.done)

  abbrev pub machine : Machine
  machine = machine_by gone

-- the machine of the scope
abbrev pub machine_of : List Program → Machine
machine_of table = machine limit table
