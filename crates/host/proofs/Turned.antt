-- A line of the schedule, whatever it is: it breaks row 14, or what is kept is the state of the model's host behind it.
use Rattle.std.proofs.Common.{◌≡◌, ℕ, ◌+◌, ◌≤◌, ◌⊎◌, List, refl, sym, subst, arith, Result, Ok, Err, Some}
use Rattle.std.specs.Prelude.{slice_get}
use Rattle.text.specs.declared.programs.Program.{Program}
use Rattle.text.specs.declared.programs.Programs.{Programs}
use Rattle.text.specs.declared.schedule.Move.TheVariants.{Arrive, Turn}
use Rattle.text.specs.declared.schedule.Move.{Move}
use Rattle.model.specs.Host.{fault}
use Rattle.machine.specs.Objects.{Content}
use Rattle.machine.specs.declared.processes.Next.TheVariants.{Operation, Reply, Cut}
use Rattle.machine.specs.declared.processes.Next.{Next}
use Rattle.host.specs.Moves.{NextIs, StandIs, StepIs, StepRoom, slot_in}
use Rattle.host.specs.Requests.{Stands}
use Rattle.host.specs.Runs.{Known, full_table}
use Rattle.host.specs.declared.requests.Standing.TheVariants.{Missing, Idle, Open}
use Rattle.host.specs.declared.requests.Standing.{Standing}
use Rattle.host.specs.declared.runs.Breaks.{Breaks}
use Rattle.host.specs.declared.runs.Run.{Run}
use Rattle.host.proofs.Arriving.{arrival-room, arrival-breaks, arrival-on}
use Rattle.host.proofs.Operating.{operation-full, operates-on}
use Rattle.host.proofs.Replying.{replies-on}
use Rattle.host.proofs.Running.{whole, Running}
use Rattle.host.proofs.Tables.{full-length, full-code}
use Rattle.host.proofs.Turning as turn

module _ {opening : ℕ → Content} {programs : Programs} (known : Known programs) {moves : List Move} {i : ℕ} {x : Run}
    (g : Running opening (full_table programs) moves i x) where
  abbrev U : List Program
  U = full_table programs

  -- ── what a line asks for ──
  pub step-room : (m : Move) → slice_get moves i ≡ Some m → StepRoom m x
  step-room (Arrive rid prog a b) e = arrival-room g e
  step-room (Turn rid) e = λ s d. turn.turn-room g e d (omega (arith, full-length programs known, known.few))

  abbrev Breaks_here : Type 0
  Breaks_here = whole opening U moves ≡ fault 14 (i + 1)

  module _ (y : Run) where
    abbrev Goes_on : Type 0
    Goes_on = Running opening U moves (i + 1) y

    -- ── a turn of an open request ──
    module _ {r : ℕ} (e : slice_get moves i ≡ Some (Turn r)) {s : ℕ} (d : Stands x.states.items (slot_in x.slots r) (Open s)) where
      abbrev Comes : Next → Result Unit Breaks → Type 0
      Comes n q = NextIs n s r (turn.now g e d programs.table (full-code programs known)) x y q

      next-breaks : (n : Next) → (turn.went g e d programs.table (full-code programs known)).stop.next ≡ n → (b : Breaks) →
          Comes n (Err b) → Breaks_here
      next-breaks (Operation o into) z b f = operation-full g e d programs.table (full-code programs known) o into z f
      next-breaks (Reply value) z b f = absurd (cc)
      next-breaks Cut z b f = absurd (cc)

      next-on : (n : Next) → (turn.went g e d programs.table (full-code programs known)).stop.next ≡ n → (u : Unit {0}) →
          Comes n (Ok u) → Goes_on
      next-on (Operation o into) z u f =
          subst (Running opening U moves (i + 1)) (sym f.rest)
          (operates-on g e d programs.table (full-code programs known) o into z f.few f.left f.answer f.performs)
      next-on (Reply value) z u f =
          subst (Running opening U moves (i + 1)) (sym f.1)
          (replies-on g e d programs.table (full-code programs known) 0 value
          (turn.advances g e d programs.table (full-code programs known) (Reply value) z))
      next-on Cut z u f =
          subst (Running opening U moves (i + 1)) (sym f.1)
          (replies-on g e d programs.table (full-code programs known) 1 0
          (turn.advances g e d programs.table (full-code programs known) Cut z))

    -- ── a turn ──
    module _ {r : ℕ} (e : slice_get moves i ≡ Some (Turn r)) where
      stand-breaks : (z : Standing) → Stands x.states.items (slot_in x.slots r) z → (b : Breaks) →
          StandIs z programs.table r x y (Err b) → Breaks_here
      stand-breaks Missing d b f = turn.turn-missing g e d
      stand-breaks Idle d b f = absurd (cc)
      stand-breaks (Open s) d b f = next-breaks e d _ refl b f

      stand-on : (z : Standing) → Stands x.states.items (slot_in x.slots r) z → (u : Unit {0}) →
          StandIs z programs.table r x y (Ok u) → Goes_on
      stand-on Missing d u f = absurd (cc)
      stand-on Idle d u f = subst (Running opening U moves (i + 1)) (sym f.1) (turn.turn-idle g e d)
      stand-on (Open s) d u f = next-on e d _ refl u f

    -- ── a line ──
    pub step-breaks : (m : Move) → slice_get moves i ≡ Some m → (b : Breaks) → StepIs programs m x y (Err b) → Breaks_here
    step-breaks (Arrive r prog a b) e z f =
        arrival-breaks g e (subst (λ n. (n ≤ prog) ⊎ (slot_in x.slots r ≡ 0 → ⊥)) (sym (full-length programs known)) f)
    step-breaks (Turn r) e z f = stand-breaks e f.standing f.found z f.so

    pub step-on : (m : Move) → slice_get moves i ≡ Some m → (u : Unit {0}) → StepIs programs m x y (Ok u) → Goes_on
    step-on (Arrive r prog a b) e u f = arrival-on g e (omega (arith, f.0, full-length programs known)) f.1 y f.2
    step-on (Turn r) e u f = stand-on e f.standing f.found u f.so
