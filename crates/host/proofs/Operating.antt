-- A turn that comes to an operation: it breaks row 14, or the host behind it, whose state is kept.
use Rattle.std.proofs.Common.{◌≡◌, ℕ, suc, ◌+◌, ◌≤◌, ◌<◌, List, [], ◌∷◌, ◌++◌, length, refl, sym, ap, subst, ◌∙◌, arith, add-one, lt-ltb, le-ltb, length-append, length-set, get_or-set_same, get_or-set_other, Some}
use Rattle.std.proofs.Math.Seq.{map-set_same}
use Rattle.std.specs.Prelude.{slice_get}
use Rattle.basics.specs.Maps.{upd}
use Rattle.text.specs.Held.{no_of, of_at}
use Rattle.text.specs.Programs.{known}
use Rattle.text.specs.declared.programs.Program.{Program}
use Rattle.text.specs.declared.report.Op.{Op}
use Rattle.text.specs.declared.schedule.Move.TheVariants.{Turn}
use Rattle.text.specs.declared.schedule.Move.{Move}
use Rattle.model.specs.Host.{Host, on, fault, stepped, after_operation}
use Rattle.model.specs.Machine.{op}
use Rattle.model.specs.PlainRun.{opened, answer_now, line_now}
use Rattle.model.specs.PlainRun as plain
use Rattle.model.proofs.Faithful.{faithful-operate}
use Rattle.machine.specs.Held.{ObjectsHeld, Performs, PerformedIs}
use Rattle.machine.specs.Instance.{Process, into_of, code_at}
use Rattle.machine.specs.Objects.{Content, shown}
use Rattle.machine.specs.Processes.{limit, resumed}
use Rattle.machine.specs.declared.objects.Objects.{Objects}
use Rattle.machine.specs.declared.processes.Next.TheVariants.{Operation}
use Rattle.machine.proofs.Bounds.{within}
use Rattle.machine.proofs.LogLaws.{after-upd}
use Rattle.host.specs.Moves.{counted, line_of, operated, slot_in}
use Rattle.host.specs.Requests.{Stands}
use Rattle.host.specs.Runs.{going, seen_state, M, seen}
use Rattle.host.specs.declared.requests.Standing.TheVariants.{Open}
use Rattle.host.specs.declared.requests.State.{State}
use Rattle.host.specs.declared.runs.Run.{Run}
use Rattle.host.proofs.Joining.{line_joins}
use Rattle.host.proofs.Running.{whole, Running, HostHeld}
use Rattle.host.proofs.Slots.{goes_on}
use Rattle.host.proofs.Turning as turn

module _ {opening : ℕ → Content} {U : List Program} {moves : List Move} {i : ℕ} {x : Run} (g : Running opening U moves i x)
    {r : ℕ} (e : slice_get moves i ≡ Some (Turn r)) {s : ℕ} (d : Stands x.states.items (slot_in x.slots r) (Open s))
    (table : List Program) (same : (prog : ℕ) → prog < length U → code_at U prog ≡ code_at table prog)
    (o : Op) (into : ℕ) (z : (turn.went g e d table same).stop.next ≡ Operation o into) where
  abbrev h₀ : Host (M U)
  h₀ = g.host

  abbrev k : ℕ
  k = turn.k g e d

  abbrev p : Process
  p = turn.p g e d

  advances-to : (M U).advance p ≡ op o
  advances-to = turn.advances g e d table same (Operation o into) z

  pub operation-full : 1024 ≤ length x.log.items → whole opening U moves ≡ fault 14 (i + 1)
  operation-full f =
      turn.breaks-here g e (turn.step-at g e (opened p k) (turn.is g e d).phase
      ∙ rw (advances-to, le-ltb h₀.operations 1024 (omega (arith, f, g.held.objects.counted))) refl)

  module _ (few : length x.log.items < 1024) (left : Objects) (answer : ℕ) (performs : Performs x.objects o left answer) where
    abbrev worked : Host (M U)
    worked = after_operation (M U) h₀ (plain.operated (M U) h₀.state r (suc k) p o)

    operation-steps : stepped (M U) (known U) 1024 h₀ (Turn r) ≡ on worked
    operation-steps =
        turn.step-at g e (opened p k) (turn.is g e d).phase
        ∙ rw (advances-to, lt-ltb h₀.operations 1024 (omega (arith, few, g.held.objects.counted))) refl

    -- the objects hold what the model's hold
    done : PerformedIs x.objects h₀.state.contents o left answer
    done = performs h₀.state.contents g.held.objects.held (omega (arith, g.held.objects.few, few))

    answers : answer ≡ answer_now (M U) h₀.state o
    answers = done.answer

    -- what is kept behind it
    abbrev y : Run
    y = operated s r (turn.now g e d table same) o into answer left x

    abbrev state : State
    state =
        let now = turn.now g e d table same in
        record { is_open = now.is_open; prog = now.prog; at = now.at; done = now.done; locals = resumed now.locals into answer }

    own-is : of_at y.ofs.items s ≡ counted (of_at x.ofs.items s)
    own-is = get_or-set_same x.ofs.items s (counted (of_at x.ofs.items s)) no_of (turn.owned g e d).0

    resumes : seen U (opened ((M U).resume p (answer_now (M U) h₀.state o)) (suc k)) ≡ seen_state state (of_at y.ofs.items s).count
    resumes =
        let goes = turn.goes g e d table same in
        let now = turn.now g e d table same in
        let a : seen U (opened ((M U).resume p (answer_now (M U) h₀.state o)) (suc k))
        ≡ going p.prog (resumed now.locals (into_of (turn.went g e d table same).stop.next) answer) now.at now.done (suc k) =
        λ j. going p.prog (resumed (goes j).locals (into_of (goes j).stop.next) (sym answers j))
        (goes j).stop.at (goes j).stop.done (suc k) in
        let into-is : into_of (turn.went g e d table same).stop.next ≡ into = ap into_of z in
        let b : going p.prog (resumed now.locals (into_of (turn.went g e d table same).stop.next) answer) now.at now.done (suc k)
        ≡ going now.prog (resumed now.locals into answer) now.at now.done (suc k) =
        λ j. going ((turn.is g e d).prog j) (resumed now.locals (into-is j) answer) now.at now.done (suc k) in
        let q : suc k ≡ k + 1 = sym (add-one k) in
        let c : seen_state state (of_at y.ofs.items s).count ≡ going now.prog (resumed now.locals into answer) now.at now.done (k + 1) =
        ap (λ x. seen_state state x.count) own-is ∙ rw d.2 refl in
        a ∙ b ∙ (λ j. going now.prog (resumed now.locals into answer) now.at now.done (q j)) ∙ sym c

    held : HostHeld opening U y worked
    held =
        let f = g.held in
        let q = f.requests in
        let own = q.rows s (turn.owned g e d).0 in
        let more : k + 1 ≡ suc k = add-one k in
        let line : line_of x.ofs.items s r (shown o answer) ≡ line_now (M U) h₀.state r (suc k) o =
        λ j. record { rid = r; num = more j; op = shown o (answers j) } in
        let longer : length y.log.items ≡ length x.log.items + 1 =
        length-append x.log.items (line_of x.ofs.items s r (shown o answer) ∷ []) in
        record {
          requests =
              goes_on U x.slots x.states.items x.ofs.items (length x.log.items) h₀.state.phase h₀.trace q r s
              (turn.rid g e) (turn.slot g e d) state y.ofs.items
              (length-set x.ofs.items s (counted (of_at x.ofs.items s)))
              (λ q n. get_or-set_other x.ofs.items s q (counted (of_at x.ofs.items s)) no_of n)
              (map-set_same (λ x. x.rid) x.ofs.items s (counted (of_at x.ofs.items s)) no_of refl)
              (opened ((M U).resume p (answer_now (M U) h₀.state o)) (suc k)) (length y.log.items) (omega (arith, longer)) resumes
              (ap (λ x. x.rid) own-is ∙ (turn.owned g e d).1) (ap (λ x. x.group) own-is ∙ own.group)
              (omega (arith, ap (λ x. x.count) own-is, own.few, longer)) own.program h₀.trace refl;
          events_held = f.events_held;
          lines = λ j.
              ap (λ l. upd h₀.state.logs o.object (h₀.state.logs o.object ++ l ∷ []) j) (sym line)
              ∙ line_joins x.log.items (line_of x.ofs.items s r (shown o answer)) h₀.state.logs f.lines j;
          objects =
              record {
                counted = omega (arith, f.objects.counted, longer);
                held = subst (ObjectsHeld left) (sym (after-upd h₀.state.contents o)) done.held;
                few = omega (arith, done.few, f.objects.few, longer);
              };
          faithful =
              faithful-operate (M U) (known U) 16 opening h₀.state h₀.trace r p k o f.faithful
              (turn.is g e d).phase advances-to (within limit U p o advances-to);
        }

    pub operates-on : Running opening U moves (i + 1) (operated s r (turn.now g e d table same) o into answer left x)
    operates-on = turn.turned_on g e worked operation-steps (length-set x.ofs.items s (counted (of_at x.ofs.items s))) held
