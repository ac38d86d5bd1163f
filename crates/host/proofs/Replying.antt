-- A turn that comes to a reply or cut: the host behind it, whose state is kept.
use Rattle.std.proofs.Common.{◌≡◌, ℕ, ◌+◌, ◌<◌, List, [], ◌∷◌, ◌++◌, length, refl, ap, ◌∙◌, arith, Some}
use Rattle.std.specs.Prelude.{slice_get}
use Rattle.text.specs.Programs.{known}
use Rattle.text.specs.declared.programs.Program.{Program}
use Rattle.text.specs.declared.schedule.Move.TheVariants.{Turn}
use Rattle.text.specs.declared.schedule.Move.{Move}
use Rattle.text.specs.declared.trace.Event.TheVariants.{Response}
use Rattle.model.specs.Host.{Host, after_reply}
use Rattle.model.specs.Machine.{stop}
use Rattle.model.specs.PlainRun.{opened, closed}
use Rattle.model.specs.PlainRun as plain
use Rattle.model.proofs.Faithful.{faithful-reply}
use Rattle.machine.specs.Instance.{code_at}
use Rattle.machine.specs.Objects.{Content}
use Rattle.host.specs.Moves.{replied, slot_in}
use Rattle.host.specs.Requests.{Stands}
use Rattle.host.specs.Runs.{M}
use Rattle.host.specs.declared.requests.Standing.TheVariants.{Open}
use Rattle.host.specs.declared.runs.Run.{Run}
use Rattle.host.proofs.Running.{Running, HostHeld}
use Rattle.host.proofs.Slots.{rids-response, goes_on}
use Rattle.host.proofs.Turning as turn

module _ {opening : ℕ → Content} {U : List Program} {moves : List Move} {i : ℕ} {x : Run} (g : Running opening U moves i x)
    {r : ℕ} (e : slice_get moves i ≡ Some (Turn r)) {s : ℕ} (d : Stands x.states.items (slot_in x.slots r) (Open s))
    (table : List Program) (same : (prog : ℕ) → prog < length U → code_at U prog ≡ code_at table prog)
    (status value : ℕ) (z : (M U).advance (turn.p g e d) ≡ stop status value) where
  abbrev h₀ : Host (M U)
  h₀ = g.host

  abbrev after : Host (M U)
  after = after_reply (M U) h₀ (plain.replied (M U) h₀.state r (turn.p g e d) (turn.k g e d)) r status value

  abbrev y : Run
  y = replied s r (turn.now g e d table same) status value x

  held : HostHeld opening U y after
  held =
      let f = g.held in
      let q = f.requests in
      let k = turn.k g e d in
      let own = q.rows s (turn.owned g e d).0 in
      record {
        requests =
            goes_on U x.slots x.states.items x.ofs.items (length x.log.items) h₀.state.phase h₀.trace q r s (turn.rid g e)
            (turn.slot g e d) _ x.ofs.items refl (λ q n. refl) refl
            (closed ((M U).path_at_end (turn.p g e d)) k) (length x.log.items) (omega arith) refl
            (turn.owned g e d).1 own.group own.few own.program
            (h₀.trace ++ Response r status value ∷ []) (rids-response h₀.trace r status value);
        events_held = ap (λ es. es ++ Response r status value ∷ []) f.events_held;
        lines = f.lines;
        objects = f.objects;
        faithful =
            faithful-reply (M U) (known U) 16 opening h₀.state h₀.trace r (turn.p g e d) k status value f.faithful
            (turn.is g e d).phase z;
      }

  pub replies-on : Running opening U moves (i + 1) (replied s r (turn.now g e d table same) status value x)
  replies-on =
      turn.turned_on g e after (turn.step-at g e (opened (turn.p g e d) (turn.k g e d)) (turn.is g e d).phase ∙ rw z refl) refl held
