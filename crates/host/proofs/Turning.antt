-- A line of the schedule that is a turn: of no request, of one that has its response, or of an open one, with what is known of it.
use Rattle.std.proofs.Common.{◌≡◌, ℕ, suc, ◌+◌, ◌-◌, ◌≤◌, ◌<◌, List, [], ◌∷◌, ◌++◌, length, get_or, refl, sym, ap, ◌∙◌, arith, Some}
use mathlib.Core.Logic.{⊎_elim}
use native.Mathlib.Nat.{mod-eq_of_lt}
use Rattle.std.specs.Prelude.{slice_get}
use Rattle.basics.proofs.Lists.{count-append, count_yes}
use Rattle.text.specs.Held.{of_at}
use Rattle.text.specs.Programs.{known}
use Rattle.text.specs.Trace.{is_request, is_response}
use Rattle.text.specs.declared.programs.Program.{Program}
use Rattle.text.specs.declared.schedule.Move.TheVariants.{Turn}
use Rattle.text.specs.declared.schedule.Move.{Move}
use Rattle.text.specs.declared.trace.Event.TheVariants.{Response}
use Rattle.model.specs.Host.{Host, broken, on, fault, turn_of, commit, stepped}
use Rattle.model.specs.PlainRun.{Phase, absent, closed}
use Rattle.model.proofs.Faithful.{has_arrived, is_closed, add-response}
use Rattle.model.proofs.Ranges.{responses-few}
use Rattle.machine.specs.Instance.{Process, next_of, code_at, gone}
use Rattle.machine.specs.Objects.{Content}
use Rattle.machine.specs.Processes.{Advanced, behind, limit, advance_of}
use Rattle.machine.specs.declared.processes.Next.{Next}
use Rattle.host.specs.Moves.{TurnRoom, gone_on, slot_in, went_on}
use Rattle.host.specs.Requests.{Stands, state_at}
use Rattle.host.specs.Runs.{seen_slot, M}
use Rattle.host.specs.declared.requests.Standing.TheVariants.{Missing, Idle, Open}
use Rattle.host.specs.declared.requests.State.{State}
use Rattle.host.specs.declared.runs.Run.{Run}
use Rattle.host.proofs.Running.{whole, HostHeld, Running, requests-are, events-are, breaks, all-rids, to-come, run_on}
use Rattle.host.proofs.Slots.{absent-seen, IsOpened, opened-seen, closed-seen}

-- a process that stands as x goes on as x does
gone-as : (U table : List Program) (x : State) (p : Process) → p.prog ≡ x.prog → p.locals ≡ x.locals → p.at ≡ x.at → p.done ≡ x.done →
    code_at U x.prog ≡ code_at table x.prog → gone limit U p ≡ behind p.path (went_on table x)
gone-as U table x p q l a d same =
    let e : code_at U p.prog ≡ code_at table x.prog = ap (code_at U) q ∙ same in
    λ i. behind p.path (advance_of limit (e i) (l i) (a i) (d i))

module _ {opening : ℕ → Content} {U : List Program} {moves : List Move} {i : ℕ} {x : Run} (g : Running opening U moves i x)
    {r : ℕ} (e : slice_get moves i ≡ Some (Turn r)) where
  abbrev pub h₀ : Host (M U)
  h₀ = g.host

  pub rid : r < 65536
  rid = (all-rids g e).0

  slot_is : slot_in x.slots r ≡ get_or x.slots r 0
  slot_is = ap (λ r. get_or x.slots r 0) (mod-eq_of_lt rid)

  pub step-at : (f : Phase (M U)) → h₀.state.phase r ≡ f →
      stepped (M U) (known U) 1024 h₀ (Turn r) ≡ commit (M U) (known U) 1024 h₀ (turn_of (M U) h₀.state r f)
  step-at f d = ap (λ f. commit (M U) (known U) 1024 h₀ (turn_of (M U) h₀.state r f)) d

  pub breaks-here : stepped (M U) (known U) 1024 h₀ (Turn r) ≡ broken → whole opening U moves ≡ fault 14 (i + 1)
  breaks-here = breaks g e

  -- the schedule goes on from another state of the host, with as many requests
  pub turned_on : (host : Host (M U)) → stepped (M U) (known U) 1024 h₀ (Turn r) ≡ on host → {y : Run} →
      length y.ofs.items ≡ length x.ofs.items → HostHeld opening U y host → Running opening U moves (i + 1) y
  turned_on host s same held = run_on g e host s (omega (arith, to-come g e, same)) held

  -- ── no such request ──
  pub turn-missing : Stands x.states.items (slot_in x.slots r) Missing → whole opening U moves ≡ fault 14 (i + 1)
  turn-missing =
      ⊎_elim
      (λ z. breaks-here (step-at absent (absent-seen U (h₀.state.phase r)
      (g.held.requests.phases r rid ∙ ap (seen_slot x.states.items x.ofs.items) (sym slot_is ∙ z)))))
      (λ z.
      let w = g.held.requests.owner r (get_or x.slots r 0 - 1) rid (omega (arith, z, slot_is)) in
      absurd (omega (arith, z, slot_is, w.0, g.held.requests.as_many)))

  -- ── one that has its response ──
  pub turn-idle : Stands x.states.items (slot_in x.slots r) Idle → Running opening U moves (i + 1) x
  turn-idle d =
      let s = slot_in x.slots r - 1 in
      let z : slot_in x.slots r ≡ suc s = omega (arith, d.0) in
      let k = (of_at x.ofs.items s).count in
      let w =
      closed-seen U (h₀.state.phase r) (state_at x.states.items s) k
      (g.held.requests.phases r rid ∙ ap (seen_slot x.states.items x.ofs.items) (sym slot_is ∙ z)) d.2 in
      turned_on h₀ (step-at (closed w.0 k) w.1) refl g.held

  -- ── an open one, in slot s ──
  module _ {s : ℕ} (d : Stands x.states.items (slot_in x.slots r) (Open s)) where
    abbrev pub v : State
    v = state_at x.states.items s

    -- its operations so far
    abbrev pub k : ℕ
    k = (of_at x.ofs.items s).count

    pub slot : get_or x.slots r 0 ≡ suc s
    slot = sym slot_is ∙ d.0

    pub owned : (s < length x.ofs.items) × ((of_at x.ofs.items s).rid ≡ r)
    owned = g.held.requests.owner r s rid slot

    pub is : IsOpened U (h₀.state.phase r) v k
    is = opened-seen U (h₀.state.phase r) v k (g.held.requests.phases r rid ∙ ap (seen_slot x.states.items x.ofs.items) slot) d.2

    abbrev pub p : Process
    p = is.process

    -- one response more would still be in order
    pub turn-room : length U ≤ 16 → TurnRoom s x
    turn-room u =
        let f = g.held.faithful in
        let more =
        add-response [] h₀.trace r 0 0 f.in_order (f.arrivals r ∙ ap (has_arrived (M U)) is.phase) refl
        (f.responses r ∙ ap (is_closed (M U)) is.phase) in
        let few = responses-few (h₀.trace ++ Response r 0 0 ∷ []) more in
        let a = count_yes is_response h₀.trace (Response r 0 0) refl in
        let b = count-append is_request h₀.trace (Response r 0 0 ∷ []) in
        let own = g.held.requests.rows s owned.0 in
        record {
          operate = record { state = d.1; own = owned.0; few = own.few };
          trace = omega (arith, few, a, b, requests-are g, events-are g, g.held.requests.few);
          program = omega (arith, own.program, u);
        }

    -- a table that has its program
    module _ (table : List Program) (same : (prog : ℕ) → prog < length U → code_at U prog ≡ code_at table prog) where
      abbrev pub went : Advanced
      went = went_on table v

      pub goes : gone limit U p ≡ behind p.path went
      goes =
          gone-as U table v p is.prog is.locals is.at is.done (same v.prog (g.held.requests.rows s owned.0).program)

      pub advances : (y : Next) → went.stop.next ≡ y → (M U).advance p ≡ next_of y
      advances y z = ap (λ a. next_of a.stop.next) goes ∙ ap next_of z

      -- how far it has come
      abbrev pub now : State
      now = gone_on v went
