-- A line of the schedule that is an arrival: it breaks row 14, or the request opens.
use Rattle.std.proofs.Common.{◌≡◌, ℕ, zero, suc, ◌+◌, ◌%◌, ◌≤◌, ◌<◌, ◌⊎◌, true, List, [], ◌∷◌, ◌++◌, length, get_or, drop, refl, sym, ap, ◌∙◌, arith, lt-ltb, le-ltb, length-append, Some}
use mathlib.Core.Logic.{⊎_elim}
use native.Mathlib.Nat.{mod-eq_of_lt}
use Rattle.std.specs.Prelude.{slice_get}
use Rattle.basics.specs.Count.{count}
use Rattle.basics.proofs.Tests.{clash, by_bool}
use Rattle.text.specs.Programs.{known}
use Rattle.text.specs.Schedule.{is_arrive}
use Rattle.text.specs.declared.programs.Program.{Program}
use Rattle.text.specs.declared.report.Of.{Of}
use Rattle.text.specs.declared.schedule.Move.TheVariants.{Arrive}
use Rattle.text.specs.declared.schedule.Move.{Move}
use Rattle.text.specs.declared.trace.Event.TheVariants.{Request}
use Rattle.model.specs.Host.{Host, broken, fault, arrive, after_arrival}
use Rattle.model.specs.PlainRun.{Phase, absent, opened, closed}
use Rattle.model.proofs.Faithful.{faithful-arrive}
use Rattle.model.proofs.Ranges.{responses-few}
use Rattle.machine.specs.Objects.{Content}
use Rattle.host.specs.Moves.{ArriveRoom, arrived, of_line, slot_in}
use Rattle.host.specs.Requests.{state_at}
use Rattle.host.specs.Runs.{missing, seen_slot, M, seen}
use Rattle.host.specs.declared.requests.State.{State}
use Rattle.host.specs.declared.runs.Run.{Run}
use Rattle.host.proofs.Running.{whole, Running, requests-are, events-are, breaks, run_on, all-rids, to-come}
use Rattle.host.proofs.Slots.{absent-seen, opens}

-- a slot that is not 0 is that of a request
slot_seen : (states : List State) (ofs : List Of) (slot : ℕ) → (slot ≡ 0 → ⊥) → seen_slot states ofs slot ≡ missing → ⊥
slot_seen states ofs zero n e = n refl
slot_seen states ofs (suc s) n e =
    by_bool (state_at states s).is_open (λ t. let e' = rw t at e in clash (cc)) (λ t. let e' = rw t at e in clash (cc))

module _ {opening : ℕ → Content} {table : List Program} {moves : List Move} {i : ℕ} {x : Run} (g : Running opening table moves i x)
    {r prog a b : ℕ} (e : slice_get moves i ≡ Some (Arrive r prog a b)) where
  abbrev h₀ : Host (M table)
  h₀ = g.host

  rid : r < 65536
  rid = (all-rids g e).0

  more : length x.ofs.items + (1 + count is_arrive (drop (i + 1) moves)) ≤ 64
  more = to-come g e

  pub arrival-room : ArriveRoom x
  arrival-room =
      let p = requests-are g in
      let q = events-are g in
      let f = responses-few h₀.trace g.held.faithful.in_order in
      record {
        states = omega (arith, more, g.held.requests.as_many);
        ofs = omega (arith, more);
        trace = omega (arith, more, p, q, f);
      }

  slot : slot_in x.slots r ≡ get_or x.slots r 0
  slot = ap (λ r. get_or x.slots r 0) (mod-eq_of_lt rid)

  not-absent : (f : Phase (M table)) → (seen table f ≡ missing → ⊥) → arrive (M table) h₀ r prog a b f ≡ broken
  not-absent absent k = absurd (k refl)
  not-absent (opened p k') k = refl
  not-absent (closed w k') k = refl

  pub arrival-breaks : (length table ≤ prog) ⊎ (slot_in x.slots r ≡ 0 → ⊥) → whole opening table moves ≡ fault 14 (i + 1)
  arrival-breaks =
      ⊎_elim
      (λ h. breaks g e (rw (le-ltb prog (length table) h) refl))
      (λ z. breaks g e (by_bool (known table prog)
      (λ t. rw t
      (not-absent (h₀.state.phase r)
      (λ w. slot_seen x.states.items x.ofs.items (get_or x.slots r 0) (λ d. z (slot ∙ d)) (sym (g.held.requests.phases r rid) ∙ w))))
      (λ t. rw t refl)))

  pub arrival-on : prog < length table → slot_in x.slots r ≡ 0 → (y : Run) → y ≡ arrived r prog a b x → Running opening table moves (i + 1) y
  arrival-on k z y d =
      let new : get_or x.slots r 0 ≡ 0 = sym slot ∙ z in
      let new-phase : h₀.state.phase r ≡ absent =
      absent-seen table (h₀.state.phase r) (g.held.requests.phases r rid ∙ ap (seen_slot x.states.items x.ofs.items) new) in
      let knows : known table prog ≡ true = lt-ltb prog (length table) k in
      let here : r % 65536 ≡ r = mod-eq_of_lt rid in
      rw (d, here)
      (run_on g e (after_arrival (M table) h₀ r prog a b) (rw (knows, new-phase) refl)
      (omega (arith, more, length-append x.ofs.items (of_line r (length x.states.items) 0 ∷ [])))
      (record {
        requests =
            opens table x.slots x.states.items x.ofs.items (length x.log.items) h₀.state.phase h₀.trace
            g.held.requests r prog a b rid k new (omega (arith, more));
        events_held = ap (λ es. es ++ Request r prog a b ∷ []) g.held.events_held;
        lines = g.held.lines;
        objects = g.held.objects;
        faithful =
            faithful-arrive (M table) (known table) 16 opening h₀.state h₀.trace
            r prog a b g.held.faithful new-phase knows;
      }))
