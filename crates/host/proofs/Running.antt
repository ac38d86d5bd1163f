-- The loop over a schedule: what is kept is the state of the model's host, and what is left of the schedule, run from it, gives what the whole
-- gives.
use Rattle.std.proofs.Common.{◌≡◌, ℕ, zero, suc, ◌+◌, ◌≤◌, ◌<◌, List, [], ◌∷◌, length, map, get_or, drop, refl, sym, ap, subst, ◌∙◌, arith, add-one, drop_of_length-le, Some, None}
use Rattle.std.proofs.lemmas.List.{length-map}
use lib.ListN.{length-replicate, get_or-replicate}
use Rattle.std.specs.Prelude.{slice_get}
use Rattle.basics.specs.Lists.{All}
use Rattle.basics.specs.Count.{count}
use Rattle.basics.proofs.Tests.{clash}
use Rattle.text.specs.Programs.{known}
use Rattle.text.specs.Schedule.{is_arrive}
use Rattle.text.specs.Trace.{is_request, is_response}
use Rattle.text.specs.declared.programs.Program.{Program}
use Rattle.text.specs.declared.programs.Programs.{Programs}
use Rattle.text.specs.declared.schedule.Move.{Move}
use Rattle.text.specs.declared.schedule.Schedule.{Schedule}
use Rattle.text.specs.declared.trace.Event.TheVariants.{Request, Response}
use Rattle.text.specs.declared.trace.Event.{Event}
use Rattle.text.specs.Held.{moves_in}
use Rattle.text.proofs.Ranges.{events-length}
use Rattle.model.specs.Host.{Host, empty, broken, on, Result, fault, go_on, stepped}
use Rattle.model.proofs.Faithful.{Faithful, faithful-empty}
use Rattle.machine.specs.Held.{ObjectsHeld}
use Rattle.machine.specs.Objects.{Content}
use Rattle.machine.specs.declared.objects.Objects.{Objects}
use Rattle.host.specs.Runs.{full_table, seen_slot, rids_of, M, RequestsIs, RidIn, ran_from, ran, Ready, Finished}
use Rattle.host.specs.Steps.{lines_of}
use Rattle.host.specs.declared.runs.Run.{Run}

-- ── counts of a trace ──
rids-length : (es : List Event) → length (rids_of es) ≡ count is_request es
rids-length [] = refl
rids-length (Request r prog a b ∷ es) = omega (arith, rids-length es)
rids-length (Response r status value ∷ es) = omega (arith, rids-length es)

-- ── lines of a schedule ──
line-next : (ms : List Move) (i : ℕ) (m : Move) → slice_get ms i ≡ Some m → drop i ms ≡ m ∷ drop (suc i) ms
line-next [] i m e = clash (cc)
line-next (n ∷ ms) zero m e = let d : n ≡ m = cc in ap (λ n. n ∷ ms) d
line-next (n ∷ ms) (suc i) m e = line-next ms i m e

-- the objects behind k operations, as they are kept and in the model
pub record ObjectsIs (o : Objects) (k : ℕ) (contents : ℕ → Content) (operations : ℕ) : Type 0 where
  pub counted : operations ≡ k
  pub held : ObjectsHeld o contents
  pub few : o.stores.used ≤ 1024 + k

-- the state of a host is kept, which is one that a run from these contents comes to
pub record HostHeld (opening : ℕ → Content) (table : List Program) (x : Run) (host : Host (M table)) : Type 0 where
  pub requests : RequestsIs table x.slots x.states.items x.ofs.items (length x.log.items) host.state.phase host.trace
  pub events_held : x.trace.items ≡ host.trace
  pub lines : (o : ℕ) → host.state.logs o ≡ lines_of x.log.items o
  pub objects : ObjectsIs x.objects (length x.log.items) host.state.contents host.operations
  pub faithful : Faithful (M table) (known table) 16 opening host.state host.trace

module _ (opening : ℕ → Content) (table : List Program) (moves : List Move) where
  abbrev pub whole : Result (Host (M table))
  whole = ran opening table moves

  -- before line i, which counts from 0
  pub record Running (i : ℕ) (x : Run) : Type 0 where
    pub host : Host (M table)
    pub goes : ran_from table (suc i) (drop i moves) host ≡ whole
    pub rids : All RidIn (drop i moves)
    pub to_come : length x.ofs.items + count is_arrive (drop i moves) ≤ 64
    pub held : HostHeld opening table x host

-- before the first line
pub run-start : (opening : ℕ → Content) (programs : Programs) (schedule : Schedule) (x : Run) → Ready programs schedule x →
    ObjectsHeld x.objects opening → Running opening (full_table programs) (moves_in schedule) 0 x
run-start opening programs schedule x h held =
    let table = full_table programs in
    let empty-slot : (r : ℕ) → r < 65536 → get_or x.slots r 0 ≡ 0 =
    λ r i. ap (λ x. get_or x.slots r 0) h.nothing ∙ get_or-replicate 65536 r 0 0 i in
    let ofs : length x.ofs.items ≡ 0 = ap (λ x. length x.ofs.items) h.nothing in
    let states : length x.states.items ≡ 0 = ap (λ x. length x.states.items) h.nothing in
    let log : length x.log.items ≡ 0 = ap (λ x. length x.log.items) h.nothing in
    record {
      host = empty (M table) opening;
      goes = refl;
      rids = h.scheduled.rids;
      to_come = omega (arith, h.scheduled.arrivals_few, ofs);
      held =
          record {
            requests =
                record {
                  slots_room = ap (λ x. length x.slots) h.nothing ∙ length-replicate {A = ℕ} 65536 0;
                  as_many = omega (arith, ofs, states);
                  few = omega (arith, ofs);
                  phases = λ r i. sym (ap (seen_slot x.states.items x.ofs.items) (empty-slot r i));
                  owner = λ r s i d. absurd (omega (arith, empty-slot r i, d));
                  rows = λ s i. absurd (omega (arith, i, ofs));
                  arrived = sym (ap (λ x. map (λ x. x.rid) x.ofs.items) h.nothing);
                };
            events_held = ap (λ x. x.trace.items) h.nothing;
            lines = λ o. sym (ap (λ x. lines_of x.log.items o) h.nothing);
            objects = record { counted = sym log; held = held; few = omega (arith, h.few_cells) };
            faithful = faithful-empty (M table) (known table) 16 opening;
          };
    }

module _ {opening : ℕ → Content} {table : List Program} {moves : List Move} {i : ℕ} {x : Run} (g : Running opening table moves i x) where
  abbrev next : List Move
  next = drop (i + 1) moves

  -- at the end
  pub run_ends : length moves ≤ i → Finished opening table moves x
  run_ends h =
      record {
        host = g.host;
        made_it = sym g.goes ∙ ap (λ ms. ran_from table (suc i) ms g.host) (drop_of_length-le moves {i = i} h);
        requests = g.held.requests;
        events_held = g.held.events_held;
        lines = g.held.lines;
      }

  pub requests-are : count is_request g.host.trace ≡ length x.ofs.items
  requests-are = sym (rids-length g.host.trace) ∙ ap length g.held.requests.arrived ∙ length-map x.ofs.items _

  pub events-are : length x.trace.items ≡ count is_request g.host.trace + count is_response g.host.trace
  events-are = ap length g.held.events_held ∙ events-length g.host.trace

  module _ {m : Move} (e : slice_get moves i ≡ Some m) where
    split : drop i moves ≡ m ∷ next
    split = line-next moves i m e ∙ ap (λ j. m ∷ drop j moves) (sym (add-one i))

    stepping : go_on (M table) (known table) 1024 (suc i) (stepped (M table) (known table) 1024 g.host m) (ran_from table (suc (suc i)) next)
        ≡ whole opening table moves
    stepping = sym (ap (λ ms. ran_from table (suc i) ms g.host) split) ∙ g.goes

    pub breaks : stepped (M table) (known table) 1024 g.host m ≡ broken → whole opening table moves ≡ fault 14 (i + 1)
    breaks e =
        sym stepping ∙ ap (λ w. go_on (M table) (known table) 1024 (suc i) w (ran_from table (suc (suc i)) next)) e
        ∙ ap (fault 14) (sym (add-one i))

    goes-next : (h : Host (M table)) → stepped (M table) (known table) 1024 g.host m ≡ on h →
        ran_from table (suc (i + 1)) next h ≡ whole opening table moves
    goes-next h e =
        ap (λ j. ran_from table (suc j) next h) (add-one i)
        ∙ sym (ap (λ w. go_on (M table) (known table) 1024 (suc i) w (ran_from table (suc (suc i)) next)) e) ∙ stepping

    pub all-rids : All RidIn (m ∷ next)
    all-rids = subst (All RidIn) split g.rids

    pub to-come : length x.ofs.items + count is_arrive (m ∷ next) ≤ 64
    to-come = subst (λ ms. length x.ofs.items + count is_arrive ms ≤ 64) split g.to_come

    -- behind the line, from another state of the host
    pub run_on : (host : Host (M table)) → stepped (M table) (known table) 1024 g.host m ≡ on host → {y : Run} →
        length y.ofs.items + count is_arrive next ≤ 64 → HostHeld opening table y host → Running opening table moves (i + 1) y
    run_on host e few held = record { host = host; goes = goes-next host e; rids = all-rids.1; to_come = few; held = held }
