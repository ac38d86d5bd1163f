-- What is looked up of a request, as the definitions have it, and what a batch that is ready says of it.
use Rattle.std.proofs.Common.{◌≡◌, ℕ, ◌%◌, ◌<◌, Bool, true, false, not, eqb, List, [], ◌∷◌, length, get_or, Option, Some, None, refl, sym, ap, subst, ◌∙◌}
use Rattle.std.proofs.Math.Option.{none, some}
use Rattle.std.proofs.Math.Option as Math
use Rattle.std.specs.Option.{is_some}
use mathlib.Core.List.{Memᴰ}
use native.Mathlib.Nat.{mod-eq_of_lt}
use Rattle.basics.specs.Lists.{All}
use Rattle.basics.proofs.Firsts.{firsts-mem, firsts-get_or}
use Rattle.basics.proofs.Tests.{clash, by_bool}
use Rattle.text.specs.Held.{no_of, of_at}
use Rattle.text.specs.Programs.{no_program}
use Rattle.text.specs.declared.programs.Program.{Program}
use Rattle.text.specs.declared.report.Of.{Of}
use Rattle.text.specs.declared.trace.Event.TheVariants.{Request, Response}
use Rattle.text.specs.declared.trace.Event.{Event}
use Rattle.model.specs.Batch.{Batch, count_of}
use Rattle.model.specs.Replay.{request_of}
use Rattle.model.proofs.Requests.{ofs-counted}
use Rattle.model.proofs.Trace.{Formed, KnownIn, row4-order, row6-matching}
use Rattle.machine.specs.Instance.{Process, code_at, machine_of}
use Rattle.replay.specs.Index.{Claimed}
use Rattle.replay.specs.Judges.{Ready}
use Rattle.replay.specs.Promises.{arrival_of, replied_as, left_open, Setting, outcome_of, way, replayed, InTable, Replays, ReplaysRequest}
use Rattle.replay.specs.declared.lookups.Arrival.{Arrival}
use Rattle.replay.specs.declared.lookups.Response.{Response as Said}
use Rattle.replay.specs.declared.paths.Path.{Path}

-- ── the request of a rid, at its start ──
abbrev started : List Program → Option Arrival → Math.Option Process
started table None = none
started table (Some a) = some ((machine_of table).start a.prog a.a a.b)

request-is : (table : List Program) (events : List Event) (r : ℕ) → request_of (machine_of table) events r ≡ started table (arrival_of events r)
request-is table [] r = refl
request-is table (Request q prog a b ∷ es) r = by_bool (eqb q r) (λ e. rw e) (λ e. rw e (request-is table es r))
request-is table (Response q s v ∷ es) r = request-is table es r

-- what the trace has for it
pub open-is : (reply : Option Said) (is_open : Bool) → is_some reply ≡ not is_open → left_open (replied_as reply) ≡ is_open
open-is None true e = refl
open-is None false e = clash (cc)
open-is (Some x) true e = clash (cc)
open-is (Some x) false e = refl

-- ── its replay ──
module _ (table : List Program) (events : List Event) (x : Of) (is_open : Bool) (c : Claimed) where
  pub no-request : arrival_of events x.rid ≡ None → (path : Path) (end : Option (Option Said)) → end ≡ None →
      ReplaysRequest table events x is_open c path end
  no-request e path end q = record {
    outcome = λ _ opening _ reply _.
        ap (λ i. outcome_of i (way path)) q ∙ sym (ap (replayed table c opening x reply) (request-is table events x.rid ∙ ap (started table) e));
  }

  pub replay-request : (a : Arrival) → arrival_of events x.rid ≡ Some a → (path : Path) → path.prog ≡ a.prog →
      (end : Option (Option Said)) →
      Replays c x.rid x.count a.a a.b is_open (get_or table (a.prog % 16) no_program).code path.positions.items end →
      ReplaysRequest table events x is_open c path end
  replay-request a e path p end s = record {
    outcome = λ t opening h reply o.
        let w : Setting c = record { table = table; opening = opening; answered = h } in
        let b : code_at table a.prog ≡ (get_or table (a.prog % 16) no_program).code =
        ap (λ i. (get_or table i no_program).code) (sym (mod-eq_of_lt (t a e))) in
        ap (λ i. outcome_of end (i ∷ path.positions.items)) p
        ∙ s.outcome w a.prog reply b o ∙ sym (ap (replayed table c opening x reply) (request-is table events x.rid ∙ ap (started table) e));
  }

-- ── a batch that is ready ──
known-arrival : (known : ℕ → Bool) (r : ℕ) (es : List Event) → All (KnownIn known) es → (a : Arrival) → arrival_of es r ≡ Some a →
    known a.prog ≡ true
known-arrival known r [] k a e = clash (cc)
known-arrival known r (Request q prog x y ∷ es) k a e = by_bool (eqb q r)
    (λ t.
    let z : Some (record { prog = prog; a = x; b = y }) ≡ Some a = rw t at e in
    let y : record { prog = prog; a = x; b = y } ≡ a = cc in
    ap (λ x. known x.prog) (sym y) ∙ k.0)
    (λ t. known-arrival known r es k.1 a (rw t at e))
known-arrival known r (Response q s v ∷ es) k a e = known-arrival known r es k.1 a e

module _ (known : ℕ → Bool) (b : Batch) (ready : Ready known b) where
  pub ready-formed : Formed b
  ready-formed = record {
    in_order = ((row4-order known b.trace).0 ready.none_to_7.0).0;
    matching = (row6-matching b).0 ready.none_to_7.1;
  }

  pub ready-table : (r : ℕ) → InTable b.trace r
  ready-table r a e =
      ready.programs a.prog (known-arrival known r b.trace ((row4-order known b.trace).0 ready.none_to_7.0).1 a e)

  pub counted_is : (k : ℕ) → k < length b.ofs → count_of b.ofs (of_at b.ofs k).rid ≡ (of_at b.ofs k).count
  counted_is k low =
      ofs-counted b ready-formed (of_at b.ofs k)
      (subst (Memᴰ (of_at b.ofs k)) (firsts-get_or b.ofs no_of) (firsts-mem (of_at b.ofs) (length b.ofs) k low))
