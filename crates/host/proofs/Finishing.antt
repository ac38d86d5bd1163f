-- At the end of a run: what is kept is the batch that the model's host writes.
use Rattle.std.proofs.Common.{◌≡◌, ℕ, zero, suc, ◌+◌, ◌<◌, List, [], ◌∷◌, ◌++◌, length, map, refl, sym, ap, ◌∙◌, arith}
use Rattle.basics.proofs.Tests.{by_bool}
use Rattle.text.specs.Held.{of_at}
use Rattle.text.specs.declared.programs.Program.{Program}
use Rattle.text.specs.declared.report.Entry.{Entry}
use Rattle.text.specs.declared.report.Of.{Of}
use Rattle.text.specs.declared.trace.Event.TheVariants.{Request, Response}
use Rattle.text.specs.declared.trace.Event.{Event}
use Rattle.model.specs.Host.{Host, ofs_from, logs_from, batch_written}
use Rattle.model.specs.PlainRun.{Phase, absent, opened, closed, operations_of}
use Rattle.host.specs.Recorded.{texts_of}
use Rattle.host.specs.Requests.{state_at}
use Rattle.host.specs.Runs.{Seen, missing, going, over, seen_state, seen_slot, rids_of, M, seen, RequestsIs, batch_kept}
use Rattle.host.specs.Steps.{lines_of}
use Rattle.host.specs.declared.requests.State.{State}
use Rattle.host.specs.declared.runs.Run.{Run}

-- the operations of a request, as it is seen
abbrev operations_in : Seen → ℕ
operations_in missing = 0
operations_in (going prog l at done k) = k
operations_in (over k) = k

state-operations : (x : State) (k : ℕ) → operations_in (seen_state x k) ≡ k
state-operations x k = by_bool x.is_open (λ t. rw t refl) (λ t. rw t refl)

module _ (table : List Program) where
  operations-as : (f : Phase (M table)) → operations_of (M table) f ≡ operations_in (seen table f)
  operations-as absent = refl
  operations-as (opened p k) = refl
  operations-as (closed w k) = refl

  module _ (phase : ℕ → Phase (M table)) where
    -- the `of` line of request r, in group n
    abbrev own : (n r : ℕ) → Of
    own n r = record { rid = r; group = n; count = operations_of (M table) (phase r) }

    -- the `of` lines of requests that arrived in this order
    abbrev ofs_over : ℕ → List ℕ → List Of
    ofs_over n [] = []
    ofs_over n (r ∷ rs) = own n r ∷ ofs_over (suc n) rs

    ofs-over : (n : ℕ) (es : List Event) → ofs_from (M table) phase n es ≡ ofs_over n (rids_of es)
    ofs-over n [] = refl
    ofs-over n (Request r prog a b ∷ es) = ap (λ xs. own n r ∷ xs) (ofs-over (suc n) es)
    ofs-over n (Response r status value ∷ es) = ofs-over n es

    ofs-all : (n : ℕ) (xs : List Of) → ((q : ℕ) → q < length xs → of_at xs q ≡ own (n + q) (of_at xs q).rid) →
        xs ≡ ofs_over n (map (λ x. x.rid) xs)
    ofs-all n [] h = refl
    ofs-all n (x ∷ xs) h =
        let z : n + 0 ≡ n = omega arith in
        let head : x ≡ own n x.rid = h 0 (omega arith) ∙ ap (λ n. own n x.rid) z in
        let tail = ofs-all (suc n) xs (λ q k.
        let e : n + suc q ≡ suc n + q = omega arith in h (suc q) (omega arith) ∙ ap (λ n. own n (of_at xs q).rid) e) in
        λ i. head i ∷ tail i

  module _ (slots : List ℕ) (states : List State) (ofs : List Of) (k : ℕ) (phase : ℕ → Phase (M table)) (trace : List Event)
      (g : RequestsIs table slots states ofs k phase trace) where
    of_is : (q : ℕ) → q < length ofs → of_at ofs q ≡ own phase (0 + q) (of_at ofs q).rid
    of_is q h =
        let w = g.rows q h in
        let r = (of_at ofs q).rid in
        let group : (of_at ofs q).group ≡ 0 + q = omega (arith, w.group) in
        let count : (of_at ofs q).count ≡ operations_of (M table) (phase r) =
        sym (operations-as (phase r) ∙ ap operations_in (g.phases r w.rid ∙ ap (seen_slot states ofs) w.slot)
        ∙ state-operations (state_at states q) (of_at ofs q).count) in
        λ i. record { rid = r; group = group i; count = count i }

    pub ofs-are : ofs ≡ ofs_from (M table) phase 0 trace
    ofs-are = ofs-all phase 0 ofs of_is ∙ sym (ofs-over phase 0 trace ∙ ap (ofs_over phase 0) g.arrived)

logs-same : (f g : ℕ → List Entry) → ((o : ℕ) → f o ≡ g o) → (k m : ℕ) → logs_from f k m ≡ logs_from g k m
logs-same f g h k zero = refl
logs-same f g h k (suc m) =
    let e = h k in
    let d = logs-same f g h (suc k) m in
    λ i. e i ++ d i

-- the texts of what is kept are those of the batch
module _ (table : List Program) (x : Run) (h : Host (M table))
    (g : RequestsIs table x.slots x.states.items x.ofs.items (length x.log.items) h.state.phase h.trace)
    (e : x.trace.items ≡ h.trace) (l : (o : ℕ) → h.state.logs o ≡ lines_of x.log.items o) where
  pub texts-are : texts_of (batch_kept x) ≡ texts_of (batch_written (M table) 16 h)
  texts-are =
      let os = ofs-are table x.slots x.states.items x.ofs.items (length x.log.items) h.state.phase h.trace g in
      let ls = sym (logs-same h.state.logs (lines_of x.log.items) l 0 16) in
      λ i. texts_of (record { trace = e i; ofs = os i; log = ls i })
