-- What holds of the numbers of each line, which are in their ranges, holds of all that a readable text holds; so a readable trace, a
-- readable report and the turns of a readable schedule are in range.
use Prim.Native.Nat.{ℕ, zero, suc, ◌+◌, ◌≤◌, ◌<◌}
use mathlib.Core.Bool.{Bool, true, false}
use mathlib.Core.List.{List, [], ◌∷◌, ◌++◌}
use mathlib.Core.Option.{Option, none, some}
use mathlib.Core.Path.{◌≡◌, refl, subst}
use native.Mathlib.Nat.{add-zero}
use native.Mathlib.Omega.{arith}
use borrow.Author.Tests.{ltb-true}
use lib.Dec.{ltb}
use lib.ListN.{length, get_or, length-append}
use Rattle.basics.specs.Lists.{All}
use Rattle.basics.specs.Count.{count}
use Rattle.basics.proofs.Lists.{count_yes, count_no}
use Rattle.basics.proofs.Tests.{clash}
use Rattle.lines.specs.Line.{InRange, InRanges, any, line_of}
use Rattle.lines.specs.Parts.{parts}
use Rattle.lines.proofs.LineTrip.{line-range}
use Rattle.text.specs.Text.{Read, readable, unreadable, Kind, within, add_line, read_lines, read_text}
use Rattle.text.specs.Codes.{is_operation}
use Rattle.text.specs.Formats.{request_line, response_line, of_line, log_line, arrive_line, turn_line}
use Rattle.text.specs.Held.{TurnIn}
use Rattle.text.specs.Schedule.{arrive_from, turn_from, is_arrive, add_arrive, add_turn, schedule_kinds, read_schedule}
use Rattle.text.specs.declared.schedule.Move.{Move}
use Rattle.text.specs.Trace.{request_from, response_from, is_request, is_response, add_request, add_response, trace_kinds, read_trace}
use Rattle.text.specs.Report.{Report, no_lines, of_from, entry_from, add_of, add_log, report_kinds, read_report}
use Rattle.text.specs.Written.{EventIn, OfIn, EntryIn}
use Rattle.text.specs.declared.trace.Event.{Event}
use Rattle.text.specs.declared.trace.Event.TheVariants.{Request, Response}
use Rattle.text.specs.declared.report.Entry.{Entry}

-- ── a fact that each kind of line keeps is kept by a whole text ──
module _ {S : Type 0} (P : S → Type 0) where
  abbrev pub Keeps : Kind S → Type 0
  Keeps k = (x y : S) (vs : List ℕ) → P x → InRanges k.format.largest vs → k.add x vs ≡ some y → P y

  line-keeps : (ks : List (Kind S)) → All Keeps ks → (x y : S) (p : List ℕ) → P x → add_line ks x p ≡ some y → P y
  unfolding add_line
  line-keeps [] h x y p g e = clash (cc)
  line-keeps (k ∷ ks) h x y p g e = by (line_of k.format p) refl e (line-keeps ks h.1 x y p g)
    where
      by : (o : Option (List ℕ)) → line_of k.format p ≡ o → elim o [ some vs ↦ k.add x vs | none ↦ add_line ks x p ] ≡ some y →
          (add_line ks x p ≡ some y → P y) → P y
      by (some vs) d e f = h.0 x y vs g (line-range k.format p vs d) e
      by none d e f = f e

  lines_keep : (ks : List (Kind S)) → All Keeps ks → (n : ℕ) (x y : S) (ps : List (List ℕ)) → P x → read_lines ks n x ps ≡ readable y → P y
  unfolding read_lines
  lines_keep ks h n x y [] g e = let z : x ≡ y = cc in subst P z g
  lines_keep ks h n x y (p ∷ []) g e = by (ltb 0 (length p)) e
    where
      by : (b : Bool) → ◌≡◌ {A = Read S} (elim b [ true ↦ unreadable n | false ↦ readable x ]) (readable y) → P y
      by true e = clash (cc)
      by false e = let z : x ≡ y = cc in subst P z g
  lines_keep ks h n x y (p ∷ q ∷ ps) g e = by (add_line ks x p) refl e (λ w. lines_keep ks h (suc n) w y (q ∷ ps))
    where
      by : (o : Option S) → add_line ks x p ≡ o → elim o [ some w ↦ read_lines ks (suc n) w (q ∷ ps) | none ↦ unreadable n ] ≡ readable y →
          ((w : S) → P w → read_lines ks (suc n) w (q ∷ ps) ≡ readable y → P y) → P y
      by (some w) d e f = f w (line-keeps ks h x w p g d) e
      by none d e f = clash (cc)

  pub text-keeps : (ks : List (Kind S)) → All Keeps ks → (x y : S) (s : List ℕ) → P x → read_text ks x s ≡ readable y → P y
  unfolding read_text
  text-keeps ks h x y s g e = by (ltb 65535 (length s)) e
    where
      by : (b : Bool) → elim b [ true ↦ unreadable 0 | false ↦ read_lines ks 1 x (parts 10 s) ] ≡ readable y → P y
      by true e = clash (cc)
      by false e = lines_keep ks h 1 x y (parts 10 s) g e

-- one more was added where fewer than the limit stood
pub within-some : {A : Type 0} (n m : ℕ) (x y : A) → within n m x ≡ some y → (n < m) × (x ≡ y)
unfolding within
within-some {A} n m x y e = by (ltb n m) refl e
  where
    by : (b : Bool) → ltb n m ≡ b → ◌≡◌ {A = Option A} (elim b [ true ↦ some x | false ↦ none ]) (some y) → (n < m) × (x ≡ y)
    by true d e = (ltb-true n m d, cc)
    by false d e = clash (cc)

-- number i is in its range
range-in : (rs : List ℕ) (vs : List ℕ) (i : ℕ) → InRanges rs vs → i < length rs → InRange (get_or rs i any) (get_or vs i 0)
range-in [] vs i h k = absurd (omega arith)
range-in (r ∷ rs) [] i h k = absurd h
range-in (r ∷ rs) (v ∷ vs) zero h k = h.0
range-in (r ∷ rs) (v ∷ vs) (suc i) h k = range-in rs vs i h.1 (omega arith)

pub range_at : (rs : List ℕ) (vs : List ℕ) (i : ℕ) → InRanges rs vs → i < length rs → get_or vs i 0 ≤ get_or rs i any
range_at rs vs i h k = (range-in rs vs i h k).below

-- and so are the numbers as a record takes them, one by one
abbrev cells_from : ℕ → ℕ → List ℕ → List ℕ
cells_from zero i v = []
cells_from (suc n) i v = get_or v i 0 ∷ cells_from n (suc i) v

abbrev cells : ℕ → List ℕ → List ℕ
cells n v = cells_from n 0 v

cells_in : (rs : List ℕ) (i : ℕ) (v : List ℕ) → ((j : ℕ) → j < length rs → InRange (get_or rs j any) (get_or v (i + j) 0)) →
    InRanges rs (cells_from (length rs) i v)
cells_in [] i v h = tt
cells_in (r ∷ rs) i v h = (
  subst (λ k. InRange r (get_or v k 0)) (add-zero i) (h 0 (omega arith)),
  cells_in rs (suc i) v (λ j k.
      let e : i + suc j ≡ suc i + j = omega arith in
      subst (λ n. InRange (get_or rs j any) (get_or v n 0)) e (h (suc j) (omega (arith, k)))),
)

taken_in : (rs : List ℕ) (vs : List ℕ) → InRanges rs vs → InRanges rs (cells (length rs) vs)
taken_in rs vs h =
    cells_in rs 0 vs (λ j k.
    let e : j ≡ 0 + j = omega arith in
    subst (λ n. InRange (get_or rs j any) (get_or vs n 0)) e (range-in rs vs j h k))

all_more : {A : Type 0} (P : A → Type 0) (xs : List A) (x : A) → All P xs → P x → All P (xs ++ x ∷ [])
all_more P [] x h k = (k, tt)
all_more P (y ∷ ys) x h k = (h.0, all_more P ys x h.1 k)

-- ── what a readable trace holds ──
pub record TraceIn (es : List Event) : Type 0 where
  pub events : All EventIn es
  pub requests : count is_request es ≤ 64
  pub responses : count is_response es ≤ 64

request-keeps : Keeps TraceIn (record { format = request_line; add = add_request })
unfolding add_request
request-keeps es q vs g h e =
    let x = request_from vs in
    let w = within-some (count is_request es) 64 _ _ e in
    subst TraceIn w.1
    (record {
      events = all_more EventIn es x g.events (taken_in request_line.largest vs h);
      requests = omega (arith, w.0, count_yes is_request es x refl);
      responses = omega (arith, g.responses, count_no is_response es x refl);
    })

response-keeps : Keeps TraceIn (record { format = response_line; add = add_response })
unfolding add_response
response-keeps es q vs g h e =
    let x = response_from vs in
    let w = within-some (count is_response es) 64 _ _ e in
    subst TraceIn w.1
    (record {
      events = all_more EventIn es x g.events (taken_in response_line.largest vs h);
      requests = omega (arith, g.requests, count_no is_request es x refl);
      responses = omega (arith, w.0, count_yes is_response es x refl);
    })

pub trace-in : (s : List ℕ) (es : List Event) → read_trace s ≡ readable es → TraceIn es
unfolding read_trace
trace-in s es e =
    text-keeps TraceIn trace_kinds (request-keeps, (response-keeps, tt)) [] es s
    (record { events = tt; requests = omega arith; responses = omega arith }) e

-- each event is a request or a response
pub events-length : (es : List Event) → length es ≡ count is_request es + count is_response es
events-length [] = refl
events-length (Request r p a b ∷ es) = omega (arith, events-length es)
events-length (Response r s v ∷ es) = omega (arith, events-length es)

pub trace-few : (s : List ℕ) (es : List Event) → read_trace s ≡ readable es → length es ≤ 128
trace-few s es e = let t = trace-in s es e in omega (arith, events-length es, t.requests, t.responses)

-- ── what a readable report holds ──
pub record ReportIn (r : Report) : Type 0 where
  pub ofs_in : All OfIn r.ofs
  pub log_in : All EntryIn r.log
  pub few_ofs : length r.ofs ≤ 64
  pub few_entries : length r.log ≤ 1024

of-keeps : Keeps ReportIn (record { format = of_line; add = add_of })
unfolding add_of
of-keeps r q vs g h e = by r.log e
  where
    by : (ls : List Entry) →
        elim ls [ [] ↦ within (length r.ofs) 64 (record { ofs = r.ofs ++ of_from vs ∷ []; log = [] }) | l ∷ ls ↦ none ] ≡ some q →
        ReportIn q
    by [] e =
        let w = within-some (length r.ofs) 64 _ _ e in
        subst ReportIn w.1
        (record {
          ofs_in = all_more OfIn r.ofs (of_from vs) g.ofs_in (taken_in of_line.largest vs h);
          log_in = tt;
          few_ofs = omega (arith, w.0, length-append r.ofs (of_from vs ∷ []));
          few_entries = omega arith;
        })
    by (l ∷ ls) e = clash (cc)

log-keeps : Keeps ReportIn (record { format = log_line; add = add_log })
unfolding add_log
log-keeps r q vs g h e = by (is_operation (get_or vs 3 0)) refl e
  where
    by : (b : Bool) → is_operation (get_or vs 3 0) ≡ b →
        elim b [ true ↦ within (length r.log) 1024 (record { ofs = r.ofs; log = r.log ++ entry_from vs ∷ [] }) | false ↦ none ] ≡ some q →
        ReportIn q
    by true o e =
        let w = within-some (length r.log) 1024 _ _ e in
        let x : EntryIn (entry_from vs) = record { fields = taken_in log_line.largest vs h; operation = o } in
        subst ReportIn w.1
        (record {
          ofs_in = g.ofs_in;
          log_in = all_more EntryIn r.log (entry_from vs) g.log_in x;
          few_ofs = g.few_ofs;
          few_entries = omega (arith, w.0, length-append r.log (entry_from vs ∷ []));
        })
    by false o e = clash (cc)

pub report-in : (s : List ℕ) (r : Report) → read_report s ≡ readable r → ReportIn r
unfolding read_report
report-in s r e =
    text-keeps ReportIn report_kinds (of-keeps, (log-keeps, tt)) no_lines r s
    (record { ofs_in = tt; log_in = tt; few_ofs = omega arith; few_entries = omega arith }) e

-- ── what a readable schedule holds ──
arrive-keeps : Keeps (All TurnIn) (record { format = arrive_line; add = add_arrive })
unfolding add_arrive
arrive-keeps ms q vs g h e =
    let w = within-some (count is_arrive ms) 64 _ _ e in
    subst (All TurnIn) w.1 (all_more TurnIn ms (arrive_from vs) g tt)

turn-keeps : Keeps (All TurnIn) (record { format = turn_line; add = add_turn })
unfolding add_turn
turn-keeps ms q vs g h e =
    let w : ms ++ turn_from vs ∷ [] ≡ q = cc in
    let r = range_at turn_line.largest vs 0 h (omega arith) in
    let t : TurnIn (turn_from vs) = omega arith in
    subst (All TurnIn) w (all_more TurnIn ms (turn_from vs) g t)

pub turn_in : (s : List ℕ) (ms : List Move) → read_schedule s ≡ readable ms → All TurnIn ms
unfolding read_schedule
turn_in s ms e = text-keeps (All TurnIn) schedule_kinds (arrive-keeps, (turn-keeps, tt)) [] ms s tt e
