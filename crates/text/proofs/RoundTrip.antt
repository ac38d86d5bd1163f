-- Reading what was written gives it back, and how long it is at most.
use Prim.Native.Nat.{ℕ, suc, ◌+◌, ◌*◌, ◌<◌, ◌≤◌}
use mathlib.Core.List.{List, [], ◌∷◌, ◌++◌, append_assoc, append-nil}
use mathlib.Core.Option.{some}
use mathlib.Core.Bool.{true}
use mathlib.Core.Path.{◌≡◌, refl, sym, ◌∙◌, ap, subst}
use native.Mathlib.Omega.{arith}
use native.Mathlib.Nat.{mul-suc}
use lib.ListN.{length, get_or, length-append}
use borrow.Author.Tests.{le-ltb}
use Rattle.basics.specs.Lists.{All}
use Rattle.basics.specs.Count.{count}
use Rattle.basics.proofs.Lists.{count_yes, count_no}
use Rattle.lines.specs.Decimal.{digits_in, decimal}
use Rattle.lines.specs.Parts.{parts}
use Rattle.lines.specs.Line.{prefix}
use Rattle.lines.specs.LineText.{line_text}
use Rattle.lines.proofs.Parts.{first_part}
use Rattle.lines.proofs.Prefix.{unbroken}
use Rattle.lines.proofs.LineTrip.{joined, parts-glue, line-back, line-not, line-free, line-joined, line-bound}
use Rattle.text.specs.Text.{readable, Kind, add_line, read_lines, read_text}
use Rattle.text.specs.Codes.{is_operation}
use Rattle.text.specs.Written.{lines_text, EventIn, event_text, trace_text, of_numbers, entry_numbers, OfIn, EntryIn, of_text, entry_text, report_text}
use Rattle.text.specs.Formats.{request_line, response_line, of_line, log_line}
use Rattle.text.specs.Trace.{is_request, is_response, add_request, add_response, trace_kinds, read_trace}
use Rattle.text.specs.Report.{Report, of_from, entry_from, add_of, add_log, report_kinds, read_report}
use Rattle.text.specs.declared.trace.Event.{Event}
use Rattle.text.specs.declared.trace.Event.TheVariants.{Request, Response}
use Rattle.text.specs.declared.report.Of.{Of}
use Rattle.text.specs.declared.report.Entry.{Entry}
use Rattle.text.proofs.CodeLaws.{narrow_log, entry-range}
use Rattle.text.proofs.ReadLines.{within-yes}
use Rattle.text.proofs.LineKinds.{adds-first, adds-later}

-- ── one line, and then the others ──

module _ {S : Type 0} (ks : List (Kind S)) where
  line_step : (n : ℕ) (x y : S) (w : List ℕ) (v : ℕ) (vs r : List ℕ) → unbroken w ≡ true →
      add_line ks x (w ++ joined v vs) ≡ some y →
      read_lines ks n x (parts 10 (line_text w (v ∷ vs) ++ r)) ≡ read_lines ks (suc n) y (parts 10 r)
  unfolding read_lines
  line_step n x y w v vs r u e =
      let p = w ++ joined v vs in
      let q = first_part 10 r in
      ap (λ s. read_lines ks n x (parts 10 s)) (line-joined w v vs r)
      ∙ ap (read_lines ks n x) (parts-glue 10 p r (line-free w v vs u))
      ∙ subst (λ (t : List (List ℕ)). read_lines ks n x (p ∷ t) ≡ read_lines ks (suc n) y t) (sym q.1) (rw (e, read_lines) refl)

  -- records x that each add themselves to what was read, as `step` says
  module _ {A : Type 0} (g : A → List ℕ) (put : S → A → S) where
    abbrev puts : S → List A → S
    puts s [] = s
    puts s (x ∷ xs) = puts (put s x) xs

    lines_step : (Ok : S → List A → Type 0) →
        ((n : ℕ) (s : S) (x : A) (xs : List A) (r : List ℕ) → Ok s (x ∷ xs) →
        read_lines ks n s (parts 10 (g x ++ r)) ≡ read_lines ks (suc n) (put s x) (parts 10 r)) →
        ((s : S) (x : A) (xs : List A) → Ok s (x ∷ xs) → Ok (put s x) xs) →
        (n : ℕ) (s : S) (xs : List A) (r : List ℕ) → Ok s xs →
        read_lines ks n s (parts 10 (lines_text g xs ++ r)) ≡ read_lines ks (n + length xs) (puts s xs) (parts 10 r)
    unfolding lines_text
    lines_step Ok one more n s [] r h = let e : n ≡ n + 0 = omega arith in ap (λ k. read_lines ks k s (parts 10 r)) e
    lines_step Ok one more n s (x ∷ xs) r h =
        let e : suc n + length xs ≡ n + suc (length xs) = omega arith in
        ap (λ t. read_lines ks n s (parts 10 t)) (append_assoc (g x) (lines_text g xs) r)
        ∙ one n s x xs (lines_text g xs ++ r) h
        ∙ lines_step Ok one more (suc n) (put s x) xs r (more s x xs h)
        ∙ ap (λ k. read_lines ks k (puts (put s x) xs) (parts 10 r)) e

  nothing_left : (n : ℕ) (x : S) → read_lines ks n x (parts 10 []) ≡ readable x
  unfolding read_lines parts
  nothing_left n x = refl

  text-back : (x y : S) (s : List ℕ) (n : ℕ) → length s ≤ 65535 → read_lines ks 1 x (parts 10 s) ≡ read_lines ks n y (parts 10 []) →
      read_text ks x s ≡ readable y
  unfolding read_text
  text-back x y s n h e = rw (le-ltb 65535 (length s) h, read_text) (e ∙ nothing_left n y)

-- records joined one by one are the list
puts-all : {A : Type 0} (ks : List (Kind (List A))) (g : A → List ℕ) (past xs : List A) →
    puts ks g (λ ys x. ys ++ x ∷ []) past xs ≡ past ++ xs
puts-all ks g past [] = sym (append-nil past)
puts-all ks g past (x ∷ xs) = puts-all ks g (past ++ x ∷ []) xs ∙ append_assoc past (x ∷ []) xs

-- ── the trace ──

-- the events are in range, and there is room for them behind those read
pub record Room (past es : List Event) : Type 0 where
  pub fits : All EventIn es
  pub asks : count is_request past + count is_request es ≤ 64
  pub answers : count is_response past + count is_response es ≤ 64

event-step : (n : ℕ) (past : List Event) (e : Event) (es : List Event) (r : List ℕ) → Room past (e ∷ es) →
    read_lines trace_kinds n past (parts 10 (event_text e ++ r)) ≡ read_lines trace_kinds (suc n) (past ++ e ∷ []) (parts 10 r)
unfolding event_text add_request add_response unbroken prefix
event-step n past (Request rid prog a b) es r h =
    line_step trace_kinds n past _ request_line.word rid (prog ∷ a ∷ b ∷ []) r refl
    (adds-first _ _ past _ (rid ∷ prog ∷ a ∷ b ∷ []) (line-back request_line rid (prog ∷ a ∷ b ∷ []) h.fits.0)
    ∙ within-yes (count is_request past) 64 _ (omega (arith, h.asks)))
event-step n past (Response rid status value) es r h =
    line_step trace_kinds n past _ response_line.word rid (status ∷ value ∷ []) r refl
    (adds-later _ _ past _ (line-not request_line (response_line.word ++ joined rid (status ∷ value ∷ [])) refl)
    ∙ adds-first _ _ past _ (rid ∷ status ∷ value ∷ []) (line-back response_line rid (status ∷ value ∷ []) h.fits.0)
    ∙ within-yes (count is_response past) 64 _ (omega (arith, h.answers)))

room-more : (past : List Event) (e : Event) (es : List Event) → Room past (e ∷ es) → Room (past ++ e ∷ []) es
room-more past (Request rid prog a b) es h =
    record {
      fits = h.fits.1;
      asks = omega (arith, h.asks, count_yes is_request past (Request rid prog a b) refl);
      answers = omega (arith, h.answers, count_no is_response past (Request rid prog a b) refl);
    }
room-more past (Response rid status value) es h =
    record {
      fits = h.fits.1;
      asks = omega (arith, h.asks, count_no is_request past (Response rid status value) refl);
      answers = omega (arith, h.answers, count_yes is_response past (Response rid status value) refl);
    }

pub trace-back : (es : List Event) → All EventIn es → count is_request es ≤ 64 → count is_response es ≤ 64 →
    length (trace_text es) ≤ 65535 → read_trace (trace_text es) ≡ readable es
unfolding read_trace trace_text
trace-back es f a b h =
    text-back trace_kinds [] es (lines_text event_text es) (1 + length es) h
    (ap (λ s. read_lines trace_kinds 1 [] (parts 10 s)) (sym (append-nil (lines_text event_text es)))
    ∙ lines_step trace_kinds event_text (λ past e. past ++ e ∷ []) Room event-step room-more 1 [] es []
    (record { fits = f; asks = omega (arith, a); answers = omega (arith, b) })
    ∙ ap (λ x. read_lines trace_kinds (1 + length es) x (parts 10 [])) (puts-all trace_kinds event_text [] es))

-- ── the report ──

abbrev of_joins : Report → Of → Report
of_joins r o = record { ofs = r.ofs ++ o ∷ []; log = r.log }

abbrev entry_joins : Report → Entry → Report
entry_joins r l = record { ofs = r.ofs; log = r.log ++ l ∷ [] }

record OfRoom (past : Report) (os : List Of) : Type 0 where
  fits : All OfIn os
  few : length past.ofs + length os ≤ 64
  first : past.log ≡ []

of-added : (x : Report) (v : List ℕ) → x.log ≡ [] → length x.ofs < 64 → add_of x v ≡ some (of_joins x (of_from v))
unfolding add_of
of-added x v e k = rw (e, add_of) (within-yes (length x.ofs) 64 _ k)

of-step : (n : ℕ) (past : Report) (o : Of) (os : List Of) (r : List ℕ) → OfRoom past (o ∷ os) →
    read_lines report_kinds n past (parts 10 (of_text o ++ r)) ≡ read_lines report_kinds (suc n) (of_joins past o) (parts 10 r)
unfolding of_text unbroken
of-step n past o os r h =
    line_step report_kinds n past _ of_line.word o.rid (o.group ∷ o.count ∷ []) r refl
    (adds-first _ _ past _ (o.rid ∷ o.group ∷ o.count ∷ []) (line-back of_line o.rid (o.group ∷ o.count ∷ []) h.fits.0)
    ∙ of-added past (o.rid ∷ o.group ∷ o.count ∷ []) h.first (omega (arith, h.few)))

of-more : (past : Report) (o : Of) (os : List Of) → OfRoom past (o ∷ os) → OfRoom (of_joins past o) os
of-more past o os h =
    record { fits = h.fits.1; few = omega (arith, h.few, length-append past.ofs (o ∷ [])); first = h.first }

record LogRoom (past : Report) (ls : List Entry) : Type 0 where
  fits : All EntryIn ls
  few : length past.log + length ls ≤ 1024

log-added : (x : Report) (v : List ℕ) → is_operation (get_or v 3 0) ≡ true → length x.log < 1024 → add_log x v ≡ some (entry_joins x (entry_from v))
unfolding add_log
log-added x v o k = rw (o, add_log) (within-yes (length x.log) 1024 _ k)

log-step : (n : ℕ) (past : Report) (l : Entry) (ls : List Entry) (r : List ℕ) → LogRoom past (l ∷ ls) →
    read_lines report_kinds n past (parts 10 (entry_text l ++ r)) ≡ read_lines report_kinds (suc n) (entry_joins past l) (parts 10 r)
unfolding entry_text unbroken prefix
log-step n past l ls r h =
    let vs = l.rid ∷ l.num ∷ l.op.kind ∷ l.op.key ∷ l.op.value ∷ [] in
    line_step report_kinds n past _ log_line.word l.op.object vs r refl
    (adds-later _ _ past _ (line-not of_line (log_line.word ++ joined l.op.object vs) refl)
    ∙ adds-first _ _ past _ (l.op.object ∷ vs) (line-back log_line l.op.object vs h.fits.0.fields)
    ∙ log-added past (l.op.object ∷ vs) h.fits.0.operation (omega (arith, h.few)))

log-room : (past : Report) (l : Entry) (ls : List Entry) → LogRoom past (l ∷ ls) → LogRoom (entry_joins past l) ls
log-room past l ls h = record { fits = h.fits.1; few = omega (arith, h.few, length-append past.log (l ∷ [])) }

ofs-all : (past : Report) (os : List Of) → puts report_kinds of_text of_joins past os ≡ record { ofs = past.ofs ++ os; log = past.log }
ofs-all past [] = let e = sym (append-nil past.ofs) in λ i. record { ofs = e i; log = past.log }
ofs-all past (o ∷ os) =
    ofs-all (of_joins past o) os
    ∙ (let e = append_assoc past.ofs (o ∷ []) os in λ i. record { ofs = e i; log = past.log })

log-all : (past : Report) (ls : List Entry) →
    puts report_kinds entry_text entry_joins past ls ≡ record { ofs = past.ofs; log = past.log ++ ls }
log-all past [] = let e = sym (append-nil past.log) in λ i. record { ofs = past.ofs; log = e i }
log-all past (l ∷ ls) =
    log-all (entry_joins past l) ls
    ∙ (let e = append_assoc past.log (l ∷ []) ls in λ i. record { ofs = past.ofs; log = e i })

pub report-back : (r : Report) → All OfIn r.ofs → All EntryIn r.log → length r.ofs ≤ 64 → length r.log ≤ 1024 →
    length (report_text r) ≤ 65535 → read_report (report_text r) ≡ readable r
unfolding read_report report_text
report-back r f g a b h =
    let os = lines_text of_text r.ofs in
    let ls = lines_text entry_text r.log in
    let m = 1 + length r.ofs in
    let n = m + length r.log in
    let x₀ : Report = record { ofs = []; log = [] } in
    let x₁ : Report = record { ofs = r.ofs; log = [] } in
    text-back report_kinds x₀ r (os ++ ls) n h
    (lines_step report_kinds of_text of_joins OfRoom of-step of-more 1 x₀ r.ofs ls (record { fits = f; few = omega (arith, a); first = refl })
    ∙ ap (λ x. read_lines report_kinds m x (parts 10 ls)) (ofs-all x₀ r.ofs)
    ∙ ap (λ s. read_lines report_kinds m x₁ (parts 10 s)) (sym (append-nil ls))
    ∙ lines_step report_kinds entry_text entry_joins LogRoom log-step log-room m x₁ r.log [] (record { fits = g; few = omega (arith, b) })
    ∙ ap (λ x. read_lines report_kinds n x (parts 10 [])) (log-all x₁ r.log))

-- ── how long they are at most ──

lines-bound : {A : Type 0} (P : A → Type 0) (g : A → List ℕ) (b : ℕ) → ((x : A) → P x → length (g x) ≤ b) →
    (xs : List A) → All P xs → length (lines_text g xs) ≤ b * length xs
unfolding lines_text
lines-bound P g b h [] p = omega arith
lines-bound P g b h (x ∷ xs) p =
    omega (arith, length-append (g x) (lines_text g xs), h x p.0, lines-bound P g b h xs p.1, mul-suc b (length xs))

event-bound : (e : Event) → EventIn e → length (event_text e) ≤ 77
unfolding event_text decimal digits_in
event-bound (Request rid prog a b) h = omega (arith, line-bound request_line (rid ∷ prog ∷ a ∷ b ∷ []) h)
event-bound (Response rid status value) h = omega (arith, line-bound response_line (rid ∷ status ∷ value ∷ []) h)

of-bound : (o : Of) → OfIn o → length (of_text o) ≤ 16
unfolding of_text decimal digits_in
of-bound o h = omega (arith, line-bound of_line (of_numbers o) h)

entry-bound : (l : Entry) → EntryIn l → length (entry_text l) ≤ 62
unfolding entry_text decimal digits_in
entry-bound l h = omega (arith, line-bound narrow_log (entry_numbers l) (entry-range l h))

pub trace-bound : (es : List Event) → All EventIn es → length (trace_text es) ≤ 77 * length es
unfolding trace_text
trace-bound es h = lines-bound EventIn event_text 77 event-bound es h

pub report-bound : (r : Report) → All OfIn r.ofs → All EntryIn r.log →
    length (report_text r) ≤ 16 * length r.ofs + 62 * length r.log
unfolding report_text
report-bound r f g =
    omega (
      arith,
      length-append (lines_text of_text r.ofs) (lines_text entry_text r.log),
      lines-bound OfIn of_text 16 of-bound r.ofs f,
      lines-bound EntryIn entry_text 62 entry-bound r.log g,
    )
