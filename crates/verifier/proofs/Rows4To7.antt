-- Rows 4 to 7 of the audit: a row that holds gives the verdict, and a row that does not leaves it to the rows behind.
use Prim.Native.Nat.{ℕ, ◌≤◌}
use mathlib.Core.List.{List, [], ◌∷◌}
use mathlib.Core.Option.{Option, none, some}
use mathlib.Core.Path.{◌≡◌, refl, sym, ap, ◌∙◌, subst}
use native.Mathlib.Omega.{arith}
use lib.Dec.{ltb}
use lib.ListN.{length}
use Rattle.basics.specs.Count.{count}
use Rattle.text.specs.Programs.{known}
use Rattle.text.specs.Report.{Report, no_lines, read_report}
use Rattle.text.specs.Text.{Read, readable, unreadable}
use Rattle.text.specs.Trace.{is_request}
use Rattle.text.specs.declared.programs.Program.{Program}
use Rattle.text.specs.declared.report.Of.{Of}
use Rattle.text.specs.declared.trace.Event.TheVariants.{Request, Response}
use Rattle.text.specs.declared.trace.Event.{Event}
use Rattle.model.specs.Audit.{from8, from6, from4}
use Rattle.model.specs.Requests.{row4, row6}
use Rattle.model.specs.Claims.{row7}
use Rattle.model.specs.Batch.{Batch, batch_of}
use Rattle.model.specs.Checks.{Verdict, verdict, fault_or, first_fault, bad_line, contents}
use Rattle.model.proofs.Scans.{holds, passes}
use Rattle.model.proofs.Trace.{Matching}
use Rattle.machine.specs.Instance.{machine_of}
use Rattle.machine.specs.Objects.{Content}
use Rattle.verifier.specs.Faults.{audited}
use Rattle.verifier.specs.Steps.{refusal, audited_report, audited_trace}
use Rattle.verifier.specs.declared.Audited.{Audited}

-- ── rows 6 and 7 ──
-- one `of` line for each request
pub matching-count : (es : List Event) (xs : List Of) → Matching es xs → length xs ≡ count is_request es
matching-count [] [] h = refl
matching-count [] (x ∷ xs) h = absurd h
matching-count (Request r prog a b ∷ es) [] h = absurd h
matching-count (Request r prog a b ∷ es) (x ∷ xs) h = omega (arith, matching-count es xs h.1)
matching-count (Response r s v ∷ es) xs h = omega (arith, matching-count es xs h)

module _ (opening : ℕ → Content) (table : List Program) (events : List Event) (lines : Report) where
  abbrev b : Batch
  b = batch_of events lines

  abbrev rows6 : Verdict
  rows6 = first_fault (from6 (machine_of table) opening b)

  -- a verdict with the counts of the batch
  abbrev pub counted : Verdict → Audited
  counted v = audited v (count is_request events) (length lines.log)

  pub at-6 : (line : ℕ) → row6 b ≡ some line → refusal 6 line ≡ audited_report opening table events lines
  at-6 line e = let v : verdict 6 line ≡ rows6 = holds verdict 6 (row6 b) _ line e in ap counted v

  module _ (d : row6 b ≡ none) where
    pub at_7 : (line : ℕ) → row7 b ≡ some line → refusal 7 line ≡ audited_report opening table events lines
    at_7 line e = let v : verdict 7 line ≡ rows6 = holds verdict 7 (row7 b) _ line e ∙ passes verdict 6 (row6 b) _ d in ap counted v

    pub past-7 : row7 b ≡ none → first_fault (from8 (machine_of table) opening b) ≡ rows6
    past-7 e = passes verdict 7 (row7 b) _ e ∙ passes verdict 6 (row6 b) _ d

-- ── rows 4 and 5 ──
module _ (opening : ℕ → Content) (table : List Program) (events : List Event) (report : Read Report) where
  abbrev pub lines : Report
  lines = contents no_lines report

  abbrev pub rows4 : Verdict
  rows4 = first_fault (from4 (machine_of table) opening (known table) events report)

  at-4 : (line : ℕ) → row4 (known table) events ≡ some line → refusal 4 line ≡ audited_trace opening table events report
  at-4 line e = let v : verdict 4 line ≡ rows4 = holds verdict 4 (row4 (known table) events) _ line e in ap (counted opening table events lines) v

  module _ (d : row4 (known table) events ≡ none) where
    past-4 : fault_or verdict 5 (bad_line report) (rows6 opening table events lines) ≡ rows4
    past-4 = passes verdict 4 (row4 (known table) events) _ d

    at_5 : (line : ℕ) → report ≡ unreadable line → refusal 5 line ≡ audited_trace opening table events report
    at_5 line e =
        ap (counted opening table events lines) (holds verdict 5 (bad_line report) (rows6 opening table events lines) line (ap bad_line e) ∙ past-4)

    pub past-5 : (x : Report) → report ≡ readable x → audited_report opening table events x ≡ audited_trace opening table events report
    past-5 x e =
        ap (λ y. audited_report opening table events (contents no_lines y)) (sym e)
        ∙ ap (counted opening table events lines) (passes verdict 5 (bad_line report) (rows6 opening table events lines) (ap bad_line e) ∙ past-4)

-- the program numbers that are known, by their count
pub known_in : (table : List Program) (k : ℕ) (events : List Event) (o : Option ℕ) → length table ≡ k → row4 (λ prog. ltb prog k) events ≡ o →
    row4 (known table) events ≡ o
known_in table k events o l e = ap (λ n. row4 (λ prog. ltb prog n) events) l ∙ e

-- ── rows 4 to 7, where k programs are known ──
module _ (k : ℕ) (events : List Event) (s : List ℕ) where
  -- a refusal is that of any k programs, and of any contents at the start
  abbrev Refuses : (row line : ℕ) → Type 0
  Refuses row line =
      (opening : ℕ → Content) (table : List Program) → length table ≡ k → refusal row line ≡ audited_trace opening table events (read_report s)

  pub refused-4 : (line : ℕ) → row4 (λ prog. ltb prog k) events ≡ some line → Refuses 4 line
  refused-4 line e opening table l = at-4 opening table events (read_report s) line (known_in table k events (some line) l e)

  module _ (d : row4 (λ prog. ltb prog k) events ≡ none) where
    pub refused-5 : (line : ℕ) → read_report s ≡ unreadable line → Refuses 5 line
    refused-5 line e opening table l = at_5 opening table events (read_report s) (known_in table k events none l d) line e

    module _ (lines : Report) (e : read_report s ≡ readable lines) where
      past : (opening : ℕ → Content) (table : List Program) → length table ≡ k →
          audited_report opening table events lines ≡ audited_trace opening table events (read_report s)
      past opening table l = past-5 opening table events (read_report s) (known_in table k events none l d) lines e

      pub refused-6 : (line : ℕ) → row6 (batch_of events lines) ≡ some line → Refuses 6 line
      refused-6 line g opening table l = at-6 opening table events lines line g ∙ past opening table l

      pub refused-7 : row6 (batch_of events lines) ≡ none → (line : ℕ) → row7 (batch_of events lines) ≡ some line → Refuses 7 line
      refused-7 g line i opening table l = at_7 opening table events lines g line i ∙ past opening table l
