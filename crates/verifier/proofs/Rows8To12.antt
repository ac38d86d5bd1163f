-- Rows 8 to 12 of the audit: what `judge` finds of a batch that stands in the arrays is what the audit finds of its texts.
use Prim.Native.Nat.{ℕ, zero, suc, ◌≤◌, ◌<◌}
use mathlib.Core.Bool.{Bool, true}
use mathlib.Core.List.{List, [], ◌∷◌, map}
use mathlib.Core.Option.{none}
use mathlib.Core.Path.{◌≡◌, refl, sym, ap, ◌∙◌, subst}
use native.Mathlib.Omega.{arith}
use borrow.Author.Tests.{ltb-true}
use lib.ListN.{length, get_or, take}
use Rattle.basics.specs.Count.{count}
use Rattle.basics.specs.Firsts.{firsts}
use Rattle.basics.proofs.Firsts.{firsts-length, firsts-front}
use Rattle.text.specs.Held.{program_at, table_in}
use Rattle.text.specs.Programs.{no_program, known}
use Rattle.text.specs.Report.{Report, read_report}
use Rattle.text.specs.declared.trace.Event.{Event}
use Rattle.text.specs.Trace.{is_request}
use Rattle.text.specs.declared.programs.Program.{Program}
use Rattle.text.specs.declared.programs.Programs.{Programs}
use Rattle.model.specs.Audit.{row9, from8}
use Rattle.model.specs.Requests.{row4}
use Rattle.model.specs.Claims.{row8}
use Rattle.model.specs.Batch.{Batch, batch_of}
use Rattle.model.specs.Nodes.{merge_of}
use Rattle.model.specs.ByRule.{item_of}
use Rattle.model.specs.Checks.{Verdict, first_fault}
use Rattle.model.proofs.Scans.{passed}
use Rattle.model.proofs.Trace.{row4-order, row6-matching}
use Rattle.machine.specs.Instance.{gone, machine_of}
use Rattle.machine.specs.Objects.{Content}
use Rattle.machine.specs.Processes.{limit}
use Rattle.machine.proofs.SameReplays.{replays-same}
use Rattle.machine.proofs.Tables.{same_code, tables_agree}
use Rattle.replay.specs.Held.{node_at}
use Rattle.replay.specs.Judges.{Ready, Orders}
use Rattle.verifier.specs.Faults.{audited}
use Rattle.verifier.specs.Steps.{audited_trace, ProgramsHeld, BatchHeld, items_in, size_of}
use Rattle.verifier.proofs.ReportRanges.{report-in-range}
use Rattle.verifier.proofs.Rows4To7.{matching-count, past-7, past-5, known_in}

-- the first n of a list by their places
pub firsts-taken : {A B : Type 0} (f : A → B) (xs : List A) (n : ℕ) (d : A) → n ≤ length xs →
    firsts (λ k. f (get_or xs k d)) n ≡ map f (take n xs)
unfolding firsts
firsts-taken f xs zero d h = refl
firsts-taken f [] (suc n) d h = absurd (omega arith)
firsts-taken f (x ∷ xs) (suc n) d h =
    firsts-front (λ k. f (get_or (x ∷ xs) k d)) n ∙ ap (λ t. f x ∷ t) (firsts-taken f xs n d (omega arith))

module _ (programs : List ℕ) (ps : Programs) (held : ProgramsHeld programs ps) (events : List Event) (lines : Report) (s : List ℕ)
    (h : BatchHeld ps.n s events lines) where
  abbrev batch : Batch
  batch = batch_of events lines

  abbrev table : List Program
  table = table_in ps

  counted-in : length table ≡ ps.n
  counted-in = firsts-length (program_at ps.table) ps.n

  lines4 : row4 (known table) events ≡ none
  lines4 = known_in table ps.n events none counted-in h.lines4

  below : (prog : ℕ) → known table prog ≡ true → prog < ps.n
  below prog e = omega (arith, ltb-true prog (length table) e, counted-in)

  ready : Ready (known table) batch
  ready =
      let r = report-in-range s lines h.read in
      record {
        none_to_7 = (lines4, h.unbroken.row6_none, h.unbroken.row7_none);
        programs = λ prog e. omega (arith, below prog e, held.few);
        objects = r.objects;
        counts = r.counts;
      }

  module _ (opening : ℕ → Content) (v : Verdict)
      (j : (known : ℕ → Bool) → Ready known batch → v ≡ first_fault (from8 (machine_of ps.table) opening batch)) where
    -- the first fault of rows 8 to 12
    fault-is : v ≡ first_fault (from8 (machine_of ps.table) opening batch)
    fault-is = j (known table) ready

    pub judged : audited v (length lines.ofs) (length lines.log) ≡ audited_trace opening table events (read_report s)
    judged =
        let a = tables_agree limit ps.table table (known table)
        (λ (prog : ℕ). λ (e : known table prog ≡ true).
        same_code ps.table ps.n prog (below prog e) (held.bounded prog (below prog e))) in
        let w = replays-same (gone limit ps.table) (gone limit table) (known table) a opening batch
        ((row4-order (known table) events).0 lines4).1 1 batch.ofs in
        let c : length lines.ofs ≡ count is_request events =
        matching-count events lines.ofs ((row6-matching batch).0 h.unbroken.row6_none) in
        let u = (rw w at fault-is) ∙ past-7 opening table events lines h.unbroken.row6_none h.unbroken.row7_none in
        (λ i. audited (u i) (c i) (length lines.log))
        ∙ past-5 opening table events (read_report s) lines4 lines h.read

    -- a batch without a fault has an order, and places that order its items give it
    pub no-row-9 : v.number ≡ 0 → row9 batch ≡ none
    no-row-9 z =
        let past = passed 8 (row8 batch) _ 0 refl (sym (ap (λ v. v.number) fault-is) ∙ z) in
        (passed 9 (row9 batch) _ 0 refl past.1).0

  -- places that order the batch stand for the items of its order
  pub ordered : row9 batch ≡ none → (order : List ℕ) → size_of batch ≤ length order → Orders batch order →
      items_in batch (take (size_of batch) order) ≡ map item_of (merge_of batch).0
  unfolding Orders
  ordered z order m o =
      ap (map item_of) (sym (firsts-taken (node_at batch) order (size_of batch) 0 m) ∙ o (known table) ready z)
