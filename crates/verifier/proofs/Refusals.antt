-- What is known where a step of the audit went on, and where it stopped.
use Prim.Native.Nat.{ℕ, ◌≤◌, min}
use mathlib.Core.List.{List, []}
use mathlib.Core.Logic.{◌≢◌}
use mathlib.Core.Option.{Option, none, some, get_or}
use mathlib.Core.Path.{◌≡◌, refl, sym, ap, ◌∙◌, subst}
use lib.ListN.{length}
use native.Mathlib.Omega.{arith}
use lib.Dec.{ltb}
use Rattle.std.proofs.Common.{Result, Ok, Err}
use Rattle.basics.specs.Firsts.{firsts}
use Rattle.basics.proofs.Tests.{clash}
use Rattle.text.specs.Held.{read_in, program_at, table_in, report_of, ProgramsIs}
use Rattle.text.specs.Programs.{read_programs}
use Rattle.text.specs.Report.{Report, read_report}
use Rattle.text.specs.Text.{Read, readable, unreadable}
use Rattle.text.specs.Trace.{read_trace}
use Rattle.text.specs.declared.programs.Programs.{Programs}
use Rattle.text.specs.declared.reading.BadLine.{BadLine}
use Rattle.text.specs.declared.report.Entry.{Entry}
use Rattle.text.specs.declared.report.Of.{Of}
use Rattle.text.specs.declared.trace.Event.{Event}
use Rattle.model.specs.Batch.{batch_of}
use Rattle.model.specs.Checks.{verdict}
use Rattle.model.specs.Claims.{row7}
use Rattle.model.specs.Requests.{row4, row6}
use Rattle.machine.specs.Objects.{at_start}
use Rattle.machine.specs.Rules.{row2, broken_line}
use Rattle.replay.specs.Judges.{Judges}
use Rattle.replay.specs.declared.batch.Fault.{Fault}
use Rattle.verifier.specs.Faults.{audited, audit_of}
use Rattle.verifier.specs.Order.{order_of}
use Rattle.verifier.specs.Steps.{fault_at, ProgramsHeld, ProgramsChecked, BatchHeld, BatchChecked, OrderIs, OrderedIs}
use Rattle.verifier.proofs.Rows4To7.{refused-4, refused-5, refused-6, refused-7}
use Rattle.verifier.proofs.Verdicts.{audited-texts, refused-1, refused-2, refused-3, refused-4-to-7, refused-8-to-12, accepted, order-is}

-- ── one step ──
abbrev fault_in : Result (Unit {0}) Fault → Fault
fault_in (Ok u) = record { row = 0; line = 0 }
fault_in (Err f) = f

module _ (row : ℕ) where
  pub went-on : (o : Option ℕ) (u : Unit {0}) → fault_at row o ≡ Ok u → o ≡ none
  went-on none u e = refl
  went-on (some line) u e = clash (cc)

  pub stopped : (o : Option ℕ) (f : Fault) → fault_at row o ≡ Err f → (f.row ≡ row) × (o ≡ some f.line)
  stopped none f e = clash (cc)
  stopped (some line) f e = let g = sym (ap fault_in e) in (ap (λ f. f.row) g, sym (ap (λ f. some f.line) g))

module _ {A : Type 0} (x : A) (y : Read A) where
  pub read-whole : (r : Result (Unit {0}) BadLine) → read_in r x ≡ y → broken_line r ≡ none → y ≡ readable x
  unfolding read_in
  read-whole (Ok u) e z = sym e
  read-whole (Err f) e z = clash (cc)

  pub read-broken : (r : Result (Unit {0}) BadLine) → read_in r x ≡ y → (line : ℕ) → broken_line r ≡ some line → y ≡ unreadable line
  unfolding read_in
  read-broken (Ok u) e line z = clash (cc)
  read-broken (Err f) e line z = sym e ∙ ap (λ o. unreadable (get_or o 0)) z

-- ── rows 1 and 2 ──
module _ (s : List ℕ) (ps : Programs) (r : Result (Unit {0}) BadLine) (h : ProgramsIs s r ps) where
  pub stopped-1 : (f : Fault) → fault_at 1 (broken_line r) ≡ Err f → ProgramsChecked s ps (Err f)
  stopped-1 f e =
      let q = stopped 1 (broken_line r) f e in (
        λ z. omega (arith, z, q.0),
        λ opening trace report. rw q.0 (refused-1 s opening trace report f.line (read-broken (table_in ps) (read_programs s) r h.read f.line q.1)),
      )

  pub past-1 : (u : Unit {0}) → fault_at 1 (broken_line r) ≡ Ok u → (o : Option ℕ) → o ≡ row2 (firsts (program_at ps.table) (min ps.n 16)) →
      ProgramsChecked s ps (fault_at 2 o)
  past-1 u e o d =
      let all : min ps.n 16 ≡ ps.n = omega (arith, h.few) in
      let read = read-whole (table_in ps) (read_programs s) r h.read (went-on 1 (broken_line r) u e) in
      ruled o (d ∙ ap (λ n. row2 (firsts (program_at ps.table) n)) all) read
    where
      ruled : (o : Option ℕ) → o ≡ row2 (table_in ps) → read_programs s ≡ readable (table_in ps) → ProgramsChecked s ps (fault_at 2 o)
      ruled none d read = record { read = read; rules = sym d; few = h.few; bounded = h.bounded }
      ruled (some line) d read = (
        λ z. omega (arith, z),
        λ opening trace report. refused-2 s opening trace report (table_in ps) read line (sym d),
      )

-- ── rows 4 to 7 ──
module _ (k : ℕ) (events : List Event) (s : List ℕ) (ofs : List Of) (log : List Entry) where
  abbrev Checked : Result (Unit {0}) Fault → Type 0
  Checked = BatchChecked k events s ofs log

  abbrev lines : Report
  lines = report_of ofs log

  module _ (o : Option ℕ) (d : o ≡ row4 (λ prog. ltb prog k) events) where
    pub stopped-4 : (f : Fault) → fault_at 4 o ≡ Err f → Checked (Err f)
    stopped-4 f e =
        let q = stopped 4 o f e in (
          λ z. omega (arith, z, q.0),
          λ opening table l. rw q.0 (refused-4 k events s f.line (sym d ∙ q.1) opening table l),
        )

    module _ (u : Unit {0}) (e : fault_at 4 o ≡ Ok u) (r : Result (Unit {0}) BadLine) (h : read_in r lines ≡ read_report s) where
      abbrev none4 : row4 (λ prog. ltb prog k) events ≡ none
      none4 = sym d ∙ went-on 4 o u e

      pub stopped-5 : (f : Fault) → fault_at 5 (broken_line r) ≡ Err f → Checked (Err f)
      stopped-5 f g =
          let q = stopped 5 (broken_line r) f g in (
            λ z. omega (arith, z, q.0),
            λ opening table l. rw q.0 (refused-5 k events s none4 f.line (read-broken lines (read_report s) r h f.line q.1) opening table l),
          )

      module _ (u5 : Unit {0}) (e5 : fault_at 5 (broken_line r) ≡ Ok u5) (o6 : Option ℕ) (d6 : o6 ≡ row6 (batch_of events lines)) where
        abbrev read : read_report s ≡ readable lines
        read = read-whole lines (read_report s) r h (went-on 5 (broken_line r) u5 e5)

        pub stopped-6 : (f : Fault) → fault_at 6 o6 ≡ Err f → Checked (Err f)
        stopped-6 f g =
            let q = stopped 6 o6 f g in (
              λ z. omega (arith, z, q.0),
              λ opening table l. rw q.0 (refused-6 k events s none4 lines read f.line (sym d6 ∙ q.1) opening table l),
            )

        pub past-6 : (u6 : Unit {0}) → fault_at 6 o6 ≡ Ok u6 → (o7 : Option ℕ) → o7 ≡ row7 (batch_of events lines) → Checked (fault_at 7 o7)
        past-6 u6 e6 none d7 =
            record {
              lines4 = none4;
              read = read;
              unbroken = record { row6_none = sym d6 ∙ went-on 6 o6 u6 e6; row7_none = sym d7 };
            }
        past-6 u6 e6 (some line) d7 = (
          λ z. omega (arith, z),
          λ opening table l. refused-7 k events s none4 lines read (sym d6 ∙ went-on 6 o6 u6 e6) line (sym d7) opening table l,
        )

-- ── from the programs to the order ──
module _ (s trace report o : List ℕ) where
  pub stopped-1-or-2 : (ps : Programs) (f : Fault) → ProgramsChecked s ps (Err f) → OrderedIs s trace report o o (Err f)
  stopped-1-or-2 ps f g = (g.0, g.1 at_start (read_trace trace) (read_report report) ∙ audited-texts s trace report, refl)

  module _ (ps : Programs) (h : ProgramsHeld s ps) (events : List Event) (t : Result (Unit {0}) BadLine) (g : read_in t events ≡ read_trace trace) where
    pub stopped-3 : (f : Fault) → fault_at 3 (broken_line t) ≡ Err f → OrderedIs s trace report o o (Err f)
    stopped-3 f e =
        let q = stopped 3 (broken_line t) f e in (
          λ z. omega (arith, z, q.0),
          rw q.0 (refused-3 s trace report ps h f.line (read-broken events (read_trace trace) t g f.line q.1)),
          refl,
        )

    module _ (u : Unit {0}) (e : fault_at 3 (broken_line t) ≡ Ok u) where
      abbrev read-3 : read_trace trace ≡ readable events
      read-3 = read-whole events (read_trace trace) t g (went-on 3 (broken_line t) u e)

      pub stopped-4-to-7 : (ofs : List Of) (log : List Entry) (f : Fault) → BatchChecked ps.n events report ofs log (Err f) →
          OrderedIs s trace report o o (Err f)
      stopped-4-to-7 ofs log f k = (k.0, refused-4-to-7 s trace report ps h events read-3 f.row f.line k.1, refl)

      module _ (ofs : List Of) (log : List Entry) (k : BatchHeld ps.n report events (report_of ofs log)) (r : Result (Unit {0}) Fault)
          (j : Judges at_start ps (batch_of events (report_of ofs log)) r) where
        pub stopped-8-to-12 : (f : Fault) → r ≡ Err f → f.row ≢ 0 → OrderedIs s trace report o o (Err f)
        stopped-8-to-12 f z n =
            let j' = subst (Judges at_start ps (batch_of events (report_of ofs log))) z j in
            (n, refused-8-to-12 s trace report ps h events read-3 (report_of ofs log) k (verdict f.row f.line) j' n, refl)

        module _ (v : Unit {0}) (z : r ≡ Ok v) where
          judged-fine : Judges at_start ps (batch_of events (report_of ofs log)) (Ok v)
          judged-fine = subst (Judges at_start ps (batch_of events (report_of ofs log))) z j

          pub past-12 : audited (verdict 0 0) (length ofs) (length log) ≡ audit_of s trace report
          past-12 = accepted s trace report ps h events read-3 (report_of ofs log) k (verdict 0 0) judged-fine refl

          pub ordered-12 : OrderIs (batch_of events (report_of ofs log)) (order_of s trace report)
          ordered-12 = order-is s trace report ps h events read-3 (report_of ofs log) k (verdict 0 0) judged-fine refl
