-- The audit of three texts: the rows of the scope's table in their order, the first fault, and the result.
use Rattle.std.specs.Prelude.{ℕ, ◌/◌, ◌%◌, cond, List, [], ◌∷◌, ◌++◌, eqb, length}
use Rattle.basics.specs.Count.{count}
use Rattle.text.specs.Programs.{read_programs, known}
use Rattle.text.specs.Report.{Report, no_lines, read_report}
use Rattle.text.specs.Text.{Read}
use Rattle.text.specs.Trace.{is_request, read_trace}
use Rattle.text.specs.declared.programs.Program.{Program}
use Rattle.text.specs.declared.trace.Event.{Event}
use Rattle.model.specs.Audit.{from4}
use Rattle.model.specs.Checks.{Verdict, Check, check, first_fault, bad_line, contents}
use Rattle.machine.specs.Instance.{machine_of}
use Rattle.machine.specs.Objects.{Content, at_start}
use Rattle.machine.specs.Front.{program_checks}
use Rattle.verifier.specs.declared.Audited.{Audited}

-- all rows, from contents at the start, where `programs`, `trace` and `report` are what was read
abbrev pub checks_of : (opening : ℕ → Content) → Read (List Program) → Read (List Event) → Read Report → List Check
checks_of opening programs trace report =
    let table = contents [] programs in
    program_checks programs
    ++ (check 3 (bad_line trace) ∷ from4 (machine_of table) opening (known table) (contents [] trace) report)

-- a count as it is shown with a verdict, which is 0 on a refusal
abbrev pub shown : (verdict n : ℕ) → ℕ
shown verdict n = cond (eqb verdict 0) n 0

-- A verdict with its counts. The operations are charged by whole hundreds, and the rest is carried to the next bill.
abbrev pub audited : Verdict → (requests operations : ℕ) → Audited
audited v requests operations =
    let n = shown v.number operations in
    record {
      verdict = v.number;
      line = v.line;
      requests = shown v.number requests;
      operations = n;
      blocks = n / 100;
      rest = n % 100;
    }

abbrev pub audited_of : (opening : ℕ → Content) → Read (List Program) → Read (List Event) → Read Report → Audited
audited_of opening programs trace report =
    audited
    (first_fault (checks_of opening programs trace report))
    (count is_request (contents [] trace))
    (length (contents no_lines report).log)

unfoldable pub audit_of : (programs trace report : List ℕ) → Audited
audit_of programs trace report = audited_of at_start (read_programs programs) (read_trace trace) (read_report report)
