-- The report: at most 64 `of` lines, then at most 1,024 `log` lines.
use Rattle.std.specs.Prelude.{ℕ, List, [], ◌∷◌, ◌++◌, true, false, length, get_or}
use Rattle.std.proofs.Math.Option.{Option, none}
use Rattle.text.specs.Text.{Read, Kind, within, read_text}
use Rattle.text.specs.Codes.{is_operation}
use Rattle.text.specs.Formats.{of_line, log_line, most_ofs, most_entries}
use Rattle.text.specs.declared.report.Of.{Of}
use Rattle.text.specs.declared.report.Entry.{Entry}

pub record Report : Type 0 where
  pub ofs : List Of
  pub log : List Entry

abbrev pub no_lines : Report
no_lines = record { ofs = []; log = [] }

-- the numbers of an `of` and of a `log` line
abbrev pub of_from : List ℕ → Of
of_from v = record { rid = get_or v 0 0; group = get_or v 1 0; count = get_or v 2 0 }

abbrev pub entry_from : List ℕ → Entry
entry_from v =
    record {
      rid = get_or v 1 0;
      num = get_or v 2 0;
      op = record { object = get_or v 0 0; kind = get_or v 3 0; key = get_or v 4 0; value = get_or v 5 0 };
    }

-- no `of` line stands behind a `log` line
unfoldable pub add_of : Report → List ℕ → Option Report
add_of r v =
    elim r.log [
      | [] ↦ within (length r.ofs) most_ofs (record { ofs = r.ofs ++ of_from v ∷ []; log = [] })
      | l ∷ ls ↦ none
    ]

-- the kind is the code of an operation
unfoldable pub add_log : Report → List ℕ → Option Report
add_log r v =
    elim (is_operation (get_or v 3 0)) [
      | true ↦ within (length r.log) most_entries (record { ofs = r.ofs; log = r.log ++ entry_from v ∷ [] })
      | false ↦ none
    ]

abbrev pub report_kinds : List (Kind Report)
report_kinds = record { format = of_line; add = add_of } ∷ record { format = log_line; add = add_log } ∷ []

unfoldable pub read_report : List ℕ → Read Report
read_report s = read_text report_kinds no_lines s
