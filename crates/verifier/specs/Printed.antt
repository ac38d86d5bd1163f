-- What the program prints: the verdict lines, of a refusal too, whose counts are 0, and behind them the order of an accepted batch.
use Rattle.std.specs.Prelude.{ℕ, ◌+◌, ◌*◌, List, [], ◌∷◌, ◌++◌}
use Rattle.lines.specs.Bytes.{bytes}
use Rattle.lines.specs.LineText.{line_text}
use Rattle.text.specs.Formats.{most_entries}
use Rattle.text.specs.Held.{most_events}
use Rattle.writing.specs.Verdict.{verdict_text}
use Rattle.verifier.specs.Faults.{audit_of}
use Rattle.verifier.specs.Order.{order_of, order_text}
use Rattle.verifier.specs.declared.Audited.{Audited}

unfoldable pub audited_text : Audited → List ℕ
audited_text a =
    verdict_text a.verdict a.line
    ++ (line_text (bytes "requests=") (a.requests ∷ [])
    ++ (line_text (bytes "operations=") (a.operations ∷ [])
    ++ (line_text (bytes "blocks=") (a.blocks ∷ [])
    ++ line_text (bytes "rest=") (a.rest ∷ []))))

unfoldable pub printed_text : (programs trace report : List ℕ) → List ℕ
printed_text programs trace report = audited_text (audit_of programs trace report) ++ order_text 1 (order_of programs trace report)

-- The most bytes of it. Verdict lines: words and line feeds have 51, and each of the six numbers at most 20 digits.
abbrev pub most_audited : ℕ
most_audited = 171

-- `op=65535,256` for each operation, and `event=128` for each event
abbrev pub most_order : ℕ
most_order = 13 * most_entries + 10 * most_events

abbrev pub most_printed : ℕ
most_printed = most_audited + most_order
