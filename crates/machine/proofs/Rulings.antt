-- What a ruling says of the line of a row.
use Rattle.std.proofs.Common.{◌≡◌, ℕ, Result, Ok, Err, sym, ap, ◌∙◌}
use mathlib.Core.Option.{Option, none, some}
use Rattle.machine.specs.Rules.{broken_line}
use Rattle.text.specs.declared.reading.BadLine.{BadLine}

pub broken : (r : Result Unit BadLine) (o : Option ℕ) (e : BadLine) → broken_line r ≡ o → r ≡ Err e → o ≡ some e.line
broken r o e d f = sym d ∙ ap broken_line f

pub kept : (r : Result Unit BadLine) (o : Option ℕ) → broken_line r ≡ o → r ≡ Ok tt → o ≡ none
kept r o d f = sym d ∙ ap broken_line f
