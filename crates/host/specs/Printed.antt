-- What the program prints of a run: the verdict with its line, and behind them the two texts, which are empty on a refusal.
use Rattle.std.specs.Prelude.{ℕ, ◌+◌, ◌*◌, List, ◌++◌}
use Rattle.text.specs.Formats.{most_bytes}
use Rattle.writing.specs.Verdict.{verdict_text}
use Rattle.model.specs.Host.{Result}
use Rattle.host.specs.Recorded.{Texts, result_of, written_of, record_of}

unfoldable pub recorded_text : Result Texts → List ℕ
recorded_text x = verdict_text (result_of x).verdict (result_of x).line ++ ((written_of x).trace ++ (written_of x).report)

-- what is printed of programs and a schedule, with as much room for the two texts as a text may have
abbrev pub run_printed : (programs schedule : List ℕ) → List ℕ
run_printed programs schedule = recorded_text (record_of programs schedule most_bytes most_bytes)

-- the most bytes of it: the two lines have 55 at most, and each of the two texts `most_bytes`
abbrev pub most_printed : ℕ
most_printed = 55 + 2 * most_bytes
