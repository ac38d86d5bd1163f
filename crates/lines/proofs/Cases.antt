-- Numbers and lines, computed.
use Rattle.std.proofs.Common.{◌≡◌, [], ◌∷◌, map, refl, Some, None}
use mathlib.Core.Option.{some, none}
use Rattle.lines.specs.Bytes.{bytes}
use Rattle.lines.specs.Number.{push_of, digits_of, number_of}
use Rattle.lines.specs.Decimal.{digits_in, decimal}
use Rattle.lines.specs.Parts.{onto, parts}
use Rattle.lines.specs.Line.{Format, any, prefix, field_of, fields_of, line_of}
use Rattle.lines.specs.LineText.{separator_of, numbers_text, line_text}

numbers :
    map (λ t. number_of (bytes t))
    ("0"
    ∷ "102"
    ∷ "18446744073709551615"
    ∷ "18446744073709551616"
    ∷ "1000000000000000000000000"
    ∷ ""
    ∷ "00"
    ∷ "01"
    ∷ "+1"
    ∷ "-1"
    ∷ " 1"
    ∷ "1:"
    ∷ [])
    ≡ Some 0 ∷ Some 102 ∷ Some 18446744073709551615 ∷ None ∷ None ∷ None ∷ None ∷ None ∷ None ∷ None ∷ None ∷ None ∷ []
unfolding number_of digits_of push_of
numbers = refl

largest : decimal 18446744073709551615 ≡ bytes "18446744073709551615"
unfolding decimal digits_in
largest = refl

-- a pair of numbers, the second at most 9
pair : Format
pair = record { word = bytes "pair="; largest = any ∷ 9 ∷ [] }

lines :
    map (λ t. line_of pair (bytes t)) ("pair=12,9" ∷ "pair=12,10" ∷ "pair=12" ∷ "pair=12,9,0" ∷ "pair=12,,9" ∷ "pear=12,9" ∷ [])
    ≡ some (12 ∷ 9 ∷ []) ∷ none ∷ none ∷ none ∷ none ∷ none ∷ []
unfolding pair line_of fields_of field_of prefix parts onto number_of digits_of push_of
lines = refl

written : line_text (bytes "pair=") (12 ∷ 9 ∷ []) ≡ bytes "pair=12,9\n"
unfolding line_text numbers_text separator_of decimal digits_in
written = refl
