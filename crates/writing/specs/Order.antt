-- The lines of an order. An item is two numbers: an event its trace line and 0, an operation its request and its number there, which is
-- not 0.
use Rattle.std.specs.Prelude.{ℕ, ◌+◌, ◌*◌, cond, List, [], ◌∷◌, eqb, get_or}
use Rattle.std.specs.Simd.{first_chunks}
use Rattle.basics.specs.Firsts.{firsts}
use Rattle.lines.specs.Bytes.{bytes}
use Rattle.lines.specs.LineText.{line_text}
use Rattle.text.specs.Written.{lines_text}
use Rattle.writing.specs.declared.orders.Item.{Item}

unfoldable pub event_item : (line : ℕ) → List ℕ
event_item n = line_text (bytes "event=") (n ∷ [])

unfoldable pub operation_item : (rid num : ℕ) → List ℕ
operation_item r k = line_text (bytes "op=") (r ∷ k ∷ [])

unfoldable pub item_text : Item → List ℕ
item_text x = cond (eqb x.num 0) (event_item x.id) (operation_item x.id x.num)

-- an item as it stands in an array
abbrev pub item_of : List ℕ → Item
item_of row = record { id = get_or row 0 0; num = get_or row 1 0 }

-- item i of an array
abbrev pub item_at : List ℕ → ℕ → Item
item_at items i = record { id = get_or items (2 * i) 0; num = get_or items (2 * i + 1) 0 }

-- the lines of the first n
unfoldable pub items_text : List ℕ → ℕ → List ℕ
items_text items n = lines_text item_text (firsts (item_at items) n)

-- the first n as they stand in the array
abbrev pub rows : List ℕ → ℕ → List (List ℕ)
rows items n = first_chunks 2 n items
