-- The cells in a row: cell i of an array, and whether it is the one of a key.
use Rattle.std.specs.Prelude.{ℕ, Bool, ◌&&◌, List, eqb, get_or}
use Rattle.cells.specs.declared.chains.Cell.{Cell}

-- the most cells
abbrev pub most_cells : ℕ
most_cells = 2048

abbrev pub no_cell : Cell
no_cell = record { object = 0; key = 0; value = 0; link = 0 }

-- whether a cell is the one of a key
abbrev pub is_of : Cell → (object key : ℕ) → Bool
is_of cell object key = eqb cell.object object && eqb cell.key key

module _ (cells : List Cell) where
  abbrev pub cell_at : ℕ → Cell
  cell_at i = get_or cells i no_cell

  abbrev pub is_at : (object key : ℕ) → ℕ → Bool
  is_at object key i = is_of (cell_at i) object key
