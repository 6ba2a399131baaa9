-- What packing a table into a sheet comes to.
use Rattle.std.specs.Prelude.{◌≡◌, ℕ, List, ◌∷◌, ◌++◌}
use Rattle.format.specs.Digits.{all_digits}
use Rattle.drawing.specs.Drawing.{Drawing}
use Rattle.drawing.specs.Table.{IsTable}
use Rattle.drawing.specs.Sheet.{number_bytes, word_bytes}
use Rattle.drawing.specs.Answers.{rows_of, word_count}

-- The sheet of a table with these counts.
abbrev pub sheet_in : (rows words : ℕ) → (contents bodies : List ℕ) → List ℕ
sheet_in rows words contents bodies = all_digits 256 number_bytes (rows ∷ words ∷ contents) ++ all_digits 256 word_bytes bodies

-- A drawing's table, and its counts.
pub record Tabled (contents bodies : List ℕ) (rows words : ℕ) : Type 0 where
  pub drawing : Drawing
  pub is-table : IsTable contents bodies drawing
  pub rows_are : rows ≡ rows_of drawing
  pub words_are : words ≡ word_count drawing
