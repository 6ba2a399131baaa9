-- The drawing of a sheet: its counts tell where the contents and the bodies stand, and then it is the drawing of that table. SheetLaws says which drawing this
-- is: the one acceptable drawing with this sheet, where there is one.
use Rattle.std.specs.Prelude.{cond, ℕ, ◌+◌, ◌*◌, List, length, take, drop, eqb}
use Rattle.std.proofs.Math.Option.{Option, none}
use Rattle.format.specs.Digits.{number}
use Rattle.format.specs.Packed.{unpacked}
use Rattle.drawing.specs.Drawing.{Drawing}
use Rattle.drawing.specs.Table.{row_width}
use Rattle.drawing.specs.TableDrawing.{drawing_of_table}
use Rattle.drawing.specs.Sheet.{word_bytes}

module _ (width : ℕ) where
  -- The counts, as the first bytes of a sheet have them.
  abbrev pub row_count : List ℕ → ℕ
  row_count sheet = number 256 (take width sheet)

  abbrev pub words_count : List ℕ → ℕ
  words_count sheet = number 256 (take width (drop width sheet))

  -- The bytes before the bodies of a sheet with so many rows, and those of a sheet with so many words besides.
  abbrev pub bytes_before : (rows : ℕ) → ℕ
  bytes_before rows = 2 * width + width * (row_width * rows)

  abbrev pub sheet_length : (rows words : ℕ) → ℕ
  sheet_length rows words = bytes_before rows + word_bytes * words

  abbrev pub contents_in : List ℕ → (rows : ℕ) → List ℕ
  contents_in sheet rows = unpacked width (take (width * (row_width * rows)) (drop (2 * width) sheet))

  abbrev pub bodies_in : List ℕ → (rows : ℕ) → List ℕ
  bodies_in sheet rows = unpacked word_bytes (drop (bytes_before rows) sheet)

  -- A sheet of any other length than its counts tell is none.
  abbrev pub drawing_of_sheet : List ℕ → Option Drawing
  drawing_of_sheet sheet =
      cond (eqb (length sheet) (sheet_length (row_count sheet) (words_count sheet)))
      (drawing_of_table (contents_in sheet (row_count sheet)) (bodies_in sheet (row_count sheet)))
      none
