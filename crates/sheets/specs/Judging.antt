-- What judging a sheet comes to.
use Rattle.std.specs.Prelude.{◌≡◌, Bool, true, false, ℕ, List, length, None, Some}
use Rattle.std.specs.Prelude.{Option as Maybe}
use Rattle.std.proofs.Math.Option.{Option, none, some}
use Rattle.drawing.specs.Drawing.{Drawing}
use Rattle.drawing.specs.TableDrawing.{drawing_of_table}
use Rattle.drawing.specs.Sheet.{number_bytes, IsSheet}
use Rattle.drawing.specs.SheetDrawing.{contents_in, bodies_in, drawing_of_sheet}
use Rattle.drawing.specs.Answers.{rows_of, word_count}
use Rattle.table.specs.declared.counts.Counts.{Counts}

-- The test that there is a drawing.
pub record Tells (found : Option Drawing) (r : Bool) : Type 0 where
  pub yes : r ≡ true → (d : Drawing) × (found ≡ some d)
  pub no : r ≡ false → found ≡ none

abbrev pub HoldsTable : (sheet : List ℕ) → (rows : ℕ) → Bool → Type 0
HoldsTable sheet rows r = Tells (drawing_of_table (contents_in number_bytes sheet rows) (bodies_in number_bytes sheet rows)) r

-- A sheet with its drawing's counts.
pub record Counted (sheet : List ℕ) (rows words : ℕ) : Type 0 where
  pub drawing : Drawing
  pub is-sheet : IsSheet sheet drawing
  pub rows_are : rows ≡ rows_of drawing
  pub words_are : words ≡ word_count drawing

-- The counts of a sheet, or none where these bytes are no sheet.
abbrev pub Judges : List ℕ → Maybe Counts → Type 0
Judges sheet None = drawing_of_sheet number_bytes sheet ≡ none
Judges sheet (Some n) = Counted sheet n.rows n.words × (n.length ≡ length sheet)
