-- What holds of an example file that is given in full.
use Rattle.std.specs.Prelude.{◌≡◌, ℕ, List}
use Rattle.std.proofs.Math.Option.{none, some}
use Rattle.drawing.specs.Drawing.{Drawing, file_of}
use Rattle.drawing.specs.Reading.{drawing, drawing_of}
use Rattle.drawing.specs.NormalForm.{normal_form}
use Rattle.drawing.specs.Table.{contents_of, bodies_of}
use Rattle.drawing.specs.TableDrawing.{drawing_of_table}

-- The file is read as this drawing and the drawing written as this file; its table has these contents and bodies, and gives it back.
pub record Whole (file : List ℕ) (tree : Drawing) (contents bodies : List ℕ) : Type 0 where
  pub reads : drawing_of file ≡ drawing tree
  pub writes : file_of tree ≡ file
  pub rows : contents_of tree ≡ contents
  pub words : bodies_of tree ≡ bodies
  pub back : drawing_of_table contents bodies ≡ some tree

-- With another byte for true in each flag the file is read as the same drawing, and its normal form is the file. With another word for true in each flag
-- of its bodies the table is none.
pub record Respelled (other file : List ℕ) (tree : Drawing) (contents other_bodies : List ℕ) : Type 0 where
  pub reads : drawing_of other ≡ drawing tree
  pub made : normal_form tree other ≡ file
  pub strict : drawing_of_table contents other_bodies ≡ none
