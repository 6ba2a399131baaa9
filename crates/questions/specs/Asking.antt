-- What asking about a row comes to: the row, with its object, or a refusal.
use Rattle.std.specs.Prelude.{◌≡◌, ℕ, ◌<◌, ◌≤◌, List, length, get_or}
use Rattle.std.proofs.Math.Option.{none, some}
use Rattle.std.proofs.Math.ListN.{get_elem?}
use Rattle.drawing.specs.Numbers.{no_row, no_part, no_table, not_a_number}
use Rattle.drawing.specs.Object.{Object}
use Rattle.drawing.specs.Drawing.{Drawing}
use Rattle.drawing.specs.TableDrawing.{drawing_of_table}
use Rattle.drawing.specs.Order.{objects_of}
use Rattle.drawing.specs.Answers.{rows_of}
use Rattle.laws.specs.RowBodies.{RowBody}
use Rattle.places.specs.Rows.{HasRow}
use Rattle.questions.specs.declared.asked.Refusal.{Refusal}
use Rattle.questions.specs.declared.asked.Refusal.TheVariants.{NoTable, NoRow, NoPart, NotANumber}

-- The row's object, by which the question is answered.
pub record Asked (contents bodies : List ℕ) (row : ℕ) : Type 0 where
  pub d : Drawing
  pub is : drawing_of_table contents bodies ≡ some d
  pub object : Object
  pub object-is : get_elem? (objects_of d) row ≡ some object
  -- the first word tells the version
  pub begun : 0 < length bodies
  pub version-is : get_or bodies 0 0 ≡ d.version
  pub body : RowBody contents bodies (get_or bodies 0 0) row object
  pub has : HasRow contents bodies (get_or bodies 0 0) row

-- What is given is the row that was asked about.
pub record AskedRow (contents bodies : List ℕ) (row : ℕ) (contents' bodies' : List ℕ) (v r : ℕ) : Type 0 where
  pub contents-are : contents' ≡ contents
  pub bodies-are : bodies' ≡ bodies
  pub version-is : v ≡ get_or bodies 0 0
  pub row_is : r ≡ row
  pub asked : Asked contents bodies row

-- The number of a refusal.
abbrev pub number_of : Refusal → ℕ
number_of NoTable = no_table
number_of NoRow = no_row
number_of NoPart = no_part
number_of NotANumber = not_a_number

-- Why there is no such row. The other refusals are not the row's.
abbrev pub Refuses : (contents bodies : List ℕ) → (row : ℕ) → Refusal → Type 0
Refuses c bs row NoTable = drawing_of_table c bs ≡ none
Refuses c bs row NoRow = (d : Drawing) × ((drawing_of_table c bs ≡ some d) × (rows_of d ≤ row))
Refuses c bs row NoPart = ⊥
Refuses c bs row NotANumber = ⊥
