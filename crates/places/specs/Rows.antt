-- What the functions that look at a table's rows need, and what they find.
use Rattle.std.specs.Prelude.{◌≡◌, ℕ, ◌+◌, ◌*◌, ◌≤◌, List, length}
use Rattle.drawing.specs.Limits.{length_limit}
use Rattle.drawing.specs.String.{string}
use Rattle.drawing.specs.Object.{Object}
use Rattle.drawing.specs.Drawing.{Drawing}
use Rattle.drawing.specs.LeafLayout.{object_end}
use Rattle.drawing.specs.Table.{words_of, row_width, start_in, IsTable}
use Rattle.drawing.specs.Order.{description_of}
use Rattle.drawing.specs.Answers.{rows_of}
use Rattle.laws.specs.RowBodies.{own_words, RowBody}
use Rattle.laws.specs.Standing.{Here}

-- A table that was checked, with its rows counted and its version read.
pub record TableHere (contents bodies : List ℕ) (rows version : ℕ) : Type 0 where
  pub d : Drawing
  pub is-table : IsTable contents bodies d
  pub rows_are : rows ≡ rows_of d
  pub version-is : version ≡ d.version

-- There is such a row, of some object, in a table that is not too long.
pub record HasRow (contents bodies : List ℕ) (v r : ℕ) : Type 0 where
  pub object : Object
  pub body : RowBody contents bodies v r object
  pub row_inside : row_width * r + 4 ≤ length contents
  pub short : length bodies ≤ length_limit

-- An object's end, the flow frame flag and the description, begins here.
pub record EndsAt (contents bodies : List ℕ) (v r : ℕ) (o : Object) (behind : ℕ) : Type 0 where
  pub here : Here (object_end v) bodies behind (description_of o)
  pub later : start_in contents r ≤ behind
  pub end_is : start_in contents r + length (own_words v o) ≡ behind + length (words_of (object_end v) (description_of o))

abbrev pub EndIs : (contents bodies : List ℕ) → (v r behind : ℕ) → Type 0
EndIs c bs v r behind = (o : Object) → RowBody c bs v r o → EndsAt c bs v r o behind

-- Its description stands here, and ends its body.
pub record Describes (contents bodies : List ℕ) (v r : ℕ) (o : Object) (at : ℕ) : Type 0 where
  pub here : Here (string 0) bodies at (description_of o)
  pub later : start_in contents r ≤ at
  pub end_is : at + length (words_of (string 0) (description_of o)) ≡ start_in contents r + length (own_words v o)
