-- What gathering the entries of a label needs, and what it comes to.
use Rattle.std.specs.Prelude.{◌≡◌, Bool, cond, ℕ, ◌+◌, ◌≤◌, List, [], ◌∷◌, ◌++◌, length, drop}
use Rattle.drawing.specs.String.{String, equal}
use Rattle.drawing.specs.Object.{Object}
use Rattle.drawing.specs.Drawing.{Drawing}
use Rattle.drawing.specs.Table.{IsTable}
use Rattle.drawing.specs.Order.{objects_of, description_of, entries_from, entries}
use Rattle.ways.specs.Written.{Writes}
use Rattle.laws.specs.RowBodies.{RowBody}
use Rattle.places.specs.Rows.{TableHere}

-- Whether the object of a row has this description.
abbrev pub Labels : (contents bodies : List ℕ) → (v r : ℕ) → String → Bool → Type 0
Labels c bs v r label t = (o : Object) → RowBody c bs v r o → t ≡ equal (description_of o) label

-- A row that has the label, or none.
abbrev pub entry_of : Bool → ℕ → List ℕ
entry_of t row = cond t (row ∷ []) []

pub record Entered (labelled : Bool) (count row : ℕ) (list list' : List ℕ) (r : ℕ) : Type 0 where
  pub written : Writes count (entry_of labelled row) list list'
  pub count_is : r ≡ count + length (entry_of labelled row)

-- The entries of the objects before a row are gathered.
pub record Gathering (label : String) (objects : List Object) (row count : ℕ) (list list' : List ℕ) : Type 0 where
  pub done : List ℕ
  pub same : entries_from 0 label objects ≡ done ++ entries_from row label (drop row objects)
  pub count_is : count ≡ length done
  pub few : length done ≤ row
  pub written : Writes 0 done list list'

-- The same for the rows of a table.
pub record Listing (contents bodies : List ℕ) (label : String) (rows version row count : ℕ) (list list' : List ℕ) : Type 0 where
  pub table : TableHere contents bodies rows version
  pub gathering : Gathering label (objects_of table.d) row count list list'
  pub most : row ≤ rows

-- All of a drawing's are counted, and stand in the list if there is room for them.
pub record Gathered (label : String) (d : Drawing) (list list' : List ℕ) (r : ℕ) : Type 0 where
  pub count_is : r ≡ length (entries label d)
  pub written : Writes 0 (entries label d) list list'

abbrev pub Enters : (contents bodies : List ℕ) → String → (list list' : List ℕ) → ℕ → Type 0
Enters c bs label list list' r = (d : Drawing) → IsTable c bs d → Gathered label d list list' r
