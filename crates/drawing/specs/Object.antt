-- Objects and the tree that groups make of them (01, 'Object'; 'What each contract owes': a drawing is defined for itself).
use Rattle.std.specs.Prelude.{List, [], ◌∷◌}
use Rattle.drawing.specs.String.{String}
use Rattle.drawing.specs.Path.{Path}
use Rattle.drawing.specs.Text.{Text}
use Rattle.drawing.specs.Bitmap.{Bitmap}
use Rattle.drawing.specs.TextPath.{TextPath}

-- what a leaf has beside its description
pub data Leaf : Type 0 where
  path : Path → Leaf
  text : Text → Leaf
  bitmap : Bitmap → Leaf
  text_path : TextPath → Leaf

-- An object, and a run of objects. A description is empty below 1.2.
mutual
  pub data Object : Type 0 where
    leaf : Leaf → (description : String) → Object
    group : Objects → (description : String) → Object

  pub data Objects : Type 0 where
    none : Objects
    more : Object → Objects → Objects

abbrev pub list_of : Objects → List Object
list_of none = []
list_of (more o os) = o ∷ list_of os

abbrev pub of_list : List Object → Objects
of_list [] = none
of_list (o ∷ os) = more o (of_list os)
