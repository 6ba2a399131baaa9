-- What a row of a table says of its object: its kind, and where in the bodies its own words stand.
use Rattle.std.specs.Prelude.{◌≡◌, ℕ, ◌+◌, ◌*◌, ◌≤◌, List, ◌++◌, length, get_or, drop}
use Rattle.drawing.specs.Object.{Object, leaf, group, list_of}
use Rattle.drawing.specs.ObjectId.{leaf_letter}
use Rattle.drawing.specs.LeafLayout.{leaf_body}
use Rattle.drawing.specs.Table.{leaf_kind, group_kind, leaf_words, group_own, group_words, row_width, kind_in, start_in}

-- An object's own words in the bodies: a leaf's body, or a group's count and end.
abbrev pub own_words : ℕ → Object → List ℕ
own_words v (leaf l d) = leaf_words v l d
own_words v (group os d) = group_words v (length (list_of os)) d

abbrev pub object_kind : Object → ℕ
object_kind (leaf l d) = leaf_kind l
object_kind (group os d) = group_kind

-- Its own fields are allowed.
abbrev pub OwnGood : ℕ → Object → Type 0
OwnGood v (leaf l d) = (leaf_body v (leaf_letter l)).Good (l, d)
OwnGood v (group os d) = (group_own v).Good (length (list_of os), d)

-- What a row of a table says of its object.
pub record RowBody (contents bodies : List ℕ) (v r : ℕ) (o : Object) : Type 0 where
  pub kind-is : kind_in contents r ≡ object_kind o
  pub size_is : get_or contents (row_width * r + 3) 0 ≡ length (own_words v o)
  pub rest : List ℕ
  pub words_are : drop (start_in contents r) bodies ≡ own_words v o ++ rest
  pub inside : start_in contents r + length (own_words v o) ≤ length bodies
  pub good : OwnGood v o
