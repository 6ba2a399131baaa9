-- The objects of a drawing in the order in which they open, their row numbers, the groups around them, and the entries of a label
-- (01, 'What each contract owes').
use Rattle.std.specs.Prelude.{◌≡◌, cond, ℕ, suc, ◌+◌, ◌<◌, List, [], ◌∷◌, ◌++◌}
use Rattle.drawing.specs.String.{String, equal}
use Rattle.drawing.specs.Object.{Object, leaf, group, Objects, none, more}
use Rattle.drawing.specs.Drawing.{Drawing, outer}
use Rattle.drawing.specs.Table.{rows, parent_in}

-- An object opens at its id char: a group before its objects, these in their order, each with all that it holds before the next.
-- An object's row number is how many objects open before it, so its place in this list.
abbrev mutual
  pub preorder : Object → List Object
  preorder (leaf l d) = leaf l d ∷ []
  preorder (group os d) = group os d ∷ preorder_all os

  pub preorder_all : Objects → List Object
  preorder_all none = []
  preorder_all (more o os) = preorder o ++ preorder_all os

abbrev pub objects_of : Drawing → List Object
objects_of d = preorder (outer d)

abbrev pub description_of : Object → String
description_of (leaf l d) = d
description_of (group os d) = d

-- The places of a label in a list of objects, of which the first has this row number.
abbrev pub entries_from : ℕ → String → List Object → List ℕ
entries_from n label [] = []
entries_from n label (o ∷ os) = cond (equal (description_of o) label) (n ∷ entries_from (suc n) label os) (entries_from (suc n) label os)

-- The entries of a label: the objects in the order in which they open, only those whose description is the label, each as its row number.
abbrev pub entries : String → Drawing → List ℕ
entries label d = entries_from 0 label (objects_of d)

-- For each object in the order in which they open, the rows of the groups around it, the innermost first: its parent, then the groups around its
-- parent.
abbrev mutual
  pub ancestors : Object → (own : ℕ) (around : List ℕ) → List (List ℕ)
  ancestors (leaf l d) own around = around ∷ []
  ancestors (group os d) own around = around ∷ ancestors_all os (suc own) (own ∷ around)

  pub ancestors_all : Objects → (own : ℕ) (around : List ℕ) → List (List ℕ)
  ancestors_all none own around = []
  ancestors_all (more o os) own around = ancestors o own around ++ ancestors_all os (own + rows o) around

-- The outer group, row 0, has none around it.
abbrev pub groups_around : Drawing → List (List ℕ)
groups_around d = ancestors (outer d) 0 []

-- The rows that are met from a row on by following parent numbers until row 0, from row 0 not at all.
abbrev pub ParentChain : List ℕ → ℕ → List ℕ → Type 0
ParentChain contents row [] = row ≡ 0
ParentChain contents row (p ∷ ps) = (0 < row) × (parent_in contents row ≡ p) × ParentChain contents p ps
