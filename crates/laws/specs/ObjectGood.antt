-- When an object is good, by its cases: a leaf if its fields are, a group if it may nest here and all that it holds is good.
use Rattle.std.specs.Prelude.{◌≡◌, refl, Bool, true, false, ℕ, zero, suc, ◌^◌, ◌<◌, eqb}
use Rattle.std.proofs.Common.{sym, ap, subst, arith}
use Prim.Native.Char.{code}
use Rattle.format.specs.Kind.{Allowed}
use Rattle.format.specs.Layout.{either}
use Rattle.format.specs.AlternativeLaws.{chosen-among}
use Rattle.drawing.specs.Fields.{object_fault, object_id}
use Rattle.drawing.specs.String.{String}
use Rattle.drawing.specs.Object.{Leaf, path, text, bitmap, text_path, leaf, group, Objects}
use Rattle.drawing.specs.ObjectId.{leaf_letter}
use Rattle.drawing.specs.LeafLayout.{path_case, other_cases, is_leaf, leaf_body}
use Rattle.drawing.proofs.ObjectLaws.{group_no_leaf}
use Rattle.drawing.specs.ObjectLayout.{object, group_body, leaf_object, group_object}

-- A leaf's fields are good in this version.
abbrev pub GoodLeaf : ℕ → Leaf → String → Type 0
GoodLeaf v l d = (leaf_body v (leaf_letter l)).Good (l, d)

-- Its id is then one of this version.
pub leaf_on_lem : (v : ℕ) (l : Leaf) (d : String) → GoodLeaf v l d → is_leaf v (leaf_letter l) ≡ true
leaf_on_lem v l d g = chosen-among (path_case v) (other_cases v) l refl g.0

letter_fits : (l : Leaf) → leaf_letter l < 256 ^ 2
letter_fits (path x) = omega arith
letter_fits (text x) = omega arith
letter_fits (bitmap x) = omega arith
letter_fits (text_path x) = omega arith

letter_allowed : (v : ℕ) (deeper : Bool) (l : Leaf) → is_leaf v (leaf_letter l) ≡ true → Allowed (object_id (is_leaf v) deeper) (leaf_letter l)
letter_allowed v deeper l on = record { fits = letter_fits l; faultless = ap (λ t. object_fault t (eqb (leaf_letter l) (code "G")) deeper) on }

pub leaf_good : (v deep : ℕ) (l : Leaf) (d : String) → GoodLeaf v l d → (object v deep).Good (leaf l d)
leaf_good v zero l d g = (letter_allowed v false l (leaf_on_lem v l d g), (refl, g))
leaf_good v (suc deep) l d g =
    let on = leaf_on_lem v l d g in
    (letter_allowed v true l on, subst (λ t. (either t (leaf_object v (leaf_letter l)) (group_object v (object v deep))).Good (leaf l d)) (sym on) (refl, g))

pub good_leaf : (v deep : ℕ) (l : Leaf) (d : String) → (object v deep).Good (leaf l d) → GoodLeaf v l d
good_leaf v zero l d g = g.1.1
good_leaf v (suc deep) l d g = by (is_leaf v (leaf_letter l)) g.1
  where
    by : (t : Bool) → (either t (leaf_object v (leaf_letter l)) (group_object v (object v deep))).Good (leaf l d) → GoodLeaf v l d
    by true g = g.1
    by false g = absurd g

pub group_good : (v deep : ℕ) (os : Objects) (d : String) → (group_body v (object v deep)).Good (os, d) → (object v (suc deep)).Good (group os d)
group_good v deep os d g = (
  record { fits = omega arith; faultless = ap (λ t. object_fault t true true) (group_no_leaf v) },
  subst (λ t. (either t (leaf_object v (code "G")) (group_object v (object v deep))).Good (group os d)) (sym (group_no_leaf v)) (refl, g),
)

pub good_group : (v deep : ℕ) (os : Objects) (d : String) → (object v (suc deep)).Good (group os d) → (group_body v (object v deep)).Good (os, d)
good_group v deep os d g = by (is_leaf v (code "G")) g.1
  where
    by : (t : Bool) → (either t (leaf_object v (code "G")) (group_object v (object v deep))).Good (group os d) → (group_body v (object v deep)).Good (os, d)
    by true g = absurd g
    by false g = g.1

-- Where nothing may nest any more there is no group.
pub no_group : (v : ℕ) (os : Objects) (d : String) → (object v zero).Good (group os d) → ⊥
no_group v os d g = g.1
