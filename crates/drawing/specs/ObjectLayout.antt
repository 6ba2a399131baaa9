-- The layout of objects (01, 'Object'), by recursion on how many groups may still nest.
use Rattle.std.specs.Prelude.{refl, true, false, ℕ, zero, suc}
use Rattle.format.specs.Layout.{Layout, field, either, case, counted, renamed, implied, ◌&◌}
use Rattle.drawing.specs.Fields.{member_count, object_id}
use Rattle.drawing.specs.String.{String}
use Rattle.drawing.specs.Object.{Object, leaf, group, Objects, list_of, of_list}
use Rattle.drawing.specs.ObjectId.{object_letter, leaf_of, group_of}
use Rattle.drawing.specs.LeafLayout.{is_leaf, leaf_body, object_end}
use Rattle.drawing.specs.ObjectLaws.{list_of_list, leaf_tells, object_tells}

-- What follows a group's id: a count and as many objects, each laid out in this way, and then the group's own end.
abbrev pub group_body : ℕ → Layout Object → Layout (Objects × String)
group_body v each = renamed (counted member_count each) of_list list_of (λ os good. list_of_list os) & object_end v

abbrev pub leaf_object : ℕ → ℕ → Layout Object
leaf_object v letter = case (leaf_body v letter) (λ (l, d). leaf l d) leaf_of (λ t good. refl)

abbrev pub group_object : ℕ → Layout Object → Layout Object
group_object v each = case (group_body v each) (λ (os, d). group os d) group_of (λ t good. refl)

-- An object in which groups nest at most so deep.
abbrev pub object : ℕ → ℕ → Layout Object
object v zero = implied (field (object_id (is_leaf v) false)) (leaf_object v) object_letter (leaf_tells v)
object v (suc deep) =
    implied
    (field (object_id (is_leaf v) true))
    (λ c. either (is_leaf v c) (leaf_object v c) (group_object v (object v deep)))
    object_letter
    (object_tells v (group_body v (object v deep)))
