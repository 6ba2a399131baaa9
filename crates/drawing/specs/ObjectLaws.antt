-- A good object tells its id, and lists of objects are runs of objects.
use Rattle.std.specs.Prelude.{◌≡◌, refl, Bool, true, false, cond, ◌&&◌, ◌||◌, ℕ, List, [], ◌∷◌, eqb, leb}
use Rattle.std.proofs.Common.{sym, ap, arith, eqb-true}
use Prim.Native.Char.{code}
use Rattle.format.specs.Kind.{Allowed}
use Rattle.format.specs.Format.{Made}
use Rattle.format.specs.Layout.{Layout}
use Rattle.format.specs.AlternativeLaws.{chosen_tells}
use Rattle.drawing.specs.Limits.{v1_5}
use Rattle.drawing.specs.Fields.{object_fault, object_id}
use Rattle.drawing.specs.String.{String}
use Rattle.drawing.specs.Object.{Object, leaf, group, Objects, list_of, of_list}
use Rattle.drawing.specs.ObjectId.{object_letter, leaf_of, group_of}
use Rattle.drawing.specs.LeafLayout.{path_case, other_cases, is_leaf, leaf_body}

pub list_of_list : (os : List Object) → list_of (of_list os) ≡ os
list_of_list [] = refl
list_of_list (o ∷ os) = ap {B = List Object} (λ l. o ∷ l) (list_of_list os)

-- The ids of leaves, and one more from 1.5 on; this computes for a known id, whatever the version.
abbrev pub leaf_ids : (late : Bool) → ℕ → Bool
leaf_ids late c = eqb c (code "T") || (eqb c (code "I") || (eqb c (code "P") || eqb c (code "X") && late))

pub leaf_ids_lem : (v c : ℕ) → is_leaf v c ≡ leaf_ids (leb v1_5 v) c
leaf_ids_lem v c = ap (λ t. eqb c (code "T") || (eqb c (code "I") || t)) (by (leb v1_5 v) (eqb c (code "X")) (eqb c (code "P")))
  where
    by : (late x p : Bool) → (late && x || p) ≡ (p || x && late)
    by true true true = refl
    by true true false = refl
    by true false true = refl
    by true false false = refl
    by false true true = refl
    by false true false = refl
    by false false true = refl
    by false false false = refl

-- What an allowed id says: it is a leaf's, or a group's where one may nest.
id_of_leaf : (l g : Bool) → object_fault l g false ≡ 0 → l ≡ true
id_of_leaf true g e = refl
id_of_leaf false true e = absurd (omega arith)
id_of_leaf false false e = absurd (omega arith)

id_of_group : (g : Bool) → object_fault false g true ≡ 0 → g ≡ true
id_of_group true e = refl
id_of_group false e = absurd (omega arith)

leaf_letter_lem : (v c : ℕ) (o : Object) → is_leaf v c ≡ true → Made (leaf_body v c).Good (λ (l, d). leaf l d) o (leaf_of o) → object_letter o ≡ c
leaf_letter_lem v c (leaf l d) h g = chosen_tells (path_case v) (other_cases v) c l h g.1.0
leaf_letter_lem v c (group os d) h g = absurd g

pub leaf_tells : (v c : ℕ) (o : Object) → Allowed (object_id (is_leaf v) false) c → Made (leaf_body v c).Good (λ (l, d). leaf l d) o (leaf_of o) → object_letter o ≡ c
leaf_tells v c o a g = leaf_letter_lem v c o (id_of_leaf (is_leaf v c) (eqb c (code "G")) a.faultless) g

group_letter : (P : Objects × String → Type 0) (c : ℕ) (o : Object) → object_fault false (eqb c (code "G")) true ≡ 0 → Made P (λ (os, d). group os d) o (group_of o) → object_letter o ≡ c
group_letter P c (leaf l d) e g = absurd g
group_letter P c (group os d) e g = sym (eqb-true c (code "G") (id_of_group (eqb c (code "G")) e))

pub object_tells : (v : ℕ) (L : Layout (Objects × String)) (c : ℕ) (o : Object) → Allowed (object_id (is_leaf v) true) c
    → cond (is_leaf v c) (Made (leaf_body v c).Good (λ (l, d). leaf l d) o (leaf_of o)) (Made L.Good (λ (os, d). group os d) o (group_of o)) → object_letter o ≡ c
object_tells v L c o a g = by (is_leaf v c) refl a.faultless g
  where
    by : (t : Bool) → is_leaf v c ≡ t → object_fault t (eqb c (code "G")) true ≡ 0
        → cond t (Made (leaf_body v c).Good (λ (l, d). leaf l d) o (leaf_of o)) (Made L.Good (λ (os, d). group os d) o (group_of o)) → object_letter o ≡ c
    by true h e g = leaf_letter_lem v c o h g
    by false h e g = group_letter L.Good c o e g
