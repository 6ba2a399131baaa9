-- The layout of leaves behind their id (01, 'Object', P, T, I; R-1, X), and what ends every object.
use Rattle.std.specs.Prelude.{refl, Bool, true, ℕ, List, [], ◌∷◌, leb}
use Prim.Native.Char.{code}
use Rattle.format.specs.Layout.{Layout, when, constant, ◌&◌}
use Rattle.format.specs.Alternative.{Alternative, among, chosen}
use Rattle.format.specs.Choice.{alternative}
use Rattle.drawing.specs.Limits.{v1_2, v1_5}
use Rattle.drawing.specs.Fields.{flow_flag}
use Rattle.drawing.specs.FieldLaws.{flow_flag-only}
use Rattle.drawing.specs.String.{String, string}
use Rattle.drawing.specs.Path.{path as path_specs}
use Rattle.drawing.specs.Text.{text as text_specs}
use Rattle.drawing.specs.Bitmap.{bitmap as bitmap_specs}
use Rattle.drawing.specs.TextPath.{text_path as text_path_specs}
use Rattle.drawing.specs.Object.{Leaf, path, text, bitmap, text_path}
use Rattle.drawing.specs.ObjectId.{leaf_letter, path_of, text_of, bitmap_of, text_path_of}

abbrev pub path_case : ℕ → Alternative Leaf leaf_letter
path_case v = alternative (code "P") true (path_specs v) path path_of (λ x. refl) (λ x. refl)

abbrev pub text_case : ℕ → Alternative Leaf leaf_letter
text_case v = alternative (code "T") true (text_specs v) text text_of (λ x. refl) (λ x. refl)

abbrev pub bitmap_case : Alternative Leaf leaf_letter
bitmap_case = alternative (code "I") true bitmap_specs bitmap bitmap_of (λ x. refl) (λ x. refl)

abbrev pub text_path_case : ℕ → Alternative Leaf leaf_letter
text_path_case v = alternative (code "X") (leb v1_5 v) (text_path_specs v) text_path text_path_of (λ x. refl) (λ x. refl)

abbrev pub other_cases : ℕ → List (Alternative Leaf leaf_letter)
other_cases v = text_case v ∷ bitmap_case ∷ text_path_case v ∷ []

-- The char is the id of a leaf in this version.
abbrev pub is_leaf : ℕ → ℕ → Bool
is_leaf v c = among (path_case v) (other_cases v) c

-- What ends an object: the flow frame flag, and from 1.2 on the description.
abbrev pub object_end : ℕ → Layout String
object_end v = constant flow_flag 0 flow_flag-only (when (leb v1_2 v) (string 0) [])

-- What follows a leaf's id.
abbrev pub leaf_body : ℕ → ℕ → Layout (Leaf × String)
leaf_body v letter = chosen (path_case v) (other_cases v) letter & object_end v
