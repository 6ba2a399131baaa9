-- The id chars of objects (01, 'Object'), and objects taken apart by their kinds.
use Rattle.std.proofs.Math.Option.{Option, none, some}
use Rattle.std.specs.Prelude.{ℕ}
use Prim.Native.Char.{code}
use Rattle.drawing.specs.String.{String}
use Rattle.drawing.specs.Path.{Path}
use Rattle.drawing.specs.Text.{Text}
use Rattle.drawing.specs.Bitmap.{Bitmap}
use Rattle.drawing.specs.TextPath.{TextPath}
use Rattle.drawing.specs.Object.{Leaf, path, text, bitmap, text_path, Object, leaf, group, Objects}

abbrev pub leaf_letter : Leaf → ℕ
leaf_letter (path p) = code "P"
leaf_letter (text t) = code "T"
leaf_letter (bitmap b) = code "I"
leaf_letter (text_path x) = code "X"

abbrev pub path_of : Leaf → Option Path
path_of (path p) = some p
path_of (text t) = none
path_of (bitmap b) = none
path_of (text_path x) = none

abbrev pub text_of : Leaf → Option Text
text_of (path p) = none
text_of (text t) = some t
text_of (bitmap b) = none
text_of (text_path x) = none

abbrev pub bitmap_of : Leaf → Option Bitmap
bitmap_of (path p) = none
bitmap_of (text t) = none
bitmap_of (bitmap b) = some b
bitmap_of (text_path x) = none

abbrev pub text_path_of : Leaf → Option TextPath
text_path_of (path p) = none
text_path_of (text t) = none
text_path_of (bitmap b) = none
text_path_of (text_path x) = some x

abbrev pub object_letter : Object → ℕ
object_letter (leaf l d) = leaf_letter l
object_letter (group os d) = code "G"

abbrev pub leaf_of : Object → Option (Leaf × String)
leaf_of (leaf l d) = some (l, d)
leaf_of (group os d) = none

abbrev pub group_of : Object → Option (Objects × String)
group_of (leaf l d) = none
group_of (group os d) = some (os, d)
