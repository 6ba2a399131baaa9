-- The kinds of leaves and their id chars tell one another.
use Rattle.std.specs.Prelude.{◌≡◌, refl, cond, ℕ, eqb}
use Rattle.std.proofs.Common.{arith}
use Prim.Native.Char.{code}
use Rattle.drawing.specs.Object.{Leaf, path, text, bitmap, text_path}
use Rattle.drawing.specs.ObjectId.{leaf_letter}
use Rattle.drawing.specs.Table.{leaf_kind, group_kind, path_kind, text_kind, bitmap_kind, text_path_kind}
use Rattle.drawing.specs.TableDrawing.{letter_of}

abbrev pub kind_by_letter : ℕ → ℕ
kind_by_letter c = cond (eqb c (code "T")) text_kind (cond (eqb c (code "I")) bitmap_kind (cond (eqb c (code "X")) text_path_kind path_kind))

pub leaf_kind_lem : (l : Leaf) → kind_by_letter (leaf_letter l) ≡ leaf_kind l
leaf_kind_lem (path x) = refl
leaf_kind_lem (text x) = refl
leaf_kind_lem (bitmap x) = refl
leaf_kind_lem (text_path x) = refl

pub leaf_letter_lem : (l : Leaf) → letter_of (leaf_kind l) ≡ leaf_letter l
leaf_letter_lem (path x) = refl
leaf_letter_lem (text x) = refl
leaf_letter_lem (bitmap x) = refl
leaf_letter_lem (text_path x) = refl

pub leaf_no_group : (l : Leaf) → leaf_kind l ≡ group_kind → ⊥
leaf_no_group (path x) e = omega arith
leaf_no_group (text x) e = omega arith
leaf_no_group (bitmap x) e = omega arith
leaf_no_group (text_path x) e = omega arith
