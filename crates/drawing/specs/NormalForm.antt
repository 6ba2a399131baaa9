-- What a file comes back as: itself, with each true flag made 1 (R-4). Only the shapes of the drawing's fields say which bytes are flags.
use Rattle.std.specs.Prelude.{cond, ℕ, List, [], ◌∷◌, ◌++◌, map, take, drop}
use Rattle.format.specs.Digits.{Below}
use Rattle.format.specs.Kind.{Shape, is_flag, size, Field}
use Rattle.format.specs.Format.{fields}
use Rattle.drawing.specs.Codecs.{truth}
use Rattle.drawing.specs.Drawing.{Drawing, file}

-- The bytes of one field: those of a flag become 0 or 1, and any others stay.
abbrev pub field_made : Shape → List ℕ → List ℕ
field_made s bs = cond (is_flag s) (map truth bs) bs

-- The bytes of fields, one after another, with each true flag made 1.
abbrev pub flags_made : List Field → List ℕ → List ℕ
flags_made [] bs = bs
flags_made (f ∷ fs) bs =
    field_made f.kind.shape (take (size f.kind.shape) bs) ++ flags_made fs (drop (size f.kind.shape) bs)

-- A file of this drawing, with each true flag made 1.
abbrev pub normal_form : Drawing → List ℕ → List ℕ
normal_form d bs = flags_made (fields file.format d) bs

-- The flags among these fields are all 0 or 1.
abbrev pub FlagsPlain : List Field → List ℕ → Type 0
FlagsPlain [] bs = Unit {0}
FlagsPlain (f ∷ fs) bs =
    cond (is_flag f.kind.shape) (Below 2 (take (size f.kind.shape) bs)) (Unit {0}) × FlagsPlain fs (drop (size f.kind.shape) bs)

-- The flags of this file of the drawing are all 0 or 1.
pub record Normal (d : Drawing) (bs : List ℕ) : Type 0 where
  pub flags : FlagsPlain (fields file.format d) bs
