-- The drawing of a file's bytes, computed: the layout is parsed. Nobody need believe it: DrawingLaws says which drawing it finds, and which refusal.
use Rattle.std.specs.Prelude.{cond, ℕ, ◌-◌, List, [], ◌∷◌, length, ltb}
use Rattle.format.specs.Codec.{Codec, Outcome, found, refused}
use Rattle.format.specs.FixedReading.{fixed}
use Rattle.format.specs.Parse.{parse}
use Rattle.drawing.specs.Numbers.{too_long, trailing_bytes}
use Rattle.drawing.specs.Codecs.{byte_fields, word_fields}
use Rattle.drawing.specs.Limits.{length_limit}
use Rattle.drawing.specs.Drawing.{Drawing, file}

-- The codecs of a file and of a table.
abbrev pub bytes : Codec
bytes = fixed byte_fields

abbrev pub words : Codec
words = fixed word_fields

-- The drawing of these bytes, or the number and offset of the refusal.
pub data Reading : Type 0 where
  drawing : Drawing → Reading
  refusal : (number offset : ℕ) → Reading

-- Of bytes, this many in all: what is left from a place on tells its offset. Bytes behind the outer group are 13.
abbrev pub reading : ℕ → Outcome Drawing → Reading
reading total (found d []) = drawing d
reading total (found d (b ∷ rest)) = refusal trailing_bytes (total - length (b ∷ rest))
reading total (refused n at) = refusal n (total - length at)

abbrev pub drawing_of : List ℕ → Reading
drawing_of bs = cond (ltb length_limit (length bs)) (refusal too_long length_limit) (reading (length bs) (parse bytes file bs))
