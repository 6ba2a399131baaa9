-- A value has at most as many words in a table as bytes in a file, and at most four bytes for each word.
use Rattle.std.specs.Prelude.{◌+◌, ◌*◌, ◌/◌, ◌^◌, ◌≤◌, List, [], ◌∷◌, length}
use Rattle.std.proofs.Common.{arith, length-append}
use Rattle.format.specs.DigitsLaws.{length_digits}
use Rattle.format.specs.Kind.{Field, size}
use Rattle.format.specs.Spelling.{spell_all}
use Rattle.format.specs.FixedCodec.{spell_fixed}
use Rattle.format.specs.Format.{fields}
use Rattle.format.specs.Layout.{Layout, encode}
use Rattle.drawing.specs.Codecs.{byte_fields, word_fields}

fields_sizes : (fs : List Field) → (length (spell_all (spell_fixed word_fields) fs) ≤ length (spell_all (spell_fixed byte_fields) fs)) × (length (spell_all (spell_fixed byte_fields) fs) ≤ 4 * length (spell_all (spell_fixed word_fields) fs))
fields_sizes [] = (omega arith, omega arith)
fields_sizes (f ∷ fs) =
    let n = size f.kind.shape in
    let more = fields_sizes fs in
    let bytes = length-append (spell_fixed byte_fields f.kind f.value) (spell_all (spell_fixed byte_fields) fs) in
    let words = length-append (spell_fixed word_fields f.kind f.value) (spell_all (spell_fixed word_fields) fs) in
    let b = length_digits 256 n f.value in
    let w = length_digits (2 ^ 32) ((n + 3) / 4) f.value in
    (omega (arith, more.0, bytes, words, b, w), omega (arith, more.1, bytes, words, b, w))

module _ {A : Type 0} (L : Layout A) (a : A) where
  pub words-few : length (encode (spell_fixed word_fields) L a) ≤ length (encode (spell_fixed byte_fields) L a)
  words-few = (fields_sizes (fields L.format a)).0

  pub bytes-few : length (encode (spell_fixed byte_fields) L a) ≤ 4 * length (encode (spell_fixed word_fields) L a)
  bytes-few = (fields_sizes (fields L.format a)).1
