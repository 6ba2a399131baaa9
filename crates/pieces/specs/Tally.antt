-- Scripts, run on a file's bytes, with the words of the fields that they ask for counted.
use Rattle.std.specs.Prelude.{ℕ, ◌+◌, List}
use Rattle.format.specs.Codec.{Outcome, found, refused, and_then}
use Rattle.format.specs.Script.{Script, end, ask}
use Rattle.drawing.specs.Codecs.{word_fields}
use Rattle.drawing.specs.Reading.{bytes}

-- So many words more.
abbrev pub plus : {R : Type 0} → ℕ → Outcome (R × ℕ) → Outcome (R × ℕ)
plus w (found t rest) = found (t.0, w + t.1) rest
plus w (refused n place) = refused n place

-- What a script comes to: what it ends with and the words of its fields, and the bytes behind; or the first field at which they are cut or at fault.
abbrev pub tallied : {R : Type 0} → Script R → List ℕ → Outcome (R × ℕ)
tallied (end r) us = found (r, 0) us
tallied (ask k next) us = and_then (bytes.read k us) (λ v rest. plus (word_fields.width k.shape) (tallied (next v) rest))
