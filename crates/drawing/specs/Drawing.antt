-- A drawing, its layout, and its file (01, 'Head').
use Rattle.std.specs.Prelude.{◌≡◌, refl, ℕ, ◌+◌, ◌-◌, ◌≤◌, List, length, eqb}
use Prim.Native.Char.{code}
use Rattle.format.specs.FixedCodec.{spell_fixed, SpelledBy}
use Rattle.format.specs.Format.{fields}
use Rattle.drawing.specs.Codecs.{byte_fields}
use Rattle.format.specs.Layout.{Layout, field, constant, renamed, encode, ◌&◌, ◌▸◌}
use Rattle.drawing.specs.Limits.{length_limit, depth_limit}
use Rattle.drawing.specs.Fields.{magic, jdr, version_length, version_chars, version_zero, char_where}
use Rattle.drawing.specs.FieldLaws.{magic-only, version-length-only, outer-only, version-back}
use Rattle.drawing.specs.String.{String}
use Rattle.drawing.specs.Settings.{Settings, settings}
use Rattle.drawing.specs.Object.{Object, group, Objects}
use Rattle.drawing.specs.ObjectLayout.{object, group_body}

-- `version` is the minor number; the last two are the outer group's.
pub record Drawing : Type 0 where
  pub version : ℕ
  pub settings : Settings
  pub members : Objects
  pub description : String

-- the outer group, row 0
abbrev pub outer : Drawing → Object
outer d = group d.members d.description

-- The version's three chars, kept as the minor number.
abbrev pub version : Layout ℕ
version = renamed (field version_chars) (λ c. c - version_zero) (λ m. version_zero + m) version-back

-- The outer object has to be a group. It is the first level of nesting.
abbrev pub outer_group : ℕ → Layout (Objects × String)
outer_group v = constant (char_where (λ c. eqb c (code "G"))) (code "G") outer-only (group_body v (object v (depth_limit - 1)))

-- A drawing, from a layout of its version on.
abbrev pub drawing_from : Layout ℕ → Layout Drawing
drawing_from version =
    renamed
    (version ▸ λ v. settings v & outer_group v)
    (λ (version, (settings, (members, description))).
    record { version = version; settings = settings; members = members; description = description })
    (λ d. (d.version, (d.settings, (d.members, d.description))))
    (λ t good. refl)

abbrev pub file : Layout Drawing
file = constant magic jdr magic-only (constant version_length 3 version-length-only (drawing_from version))

-- The bytes of a drawing's file, as it is written: each field by its own number, a true flag by 1.
abbrev pub file_of : Drawing → List ℕ
file_of d = encode (spell_fixed byte_fields) file d

-- A drawing that an acceptable file has: every field is allowed where it stands, and the file is not too long.
pub record Acceptable (d : Drawing) : Type 0 where
  pub good : file.Good d
  pub short : length (file_of d) ≤ length_limit

-- These bytes are a file of the drawing: they spell its fields, one after another, each by one of its spellings, and nothing comes behind.
pub record IsFile (bytes : List ℕ) (d : Drawing) : Type 0 where
  pub acceptable : Acceptable d
  pub spelled : SpelledBy byte_fields (fields file.format d) bytes
