-- Ways of writing: the units (bytes, words) that spell a field, and those that spell a run of fields.
use Rattle.std.specs.Prelude.{ℕ, List, [], ◌∷◌, ◌++◌}
use Rattle.format.specs.Kind.{Kind, Field}

-- A way to write: one spelling for each kind and value.
abbrev pub Spelling : Type 0
Spelling = Kind → ℕ → List ℕ

-- The units that spell a run of fields.
abbrev pub spell_all : Spelling → List Field → List ℕ
spell_all spell [] = []
spell_all spell (f ∷ fs) = spell f.kind f.value ++ spell_all spell fs
