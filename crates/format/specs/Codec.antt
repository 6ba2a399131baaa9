-- Codecs: how the fields of a layout are spelled in units (bytes, words), and how they are read. A value may have several spellings.
use Rattle.std.specs.Prelude.{◌≡◌, ℕ, List, [], ◌∷◌, ◌++◌}
use Rattle.format.specs.Kind.{Kind, Field, Allowed}
use Rattle.format.specs.Spelling.{Spelling}

-- What reading comes to: a value and the units behind it, or the number of a refusal and the units from the place at fault on.
pub data Outcome (A : Type 0) : Type 0 where
  found : A → List ℕ → Outcome A
  refused : ℕ → List ℕ → Outcome A

abbrev pub and_then : {A B : Type 0} → Outcome A → (A → List ℕ → Outcome B) → Outcome B
and_then (found a rest) f = f a rest
and_then (refused n at) f = refused n at

pub record Codec : Type 1 where
  -- which lists are made of this codec's units
  pub Units : List ℕ → Type 0
  -- a field of this kind with this value is spelled by these units, where those units come behind it
  pub Spells : Kind → ℕ → List ℕ → List ℕ → Type 0
  -- no field of this kind stands at the beginning of these units: it is cut or at fault, with this number, at this place
  pub Stops : Kind → List ℕ → ℕ → List ℕ → Type 0
  pub read : Kind → List ℕ → Outcome ℕ

-- What a reading says of the units that were read.
abbrev pub Explained : (C : Codec) → Kind → List ℕ → Outcome ℕ → Type 0
Explained C k us (found v rest) = (front : List ℕ) × (us ≡ front ++ rest) × C.Spells k v front rest × Allowed k v
Explained C k us (refused n at) = C.Stops k us n at

-- A codec is lawful if it reads back what is spelled, refuses what stops, and everything that it says is so.
pub record Lawful (C : Codec) : Type 0 where
  pub reads : (k : Kind) (v : ℕ) (us rest : List ℕ) → C.Spells k v us rest → Allowed k v → C.read k (us ++ rest) ≡ found v rest
  pub stops : (k : Kind) (us : List ℕ) (n : ℕ) (at : List ℕ) → C.Stops k us n at → C.read k us ≡ refused n at
  pub explains : (k : Kind) (us : List ℕ) → C.Units us → Explained C k us (C.read k us)
  pub behind : (us rest : List ℕ) → C.Units (us ++ rest) → C.Units rest

-- The codec takes this way of writing, whatever comes behind a field.
abbrev pub Writes : Codec → Spelling → Type 0
Writes C spell = (k : Kind) (v : ℕ) (rest : List ℕ) → Allowed k v → C.Spells k v (spell k v) rest

-- The codec takes no other way.
abbrev pub Strict : Codec → Spelling → Type 0
Strict C spell = (k : Kind) (v : ℕ) (us rest : List ℕ) → C.Spells k v us rest → us ≡ spell k v

-- These fields, one after another, are spelled by these units, where those units come behind them.
abbrev pub Spelled : Codec → List Field → List ℕ → List ℕ → Type 0
Spelled C [] us rest = us ≡ []
Spelled C (f ∷ fs) us rest =
    (front : List ℕ)
    × (back : List ℕ)
    × (us ≡ front ++ back)
    × C.Spells f.kind f.value front (back ++ rest)
    × Spelled C fs back rest
