-- Codecs of fixed width: a field is a run of digits in some base, as many as its shape has, the highest first.
use Rattle.std.specs.Prelude.{◌≡◌, cond, ℕ, ◌<◌, List, [], ◌∷◌, ◌++◌, length, ltb}
use Rattle.std.proofs.Math.Option.{Option, none, some}
use Rattle.format.specs.Digits.{Below, number, digits}
use Rattle.format.specs.Kind.{Shape, values, Kind, Field}
use Rattle.format.specs.Spelling.{Spelling}

pub record Fixed : Type 0 where
  pub base : ℕ
  -- how many digits a field of this shape has
  pub width : Shape → ℕ
  -- the value that a number stands for in a field of this shape, `none` where it stands for none
  pub meaning : Shape → ℕ → Option ℕ
  -- the refusals' numbers for a field that is cut, and for a number that stands for no value
  pub missing : ℕ
  pub meaningless : ℕ

-- Where a number stands for itself: it has to be one of the shape's values.
abbrev pub itself : Shape → ℕ → Option ℕ
itself s x = cond (ltb x (values s)) (some x) none

abbrev pub spell_fixed : Fixed → Spelling
spell_fixed F k v = digits F.base (F.width k.shape) v

-- A field with this value is spelled by these units: as many digits as it has, of a number that stands for the value.
pub record SpellsFixed (F : Fixed) (k : Kind) (v : ℕ) (us : List ℕ) : Type 0 where
  pub long : length us ≡ F.width k.shape
  pub below : Below F.base us
  pub means : F.meaning k.shape (number F.base us) ≡ some v

-- Fields, one after another, are spelled by these units, each by one of its spellings.
abbrev pub SpelledBy : Fixed → List Field → List ℕ → Type 0
SpelledBy F [] us = us ≡ []
SpelledBy F (f ∷ fs) us =
    (front : List ℕ) × (back : List ℕ) × (us ≡ front ++ back) × SpellsFixed F f.kind f.value front × SpelledBy F fs back

-- What is wrong with what a number stands for in a field of this kind, 0 for nothing.
abbrev pub number_fault : Fixed → Kind → Option ℕ → ℕ
number_fault F k none = F.meaningless
number_fault F k (some v) = k.fault v

-- A field that is cut: fewer units are left than it has digits.
pub record Cut (F : Fixed) (k : Kind) (us : List ℕ) (n : ℕ) : Type 0 where
  pub short : length us < F.width k.shape
  pub number_is : n ≡ F.missing

-- A field at fault: its digits are there, and something is wrong with the number that they write.
pub record Faulty (F : Fixed) (k : Kind) (us : List ℕ) (n : ℕ) : Type 0 where
  pub front : List ℕ
  pub rest : List ℕ
  pub split : us ≡ front ++ rest
  pub whole : length front ≡ F.width k.shape
  pub fault-is : number_fault F k (F.meaning k.shape (number F.base front)) ≡ n
  pub some_fault : 0 < n
