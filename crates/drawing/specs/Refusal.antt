-- When bytes are refused, with which number and offset, said without reading them (01, 'Numbers given back').
use Rattle.std.specs.Prelude.{◌≡◌, ◌⊎◌, ℕ, ◌<◌, ◌≤◌, List, ◌++◌, length}
use Rattle.format.specs.Kind.{Kind, Field}
use Rattle.format.specs.FixedCodec.{SpelledBy, Cut, Faulty}
use Rattle.drawing.specs.Numbers.{too_long, trailing_bytes}
use Rattle.drawing.specs.Codecs.{byte_fields}
use Rattle.format.specs.Script.{Script, end, Asks}
use Rattle.format.specs.Format.{fields, script}
use Rattle.drawing.specs.Limits.{length_limit}
use Rattle.drawing.specs.Drawing.{Drawing, file}

-- The file's layout as a process that asks for one field after another.
abbrev pub file_script : Script Drawing
file_script = script file.format (λ d. end d)

pub record TooLong (bs : List ℕ) (number offset : ℕ) : Type 0 where
  pub long : length_limit < length bs
  pub number_is : number ≡ too_long
  pub offset-is : offset ≡ length_limit

-- The bytes spell some fields, each allowed where the layout asks for it, and then stands the field at fault: cut, or with that fault.
pub record AtField (bs : List ℕ) (number offset : ℕ) : Type 0 where
  pub short : length bs ≤ length_limit
  pub fields : List Field
  pub kind : Kind
  pub front : List ℕ
  pub back : List ℕ
  pub asks : Asks file_script fields kind
  pub split : bs ≡ front ++ back
  pub spelled : SpelledBy byte_fields fields front
  pub offset-is : offset ≡ length front
  pub at-fault : Cut byte_fields kind back number ⊎ Faulty byte_fields kind back number

-- A whole drawing, and bytes behind it.
pub record Trailing (bs : List ℕ) (number offset : ℕ) : Type 0 where
  pub short : length bs ≤ length_limit
  pub drawing : Drawing
  pub front : List ℕ
  pub rest : List ℕ
  pub good : file.Good drawing
  pub split : bs ≡ front ++ rest
  pub spelled : SpelledBy byte_fields (fields file.format drawing) front
  pub some_left : 0 < length rest
  pub number_is : number ≡ trailing_bytes
  pub offset-is : offset ≡ length front

abbrev pub Refused : List ℕ → (number offset : ℕ) → Type 0
Refused bs number offset = TooLong bs number offset ⊎ (AtField bs number offset ⊎ Trailing bs number offset)
