-- Choices that a char or a flag of the file tells (01, 'Fields').
use Rattle.std.specs.Prelude.{ℕ, List}
use Rattle.std.proofs.Math.Option.{Option}
use Rattle.format.specs.Layout.{Layout}
use Rattle.format.specs.Alternative.{Alternative, among}
use Rattle.format.specs.Choice.{one_of, optional}
use Rattle.drawing.specs.Fields.{char_where, flag}
use Rattle.drawing.specs.FieldLaws.{char-passes, flag-zero, flag_one}

-- One of several alternatives, told by a char of those that are on.
abbrev pub by_char : {B : Type 0} (letter_of : B → ℕ) → Alternative B letter_of → List (Alternative B letter_of) → Layout B
by_char letter_of one more = one_of (char_where (among one more)) one more (char-passes (among one more))

-- A flag, and a part if it is 1.
abbrev pub if_flag : {A : Type 0} → Layout A → Layout (Option A)
if_flag f = optional flag 1 0 flag-zero f

-- A flag, and a part if it is 0.
abbrev pub unless_flag : {A : Type 0} → Layout A → Layout (Option A)
unless_flag f = optional flag 0 1 flag_one f
