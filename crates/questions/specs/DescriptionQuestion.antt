-- How the description question is answered.
use Rattle.std.specs.Prelude.{◌≡◌, ℕ, List}
use Rattle.drawing.specs.declared.Span.{Span}
use Rattle.drawing.specs.Object.{Object}
use Rattle.drawing.specs.Table.{end_in}
use Rattle.drawing.specs.Order.{description_of}
use Rattle.drawing.specs.Questions.{part, description_place}
use Rattle.laws.specs.RowBodies.{RowBody}

-- The place of the description of a row's object, in a table of this version.
abbrev pub DescriptionStands : (contents bodies : List ℕ) → (version row : ℕ) → Span → Type 0
DescriptionStands c bs v row s = (o : Object) → RowBody c bs v row o → record { number = 0; chars = s } ≡ description_place v (end_in c row) (part (description_of o))
