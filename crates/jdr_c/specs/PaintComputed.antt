-- The paint question about the part of a number, computed from a table. Nobody need believe it: Values.antt says what is given of the drawing's paint.
use Rattle.std.proofs.Math.Option.{Option, none, some}
use Rattle.std.specs.Prelude.{List, ℕ}
use Rattle.drawing.specs.declared.PaintAnswer.{PaintAnswer}
use Rattle.drawing.specs.declared.PaintAnswer.TheVariants.{Refused}
use Rattle.drawing.specs.declared.Which.{Which}
use Rattle.drawing.specs.TableDrawing.{drawing_of_table}
use Rattle.drawing.specs.Questions.{part_of, paint_value}
use Rattle.drawing.specs.Computed.{from_table, paint_answer}

abbrev pub paint_computed : (contents bodies : List ℕ) → ℕ → Option Which → PaintAnswer
paint_computed contents bodies row (some which) = paint_answer contents bodies row which
paint_computed contents bodies row none = from_table (λ d. paint_value (part_of (λ o. none) row d)) (Refused 16) (drawing_of_table contents bodies)
