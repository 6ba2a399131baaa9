-- A table past the limits has no drawing.
use Rattle.std.specs.Prelude.{◌≡◌, ◌⊎◌, ℕ, ◌*◌, ◌-◌, ◌^◌, ◌<◌, List, length}
use Rattle.std.proofs.Common.{inl, inr, arith}
use Rattle.std.proofs.Math.Option.{none}
use Rattle.format.specs.Digits.{Below}
use Rattle.drawing.specs.Limits.{length_limit}
use Rattle.drawing.specs.Drawing.{Drawing}
use Rattle.drawing.specs.Table.{IsTable}
use Rattle.drawing.specs.TableDrawing.{drawing_of_table}
use Rattle.laws.specs.TableLaws.{no_drawing}
use Rattle.laws.specs.CountLaws.{table_limits}

-- Contents or bodies that no file within the length limit gives are no table.
pub refused_table : (c bs : List ℕ) → Below (2 ^ 32) bs → (4 * length_limit < length c) ⊎ (length_limit < length bs) → drawing_of_table c bs ≡ none
refused_table c bs below long = (no_drawing c bs below).1 (λ d t. past long d t)
  where
    past : (4 * length_limit < length c) ⊎ (length_limit < length bs) → (d : Drawing) → IsTable c bs d → ⊥
    past (inl h) d t = omega (arith, (table_limits c bs d t).0)
    past (inr h) d t = omega (arith, (table_limits c bs d t).1)
