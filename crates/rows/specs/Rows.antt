-- The words of a row in the contents of a table.
use Rattle.std.specs.Prelude.{ℕ, ◌*◌, List, take, drop}
use Rattle.drawing.specs.Table.{row_width}

abbrev pub row_at : (contents : List ℕ) → ℕ → List ℕ
row_at cs n = take row_width (drop (row_width * n) cs)
