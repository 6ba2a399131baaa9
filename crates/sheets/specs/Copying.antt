-- What copying a table out of a sheet comes to, and into one.
use Rattle.std.specs.Prelude.{◌≡◌, ℕ, ◌+◌, ◌*◌, ◌/◌, ◌%◌, ◌^◌, List, drop}
use Rattle.format.specs.Pass.{splice}
use Rattle.format.specs.Recode.{recoded}
use Rattle.drawing.specs.Table.{row_width}
use Rattle.drawing.specs.Sheet.{number_bytes, word_bytes}
use Rattle.drawing.specs.SheetDrawing.{bytes_before}

pub record Copies (sheet : List ℕ) (rows words : ℕ) (contents contents' bodies bodies' : List ℕ) : Type 0 where
  pub contents-are : contents' ≡ splice 0 (recoded 256 number_bytes (2 ^ 32) 1 (row_width * rows) (drop (2 * number_bytes) sheet)) contents
  pub bodies-are : bodies' ≡ splice 0 (recoded 256 word_bytes (2 ^ 32) 1 words (drop (bytes_before number_bytes rows) sheet)) bodies

-- A word with its bytes exchanged.
abbrev pub exchanged : ℕ → ℕ
exchanged word = word % 256 * 16777216 + word / 256 % 256 * 65536 + word / 65536 % 256 * 256 + word / 16777216
