-- What programs over `read` rely on, that no index goes astray. It follows from what the call promises (`WithinLaws`).
use Rattle.std.specs.Prelude.{ℕ, ◌*◌, ◌≤◌}
use Rattle.drawing.specs.declared.Answer.{Answer}

-- A table of these counts has a row and a word at least, and lies within rooms of so many words.
pub record Within (answer : Answer) (contents-room bodies-room : ℕ) : Type 0 where
  pub some-row : 1 ≤ answer.rows
  pub some_word : 1 ≤ answer.words
  pub rows_fit : 4 * answer.rows ≤ contents-room
  pub words-fit : answer.words ≤ bodies-room
