-- What counting a table comes to.
use Rattle.std.specs.Prelude.{Option, Some, None}
use Rattle.drawing.specs.declared.Answer.{Answer}
use Rattle.drawing.specs.Answers.{answer, table_refused}
use Rattle.table.specs.declared.counts.Counts.{Counts}

-- The answer of the check: the counts with 0, or 16 where there are none.
abbrev pub counts_answer : Option Counts → Answer
counts_answer None = table_refused
counts_answer (Some n) = answer 0 n.length n.rows n.words
