-- The verdict on bytes: what the reader answers for them with room enough (R-6).
use Rattle.std.specs.Prelude.{ℕ, ◌-◌, List, [], ◌∷◌, length}
use Rattle.format.specs.Codec.{Outcome, found, refused}
use Rattle.drawing.specs.declared.Answer.{Answer}
use Rattle.drawing.specs.Numbers.{accepted, trailing_bytes}
use Rattle.drawing.specs.Reading.{Reading, drawing, refusal, drawing_of}
use Rattle.drawing.specs.Answers.{answer, rows_of, word_count}

abbrev pub verdict_from : Reading → ℕ → Answer
verdict_from (drawing d) total = answer accepted total (rows_of d) (word_count d)
verdict_from (refusal n o) total = answer n o 0 0

abbrev pub verdict_of : List ℕ → Answer
verdict_of bs = verdict_from (drawing_of bs) (length bs)

-- The same, of so many bytes in all, by the rows and words that what is left of them comes to. The fields have a word for each id, and four for the head,
-- that a table does without.
abbrev pub comes : ℕ → Outcome (ℕ × ℕ) → Answer
comes total (found t []) = answer accepted total t.0 (t.1 - t.0 - 4)
comes total (found t (b ∷ rest)) = answer trailing_bytes (total - length (b ∷ rest)) 0 0
comes total (refused n place) = answer n (total - length place) 0 0
