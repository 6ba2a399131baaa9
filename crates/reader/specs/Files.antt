-- What the descent over a whole file comes to, by what the file reads to.
use Rattle.std.specs.Prelude.{◌≡◌, ℕ, ◌+◌, ◌≤◌, List, length}
use Rattle.drawing.specs.Limits.{length_limit}
use Rattle.drawing.specs.Drawing.{Drawing}
use Rattle.drawing.specs.Reading.{Reading, drawing, refusal, drawing_of}
use Rattle.drawing.specs.Table.{contents_of, bodies_of}
use Rattle.drawing.specs.Answers.{rows_of, word_count}
use Rattle.ways.specs.Passes as Passes
use Rattle.ways.specs.Written.{Writes}
use Rattle.rows.specs.declared.walked.Walked.{Walked}

-- The file holds a drawing: its rows and words are counted, and where its table fits it stands in the memory.
pub record Kept (d : Drawing) (file cs bs cs' bs' : List ℕ) (r : Walked) : Type 0 where
  pub short : length file ≤ length_limit
  pub at-is : r.at ≡ length file
  pub row_is : r.row ≡ rows_of d
  pub to_is : r.to ≡ word_count d
  pub few-rows : r.row ≤ length_limit
  pub few_words : r.to ≤ length_limit
  pub rows_written : Writes 0 (contents_of d) cs cs'
  pub words-written : Writes 0 (bodies_of d) bs bs'

-- It is refused.
pub record Refused (n offset : ℕ) (r : Walked) : Type 0 where
  pub at-is : r.at ≡ offset + Passes.refused
  pub to_is : r.to ≡ n

abbrev pub ComesFile : (file cs bs cs' bs' : List ℕ) → Walked → Reading → Type 0
ComesFile file cs bs cs' bs' r (drawing d) = Kept d file cs bs cs' bs' r
ComesFile file cs bs cs' bs' r (refusal n offset) = Refused n offset r

pub record DescendsFile (file cs bs cs' bs' : List ℕ) (r : Walked) : Type 0 where
  pub comes : ComesFile file cs bs cs' bs' r (drawing_of file)
