-- What each call promises, for every input: its answer, and what the lent memory then holds (01, 'Numbers given back', 'What each contract owes').
--
-- Each promise says it of the drawing, and then once more by an equation, `says`, with a definition that computes the answer (Computed.antt in
-- crates/drawing). The first decide everything; only these have to be believed, with the definitions that they name: IsFile, Refused, IsTable, IsSheet, the answers
-- for a drawing (Answers.antt), the order of objects (Order.antt) and the questions (Questions.antt, Extent.antt). A run that is lent by `&` cannot change, so
-- the promises speak of runs that are lent by `&mut`.
use Rattle.std.specs.Prelude.{◌≡◌, ◌⊎◌, ◌↔◌, ℕ, ◌<◌, ◌≤◌, length, take, get_or}
use Rattle.std.proofs.Math.Option.{some}
use mathlib.Core.List.{List, [], Memᴰ, Pairwise}
use Rattle.std.proofs.Math.ListN.{get_elem?}
use Rattle.drawing.specs.declared.Answer.{Answer}
use Rattle.drawing.specs.declared.PaintAnswer.{PaintAnswer}
use Rattle.drawing.specs.declared.PaintAnswer.TheVariants as Paint
use Rattle.drawing.specs.declared.Which.{Which}
use Rattle.drawing.specs.declared.TextAnswer.{TextAnswer}
use Rattle.drawing.specs.declared.DescriptionAnswer.{DescriptionAnswer}
use Rattle.drawing.specs.declared.ExtentAnswer.{ExtentAnswer}
use Rattle.drawing.specs.Numbers.{bad_flag}
use Rattle.drawing.specs.String.{String}
use Rattle.drawing.specs.Text.{Text}
use Rattle.drawing.specs.Object.{Object}
use Rattle.drawing.specs.Drawing.{Drawing, IsFile}
use Rattle.drawing.specs.Refusal.{Refused}
use Rattle.drawing.specs.Table.{IsTable}
use Rattle.drawing.specs.Sheet.{IsSheet}
use Rattle.drawing.specs.Order.{objects_of, description_of, entries, groups_around, ParentChain}
use Rattle.drawing.specs.Answers.{ReadResult, file_read, unread, table_refused, table_checked, Output, nothing_stored, table_written, sheet_written, sheet_read, sheet_refused, table_listed}
use Rattle.drawing.specs.Questions.{refusal, part_of, paint_part, paint_asked, paint_given, paint_of, text_asked, no_text, text_given, leaf_part, wording, alternative_of, description_asked, no_description, CharsAt}
use Rattle.drawing.specs.Extent.{extent_asked, no_extent, extent_given}
use Rattle.drawing.specs.Computed.{read_result, check_answer, write_output, sheet_output, sheet_result, list_output, paint_answer, text_answer, description_answer, extent_answer}

-- ---- read

-- What reading comes to, the answer and both runs.
abbrev pub read_to : Answer → (contents bodies : List ℕ) → ReadResult
read_to r contents bodies = record { answer = r; contents = contents; bodies = bodies }

pub record Reads (file contents bodies : List ℕ) (r : Answer) (contents' bodies' : List ℕ) : Type 0 where
  -- the bytes are a file of an acceptable drawing: they spell it, a true flag by any byte but 0
  pub accepts : (d : Drawing) → IsFile file d → read_to r contents' bodies' ≡ file_read d contents bodies
  -- the bytes are refused, with this number at this offset
  pub refuses : (number offset : ℕ) → Refused file number offset → read_to r contents' bodies' ≡ unread number offset contents bodies
  -- every run of bytes is one or the other
  pub one-or-other : ((d : Drawing) × IsFile file d) ⊎ ((number : ℕ) × (offset : ℕ) × Refused file number offset)
  -- no flag is refused for its byte (R-4)
  pub never-five : r.number ≡ bad_flag → ⊥
  pub says : read_to r contents' bodies' ≡ read_result file contents bodies

-- ---- calls that take what one drawing has: its table, or its sheet

-- What such a call comes to: `of d` where it is d's, `bad` where no drawing has it.
pub record ByDrawing {R : Type 0} (Is : Drawing → Type 0) (of : Drawing → R) (bad : R) (result : R) : Type 0 where
  pub one : (d : Drawing) → Is d → result ≡ of d
  pub none : ((d : Drawing) → Is d → ⊥) → result ≡ bad
  -- some drawing has it, or none has
  pub one-or-other : ((d : Drawing) × Is d) ⊎ ((d : Drawing) → Is d → ⊥)

-- The same as a type of its own, which a search for a proof does not look into.
pub data Decided {R : Type 0} (Is : Drawing → Type 0) (of : Drawing → R) (bad result : R) : Type 0 where
  by-drawing : ByDrawing Is of bad result → Decided Is of bad result

abbrev pub OfTable : {R : Type 0} (contents bodies : List ℕ) (of : Drawing → R) (bad result : R) → Type 0
OfTable contents bodies of bad result = Decided (IsTable contents bodies) of bad result

abbrev pub OfSheet : {R : Type 0} (sheet : List ℕ) (of : Drawing → R) (bad result : R) → Type 0
OfSheet sheet of bad result = Decided (IsSheet sheet) of bad result

-- ---- check

pub record Checks (contents bodies : List ℕ) (r : Answer) : Type 0 where
  pub decides : OfTable contents bodies table_checked table_refused r
  pub says : r ≡ check_answer contents bodies

-- ---- write

-- An answer, and what the run that was lent for output then holds.
abbrev pub output_to : Answer → List ℕ → Output
output_to r buffer = record { answer = r; buffer = buffer }

pub record Writes (contents bodies file : List ℕ) (r : Answer) (file' : List ℕ) : Type 0 where
  pub decides : OfTable contents bodies (table_written file) (nothing_stored file) (output_to r file')
  pub says : output_to r file' ≡ write_output contents bodies file

-- ---- sheets

pub record WritesSheet (contents bodies sheet : List ℕ) (r : Answer) (sheet' : List ℕ) : Type 0 where
  pub decides : OfTable contents bodies (sheet_written sheet) (nothing_stored sheet) (output_to r sheet')
  pub says : output_to r sheet' ≡ sheet_output contents bodies sheet

pub record ReadsSheet (sheet contents bodies : List ℕ) (r : Answer) (contents' bodies' : List ℕ) : Type 0 where
  pub decides : OfSheet sheet (λ d. sheet_read d contents bodies) (sheet_refused contents bodies) (read_to r contents' bodies')
  pub says : read_to r contents' bodies' ≡ sheet_result sheet contents bodies

-- ---- list

-- The objects of a drawing with this description, as their row numbers.
pub record Listed (contents : List ℕ) (label : String) (d : Drawing) (listed : List ℕ) : Type 0 where
  -- exactly these objects, at any depth
  pub exactly : (row : ℕ) → Memᴰ row listed ↔ ((o : Object) × (get_elem? (objects_of d) row ≡ some o) × (description_of o ≡ label))
  -- each once, in the order in which the objects open
  pub in_order : Pairwise ◌<◌ listed
  -- parent numbers lead from an entry through the groups around its object, from the innermost to the outer one
  pub leads : (row : ℕ) → Memᴰ row listed → ParentChain contents row (get_or (groups_around d) row [])

-- Demand 3: for every table that demand 2 allows and a list with room enough the number is 0, and what is listed, as many as the row count, are the objects
-- with that description.
pub data Demanded (contents bodies : List ℕ) (label : String) (list : List ℕ) (r : Answer) (list' : List ℕ) : Type 0 where
  demand3 :
      ((d : Drawing) → IsTable contents bodies d → length (entries label d) ≤ length list
      → (r.number ≡ 0) × (r.rows ≤ length list) × Listed contents label d (take r.rows list'))
      → Demanded contents bodies label list r list'

pub record Lists (contents bodies : List ℕ) (label : String) (list : List ℕ) (r : Answer) (list' : List ℕ) : Type 0 where
  pub decides : OfTable contents bodies (table_listed label list) (nothing_stored list) (output_to r list')
  pub demands : Demanded contents bodies label list r list'
  pub says : output_to r list' ≡ list_output contents bodies label list

-- ---- paint

pub record Paints (contents bodies : List ℕ) (row : ℕ) (which : Which) (r : PaintAnswer) : Type 0 where
  pub decides : OfTable contents bodies (paint_asked which row) (Paint.Refused 16) r
  -- what the case of the answer stands for is what 01 asks of the drawing's paint
  pub gives : OfTable contents bodies (λ d. paint_of (part_of (paint_part which) row d)) (paint_of (refusal 16)) (paint_given r)
  pub says : r ≡ paint_answer contents bodies row which

-- ---- text

pub record Texts (contents bodies : List ℕ) (row : ℕ) (r : TextAnswer) : Type 0 where
  pub decides : OfTable contents bodies (text_asked row) (no_text 16) (text_given r)
  -- the places lie within the bodies and hold the chars of the row's text
  pub places : (d : Drawing) (o : Object) (t : Text) → IsTable contents bodies d → get_elem? (objects_of d) row ≡ some o → leaf_part wording o ≡ some t
      → CharsAt bodies r.alternative (alternative_of t.style.latex) × CharsAt bodies r.text t.text
  pub says : r ≡ text_answer contents bodies row

-- ---- description

pub record Descriptions (contents bodies : List ℕ) (row : ℕ) (r : DescriptionAnswer) : Type 0 where
  pub decides : OfTable contents bodies (description_asked row) (no_description 16) r
  -- the place lies within the bodies and holds the chars of the object's description
  pub place : (d : Drawing) (o : Object) → IsTable contents bodies d → get_elem? (objects_of d) row ≡ some o → CharsAt bodies r.chars (description_of o)
  pub says : r ≡ description_answer contents bodies row

-- ---- extent

pub record Extents (contents bodies : List ℕ) (row : ℕ) (r : ExtentAnswer) : Type 0 where
  pub decides : OfTable contents bodies (extent_asked row) (no_extent 16) (extent_given r)
  pub says : r ≡ extent_answer contents bodies row
