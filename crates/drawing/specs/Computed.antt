-- What each call answers, computed from its input alone: by parsing a file, or by a walk over a table, or a sheet's. The calls are proved equal to these, and examples are
-- computed with them. Nobody need believe them: each call also promises what Promises.antt says of the drawing itself.
use Rattle.std.proofs.Math.Option.{Option, none, some}
use Rattle.std.specs.Prelude.{ℕ, List, length}
use Rattle.drawing.specs.Numbers.{no_table}
use Rattle.drawing.specs.declared.Answer.{Answer}
use Rattle.drawing.specs.declared.PaintAnswer.{PaintAnswer}
use Rattle.drawing.specs.declared.PaintAnswer.TheVariants.{Refused}
use Rattle.drawing.specs.declared.Which.{Which}
use Rattle.drawing.specs.declared.TextAnswer.{TextAnswer}
use Rattle.drawing.specs.declared.DescriptionAnswer.{DescriptionAnswer}
use Rattle.drawing.specs.declared.ExtentAnswer.{ExtentAnswer}
use Rattle.drawing.specs.String.{String}
use Rattle.drawing.specs.Drawing.{Drawing}
use Rattle.drawing.specs.Reading.{Reading, drawing, refusal, drawing_of}
use Rattle.drawing.specs.Table.{start_in, end_in}
use Rattle.drawing.specs.TableDrawing.{drawing_of_table}
use Rattle.drawing.specs.Sheet.{number_bytes}
use Rattle.drawing.specs.SheetDrawing.{drawing_of_sheet}
use Rattle.drawing.specs.Answers.{ReadResult, unread, room_fault, stored, table_refused, table_checked, Output, nothing_stored, table_written, sheet_written, sheet_read, sheet_refused, table_listed}
use Rattle.drawing.specs.Extent.{ExtentGiven, no_extent, extent_asked}
use Rattle.drawing.specs.Questions.{part_of, paint_asked, TextGiven, no_text, text_part, text_places, no_description, description_part, description_place}

-- What a call comes to for what has a drawing, as a table or a sheet, and for what has none.
abbrev pub from_table : {R : Type 0} → (Drawing → R) → R → Option Drawing → R
from_table of bad none = bad
from_table of bad (some d) = of d

-- ---- reading

abbrev pub read_from : Reading → ℕ → (contents bodies : List ℕ) → ReadResult
read_from (refusal n o) total contents bodies = unread n o contents bodies
read_from (drawing d) total contents bodies = stored (room_fault d contents bodies) d total contents bodies

abbrev pub read_result : (file contents bodies : List ℕ) → ReadResult
read_result file contents bodies = read_from (drawing_of file) (length file) contents bodies

-- ---- checking, writing, sheets, listing

abbrev pub check_from : Option Drawing → Answer
check_from o = from_table table_checked table_refused o

abbrev pub check_answer : (contents bodies : List ℕ) → Answer
check_answer contents bodies = check_from (drawing_of_table contents bodies)

abbrev pub write_from : Option Drawing → (file : List ℕ) → Output
write_from o file = from_table (table_written file) (nothing_stored file) o

abbrev pub write_output : (contents bodies file : List ℕ) → Output
write_output contents bodies file = write_from (drawing_of_table contents bodies) file

abbrev pub sheet_output : (contents bodies sheet : List ℕ) → Output
sheet_output contents bodies sheet = from_table (sheet_written sheet) (nothing_stored sheet) (drawing_of_table contents bodies)

abbrev pub sheet_result : (sheet contents bodies : List ℕ) → ReadResult
sheet_result sheet contents bodies =
    from_table (λ d. sheet_read d contents bodies) (sheet_refused contents bodies) (drawing_of_sheet number_bytes sheet)

abbrev pub list_from : Option Drawing → String → (list : List ℕ) → Output
list_from o label list = from_table (table_listed label list) (nothing_stored list) o

abbrev pub list_output : (contents bodies : List ℕ) → String → (list : List ℕ) → Output
list_output contents bodies label list = list_from (drawing_of_table contents bodies) label list

-- ---- questions

abbrev pub paint_answer : (contents bodies : List ℕ) → ℕ → Which → PaintAnswer
paint_answer contents bodies row which = from_table (paint_asked which row) (Refused no_table) (drawing_of_table contents bodies)

-- What is given of a box, as the public answer has it.
abbrev pub extent_value : ExtentGiven → ExtentAnswer
extent_value g = record { number = g.answer.number; extent = g.extent }

abbrev pub extent_answer : (contents bodies : List ℕ) → ℕ → ExtentAnswer
extent_answer contents bodies row = from_table (λ d. extent_value (extent_asked row d)) (extent_value (no_extent no_table)) (drawing_of_table contents bodies)

-- What is given of a text, as the public answer has it.
abbrev pub text_value : TextGiven → TextAnswer
text_value g = record { number = g.answer.number; alternative = g.alternative; text = g.text }

-- The text whose body begins where the table's row says.
abbrev pub text_in : (contents : List ℕ) → ℕ → Drawing → TextAnswer
text_in contents row d = text_value (text_places (start_in contents row) d.version (part_of (text_part d.version) row d))

abbrev pub text_answer : (contents bodies : List ℕ) → ℕ → TextAnswer
text_answer contents bodies row = from_table (text_in contents row) (text_value (no_text no_table)) (drawing_of_table contents bodies)

-- The description whose body ends where the table's row says.
abbrev pub description_in : (contents : List ℕ) → ℕ → Drawing → DescriptionAnswer
description_in contents row d = description_place d.version (end_in contents row) (part_of description_part row d)

abbrev pub description_answer : (contents bodies : List ℕ) → ℕ → DescriptionAnswer
description_answer contents bodies row = from_table (description_in contents row) (no_description no_table) (drawing_of_table contents bodies)
