-- What each call answers for a drawing, and what the lent memory then holds (01, 'Numbers given back'). Promises.antt says when.
use Rattle.std.specs.Prelude.{ℕ, zero, suc, ◌/◌, List, ◌++◌, length, drop, leb}
use Rattle.drawing.specs.Numbers.{accepted, contents_too_short, bodies_too_short, no_table, output_too_short, list_too_short, no_sheet}
use Rattle.drawing.specs.declared.Answer.{Answer}
use Rattle.drawing.specs.Fields.{unless, or_else}
use Rattle.drawing.specs.String.{String}
use Rattle.drawing.specs.Drawing.{Drawing, outer, file_of}
use Rattle.drawing.specs.Table.{rows, row_width, contents_of, bodies_of}
use Rattle.drawing.specs.Order.{entries}
use Rattle.drawing.specs.Sheet.{number_bytes, sheet_of}

abbrev pub answer : (number offset rows words : ℕ) → Answer
answer n o r w = record { number = n; offset = o; rows = r; words = w }

abbrev pub rows_of : Drawing → ℕ
rows_of d = rows (outer d)

abbrev pub word_count : Drawing → ℕ
word_count d = length (bodies_of d)

-- Lent memory with these elements at its beginning; what lies past them is as before.
abbrev pub overwrite : List ℕ → List ℕ → List ℕ
overwrite new buffer = new ++ drop (length new) buffer

-- ---- reading a file into a table

pub record ReadResult : Type 0 where
  pub answer : Answer
  pub contents : List ℕ
  pub bodies : List ℕ

-- Bytes that are refused: nothing is stored.
abbrev pub unread : (number offset : ℕ) → (contents bodies : List ℕ) → ReadResult
unread n o contents bodies = record { answer = answer n o 0 0; contents = contents; bodies = bodies }

-- What the lent room lacks for a drawing's table, 0 for nothing: rows, of four words each, and then words.
abbrev pub room_fault : Drawing → (contents bodies : List ℕ) → ℕ
room_fault d contents bodies =
    or_else (unless (leb (rows_of d) (length contents / row_width)) contents_too_short) (unless (leb (word_count d) (length bodies)) bodies_too_short)

-- A drawing, of bytes of this length, that is stored unless the room has a fault.
abbrev pub stored : (fault : ℕ) → Drawing → ℕ → (contents bodies : List ℕ) → ReadResult
stored zero d total contents bodies =
    record { answer = answer accepted total (rows_of d) (word_count d); contents = overwrite (contents_of d) contents; bodies = overwrite (bodies_of d) bodies }
stored (suc n) d total contents bodies =
    record { answer = answer (suc n) total (rows_of d) (word_count d); contents = contents; bodies = bodies }

abbrev pub file_read : Drawing → (contents bodies : List ℕ) → ReadResult
file_read d contents bodies = stored (room_fault d contents bodies) d (length (file_of d)) contents bodies

-- ---- checking a table

abbrev pub table_refused : Answer
table_refused = answer no_table 0 0 0

abbrev pub table_checked : Drawing → Answer
table_checked d = answer accepted (length (file_of d)) (rows_of d) (word_count d)

-- ---- writing a table's file

-- An answer, with what a run that was lent for output then holds.
pub record Output : Type 0 where
  pub answer : Answer
  pub buffer : List ℕ

-- No table, and nothing is stored.
abbrev pub nothing_stored : (buffer : List ℕ) → Output
nothing_stored buffer = record { answer = table_refused; buffer = buffer }

-- These bytes of a drawing, stored unless the room has a fault.
abbrev pub written : (fault : ℕ) → (bytes : List ℕ) → Drawing → (buffer : List ℕ) → Output
written zero bytes d buffer =
    record { answer = answer accepted (length bytes) (rows_of d) (word_count d); buffer = overwrite bytes buffer }
written (suc n) bytes d buffer = record { answer = answer (suc n) (length bytes) 0 0; buffer = buffer }

abbrev pub bytes_written : (bytes : List ℕ) → Drawing → (buffer : List ℕ) → Output
bytes_written bytes d buffer = written (unless (leb (length bytes) (length buffer)) output_too_short) bytes d buffer

abbrev pub table_written : (file : List ℕ) → Drawing → Output
table_written file d = bytes_written (file_of d) d file

-- ---- writing a table's sheet, and reading one into a table

abbrev pub sheet_written : (sheet : List ℕ) → Drawing → Output
sheet_written sheet d = bytes_written (sheet_of number_bytes d) d sheet

abbrev pub sheet_read : Drawing → (contents bodies : List ℕ) → ReadResult
sheet_read d contents bodies = stored (room_fault d contents bodies) d (length (sheet_of number_bytes d)) contents bodies

-- Bytes that are no sheet: nothing is stored.
abbrev pub sheet_refused : (contents bodies : List ℕ) → ReadResult
sheet_refused contents bodies = unread no_sheet 0 contents bodies

-- ---- listing the objects with a label

abbrev pub listed : (fault : ℕ) → (entries list : List ℕ) → Output
listed zero entries list = record { answer = answer accepted 0 (length entries) 0; buffer = overwrite entries list }
listed (suc n) entries list = record { answer = answer (suc n) (length entries) 0 0; buffer = list }

abbrev pub table_listed : String → (list : List ℕ) → Drawing → Output
table_listed label list d = listed (unless (leb (length (entries label d)) (length list)) list_too_short) (entries label d) list
