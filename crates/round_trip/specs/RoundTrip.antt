-- Demand 2, of the calls: what each pair of them promises, beside what each call promises for itself; and the text to show of a row.
use Rattle.std.specs.Prelude.{◌≡◌, ◌↔◌, ℕ, ◌*◌, ◌≤◌, List, [], length, take}
use Rattle.format.specs.Digits.{Below}
use Rattle.drawing.specs.declared.Answer.{Answer}
use Rattle.drawing.specs.String.{String}
use Rattle.drawing.specs.Text.{Text}
use Rattle.drawing.specs.Drawing.{Drawing, IsFile}
use Rattle.drawing.specs.NormalForm.{normal_form, Normal}
use Rattle.drawing.specs.Table.{row_width}
use Rattle.drawing.specs.Answers.{answer, overwrite}
use Rattle.drawing.specs.Questions.{Found, part, refusal, part_of, leaf_part, wording, shown_chars}
use Rattle.promises.specs.Promises.{Reads, OfTable, Checks, Writes}
use Rattle.round_trip.specs.declared.Both.{Both}

-- A file that is read and written again. It is written only if it was accepted; otherwise the second answer is the first.
pub record FileComesBack (file contents bodies copy contents' bodies' copy' : List ℕ) (r : Both) : Type 0 where
  pub reads : Reads file contents bodies r.first contents' bodies'
  pub writes : r.first.number ≡ 0 → Writes (take (row_width * r.first.rows) contents') (take r.first.words bodies') copy r.second copy'
  pub refused : (r.first.number ≡ 0 → ⊥) → (r.second ≡ r.first) × (copy' ≡ copy)
  -- an accepted file comes back, given room, with each true flag made 1, and nothing past it changes
  pub back : r.first.number ≡ 0 → length file ≤ length copy → (d : Drawing) → IsFile file d → (r.second ≡ r.first) × (copy' ≡ overwrite (normal_form d file) copy)
  -- byte for byte it comes back exactly when its flags are all 0 or 1
  pub same : r.first.number ≡ 0 → length file ≤ length copy → (d : Drawing) → IsFile file d → Normal d file ↔ (copy' ≡ overwrite file copy)
  -- with each true flag made 1 it reads as before
  pub again : r.first.number ≡ 0 → (d : Drawing) → IsFile file d → Reads (normal_form d file) contents bodies r.first contents' bodies'

-- A table that is written and read again. It is read only if it was written; otherwise the second answer is the first.
pub record TableComesBack (contents bodies file contents₂ bodies₂ file' contents₂' bodies₂' : List ℕ) (r : Both) : Type 0 where
  pub writes : Writes contents bodies file r.first file'
  pub reads : r.first.number ≡ 0 → Reads (take r.first.offset file') contents₂ bodies₂ r.second contents₂' bodies₂'
  pub refused : (r.first.number ≡ 0 → ⊥) → (r.second ≡ r.first) × (contents₂' ≡ contents₂) × (bodies₂' ≡ bodies₂)
  -- a table that was written reads back to itself, given room, and nothing past it changes
  pub back : r.first.number ≡ 0 → length contents ≤ length contents₂ → length bodies ≤ length bodies₂
      → (r.second ≡ r.first) × (contents₂' ≡ overwrite contents contents₂) × (bodies₂' ≡ overwrite bodies bodies₂)

-- Some file of bytes gives the table: read into just that room, whatever this held, it is accepted and leaves this table there.
pub record Given (contents bodies : List ℕ) : Type 0 where
  pub file : List ℕ
  pub of-bytes : Below 256 file
  pub rows : ℕ
  pub rows_are : row_width * rows ≡ length contents
  pub gives : (contents₂ bodies₂ : List ℕ) → length contents₂ ≡ length contents → length bodies₂ ≡ length bodies
      → Reads file contents₂ bodies₂ (answer 0 (length file) rows (length bodies)) contents bodies

-- A table is checked with 0 exactly when some file gives it.
pub record Checked (contents bodies : List ℕ) (r : Answer) : Type 0 where
  pub checks : Checks contents bodies r
  pub exactly : (r.number ≡ 0) ↔ Given contents bodies

-- ---- the text to show

-- The chars to show of a row's text. A text has a char, so none says that there is no such text.
abbrev pub chars_shown : Found Text → String
chars_shown (refusal n) = []
chars_shown (part t) = shown_chars t

-- The chars of a run are those to show of a row's text; none where there is no table, no such row, or no text.
pub record ShowsText (contents bodies : List ℕ) (row : ℕ) (chars : List ℕ) : Type 0 where
  pub decides : OfTable contents bodies (λ d. chars_shown (part_of (leaf_part wording) row d)) [] chars
