-- Sheets, of the calls: a sheet that is read and written again, a table that is written as a sheet and read again, and demand 3 of what a sheet holds.
use Rattle.std.specs.Prelude.{◌≡◌, ℕ, ◌*◌, ◌/◌, ◌≤◌, List, length, take}
use Rattle.drawing.specs.declared.Answer.{Answer}
use Rattle.drawing.specs.String.{String}
use Rattle.drawing.specs.Drawing.{Drawing}
use Rattle.drawing.specs.Table.{row_width, contents_of}
use Rattle.drawing.specs.Sheet.{IsSheet}
use Rattle.drawing.specs.Order.{entries}
use Rattle.drawing.specs.Answers.{rows_of, word_count, overwrite}
use Rattle.promises.specs.Promises.{WritesSheet, ReadsSheet, Listed, Lists}
use Rattle.round_trip.specs.declared.Both.{Both}

-- A sheet that is read and written again. It is written only if it was accepted; otherwise the second answer is the first.
pub record SheetComesBack (sheet contents bodies copy contents' bodies' copy' : List ℕ) (r : Both) : Type 0 where
  pub reads : ReadsSheet sheet contents bodies r.first contents' bodies'
  pub writes : r.first.number ≡ 0 → WritesSheet (take (row_width * r.first.rows) contents') (take r.first.words bodies') copy r.second copy'
  pub refused : (r.first.number ≡ 0 → ⊥) → (r.second ≡ r.first) × (copy' ≡ copy)
  -- an accepted sheet comes back byte for byte, given room, and nothing past it changes
  pub back : r.first.number ≡ 0 → length sheet ≤ length copy → (r.second ≡ r.first) × (copy' ≡ overwrite sheet copy)

-- A table that is written as a sheet and read again. It is read only if it was written; otherwise the second answer is the first.
pub record TableComesBackBySheet (contents bodies sheet contents₂ bodies₂ sheet' contents₂' bodies₂' : List ℕ) (r : Both) : Type 0 where
  pub writes : WritesSheet contents bodies sheet r.first sheet'
  pub reads : r.first.number ≡ 0 → ReadsSheet (take r.first.offset sheet') contents₂ bodies₂ r.second contents₂' bodies₂'
  pub refused : (r.first.number ≡ 0 → ⊥) → (r.second ≡ r.first) × (contents₂' ≡ contents₂) × (bodies₂' ≡ bodies₂)
  -- a table that was written reads back to itself, given room, and nothing past it changes
  pub back : r.first.number ≡ 0 → length contents ≤ length contents₂ → length bodies ≤ length bodies₂
      → (r.second ≡ r.first) × (contents₂' ≡ overwrite contents contents₂) × (bodies₂' ≡ overwrite bodies bodies₂)

-- A sheet that is read, and its table listed. It is listed only if it was accepted; otherwise the second answer is the first.
pub record ListsSheet (sheet contents bodies : List ℕ) (label : String) (list contents' bodies' list' : List ℕ) (r : Both) : Type 0 where
  pub reads : ReadsSheet sheet contents bodies r.first contents' bodies'
  pub lists : r.first.number ≡ 0 → Lists (take (row_width * r.first.rows) contents') (take r.first.words bodies') label list r.second list'
  pub refused : (r.first.number ≡ 0 → ⊥) → (r.second ≡ r.first) × (list' ≡ list)
  -- demand 3 of a drawing's sheet, with room for its table and a list with room enough
  pub demands : (d : Drawing) → IsSheet sheet d → rows_of d ≤ length contents / row_width → word_count d ≤ length bodies → length (entries label d) ≤ length list
      → (r.first.number ≡ 0) × (r.second.number ≡ 0) × (r.second.rows ≤ length list) × Listed (contents_of d) label d (take r.second.rows list')
