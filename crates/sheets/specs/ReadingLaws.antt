-- The laws of reading a sheet: what is copied out of it is the drawing's table.
use Rattle.std.specs.Prelude.{◌≡◌, ℕ, ◌+◌, ◌*◌, ◌/◌, ◌^◌, ◌<◌, ◌≤◌, List, [], ◌++◌, length, drop}
use Rattle.std.proofs.Common.{sym, ap, ap₂, ◌∙◌, arith, append_assoc, append-nil, length-append, drop_at}
use Rattle.std.proofs.Math.Option.{none}
use Rattle.format.specs.Digits.{Below}
use Rattle.format.specs.Pass.{splice}
use Rattle.format.specs.Recode.{recoded}
use Rattle.drawing.specs.Limits.{length_limit}
use Rattle.drawing.specs.declared.Answer.{Answer}
use Rattle.drawing.specs.Drawing.{Drawing}
use Rattle.drawing.specs.Table.{row_width, contents_of, bodies_of}
use Rattle.drawing.specs.Sheet.{number_bytes, word_bytes, sheet_of}
use Rattle.drawing.specs.SheetDrawing.{bytes_before, sheet_length, drawing_of_sheet}
use Rattle.drawing.specs.Answers.{answer, sheet_read, sheet_refused}
use Rattle.drawing.specs.Computed.{from_table, sheet_result}
use Rattle.laws.specs.RoomLaws.{splice-first, lacks_rows, lacks_words, has_room}
use Rattle.laws.specs.SheetNumberLaws.{numbers-small, bodies_below}
use Rattle.laws.specs.SheetLaws.{rows_long, counts, counts-long, cells, cells-long, words, parted, sheet-long, drawing-of-sheet}
use Rattle.memory.specs.Runs.{Room}
use Rattle.memory.specs.PackedRunLaws.{recoded-unpacked}
use Rattle.promises.specs.Promises.{ReadsSheet}
use Rattle.promises.proofs.PromiseLaws.{reads-sheet}
use Rattle.sheets.specs.Judging.{Counted}
use Rattle.sheets.specs.Copying.{Copies}

two : 0 < number_bytes
two = omega arith

module _ {S : List ℕ} {n k : ℕ} (counted : Counted S n k) where
  abbrev d : Drawing
  d = counted.drawing

  -- The sheet's length, and how small all of it is.
  pub long : length S ≡ sheet_length number_bytes n k
  long =
      ap length counted.is-sheet.bytes_are
      ∙ sheet-long number_bytes two d
      ∙ ap₂ (sheet_length number_bytes) (sym counted.rows_are) (sym counted.words_are)

  pub small : (n ≤ length_limit) × (k ≤ length_limit)
  small =
      let few = numbers-small d counted.is-sheet.acceptable in
      (omega (arith, few.0, counted.rows_are), omega (arith, few.1.0, counted.words_are))

  pub contents-room : (room : ℕ) → 4 * n ≤ room → Room S 4 2 1 (4 * n) 0 room
  contents-room room enough = record { inside = omega (arith, long); fits = λ some. omega arith }

  pub bodies-room : (room : ℕ) → k ≤ room → {before : ℕ} → before ≡ bytes_before number_bytes n → Room S before 4 1 k 0 room
  bodies-room room enough is = record { inside = omega (arith, long, is); fits = λ some. omega arith }

  contents_out : recoded 256 number_bytes (2 ^ 32) 1 (row_width * n) (drop (2 * number_bytes) S) ≡ contents_of d
  contents_out =
      let C = contents_of d in
      let many : row_width * n ≡ length C = ap (λ r. row_width * r) counted.rows_are ∙ sym (rows_long number_bytes two d) in
      ap₂ (recoded 256 number_bytes (2 ^ 32) 1) many
      (ap (drop (2 * number_bytes)) (counted.is-sheet.bytes_are ∙ parted number_bytes two d)
      ∙ drop_at (counts number_bytes two d) (cells number_bytes two d ++ words number_bytes two d) (2 * number_bytes) (counts-long number_bytes two d))
      ∙ recoded-unpacked number_bytes (omega arith) C (words number_bytes two d) (numbers-small d counted.is-sheet.acceptable).1.1

  bodies_out : recoded 256 word_bytes (2 ^ 32) 1 k (drop (bytes_before number_bytes n) S) ≡ bodies_of d
  bodies_out =
      let B = bodies_of d in
      let front = counts number_bytes two d ++ cells number_bytes two d in
      let size : length front ≡ bytes_before number_bytes n =
      length-append (counts number_bytes two d) (cells number_bytes two d)
      ∙ ap₂ (λ a b. a + b) (counts-long number_bytes two d) (cells-long number_bytes two d)
      ∙ ap (bytes_before number_bytes) (sym counted.rows_are) in
      ap₂ (recoded 256 word_bytes (2 ^ 32) 1) counted.words_are
      (ap (drop (bytes_before number_bytes n)) (counted.is-sheet.bytes_are ∙ parted number_bytes two d ∙ sym (append_assoc (counts number_bytes two d) (cells number_bytes two d) (words number_bytes two d)))
      ∙ drop_at front (words number_bytes two d) (bytes_before number_bytes n) size
      ∙ sym (append-nil (words number_bytes two d)))
      ∙ recoded-unpacked word_bytes (omega arith) B [] (bodies_below d counted.is-sheet.acceptable)

  module _ (cs bs : List ℕ) (below : Below 256 S) where
    same_result : sheet_result S cs bs ≡ sheet_read d cs bs
    same_result = ap (from_table (λ e. sheet_read e cs bs) (sheet_refused cs bs)) ((drawing-of-sheet S below d).1 counted.is-sheet)

    total : length S ≡ length (sheet_of number_bytes d)
    total = ap length counted.is-sheet.bytes_are

    pub short-rows : {a : Answer} → length cs / 4 < n → a ≡ answer 14 (length S) n k → ReadsSheet S cs bs a cs bs
    short-rows lack is = reads-sheet below (lacks_rows d (length (sheet_of number_bytes d)) cs bs total counted.rows_are counted.words_are lack is ∙ sym same_result)

    module _ (rows_fit : n ≤ length cs / 4) where
      pub short-words : {a : Answer} → length bs < k → a ≡ answer 15 (length S) n k → ReadsSheet S cs bs a cs bs
      short-words lack is = reads-sheet below (lacks_words d (length (sheet_of number_bytes d)) cs bs total counted.rows_are counted.words_are rows_fit lack is ∙ sym same_result)

      pub all-copied : {cs' bs' : List ℕ} {a : Answer} → k ≤ length bs → a ≡ answer 0 (length S) n k → Copies S n k cs cs' bs bs' → ReadsSheet S cs bs a cs' bs'
      all-copied words-fit is copies =
          reads-sheet below
          (has_room d (length (sheet_of number_bytes d)) cs bs total counted.rows_are counted.words_are rows_fit words-fit is
          (copies.contents-are ∙ ap (λ l. splice 0 l cs) contents_out ∙ splice-first (contents_of d) cs)
          (copies.bodies-are ∙ ap (λ l. splice 0 l bs) bodies_out ∙ splice-first (bodies_of d) bs)
          ∙ sym same_result)

-- Bytes that are no sheet.
pub no_sheet_lem : (S cs bs : List ℕ) → Below 256 S → drawing_of_sheet number_bytes S ≡ none → {a : Answer} → a ≡ answer 19 0 0 0 → ReadsSheet S cs bs a cs bs
no_sheet_lem S cs bs below none_is is =
    reads-sheet below (ap (λ a. record { answer = a; contents = cs; bodies = bs }) is ∙ sym (ap (from_table (λ e. sheet_read e cs bs) (sheet_refused cs bs)) none_is))
