-- The laws of judging a sheet, one for each way through it.
use Rattle.std.specs.Prelude.{◌≡◌, refl, Bool, true, false, cond, ℕ, ◌+◌, ◌-◌, ◌*◌, ◌≤◌, List, ltb, length, take, drop}
use Rattle.std.proofs.Common.{sym, ap, subst₂, ◌∙◌, true≢false, arith, length-drop, take_all, length-take-le, eq-eqb, ne_eqb, lt-ltb, le-ltb}
use Rattle.std.proofs.Math.Option.{Option, none, some}
use Rattle.format.specs.Digits.{Below}
use Rattle.format.specs.Packed.{unpacked}
use Rattle.format.specs.PackedLaws.{length-unpacked}
use Rattle.drawing.specs.Limits.{length_limit}
use Rattle.drawing.specs.Drawing.{Drawing}
use Rattle.drawing.specs.Table.{row_width}
use Rattle.drawing.specs.TableDrawing.{drawing_of_table}
use Rattle.drawing.specs.Sheet.{number_bytes, word_bytes, IsSheet}
use Rattle.drawing.specs.SheetDrawing.{row_count, words_count, bytes_before, sheet_length, contents_in, bodies_in, drawing_of_sheet}
use Rattle.laws.specs.SheetNumberLaws.{numbers-small, bodies_below}
use Rattle.laws.specs.SheetLaws.{row_count_lem, words_count_lem, drawing-of-sheet}
use Rattle.ways.specs.Passes.{refused}
use Rattle.rows.specs.declared.walked.Walked.{Walked}
use Rattle.walks.specs.FileWalks.{TableComes, WalksTable}
use Rattle.sheets.specs.Judging.{Tells, HoldsTable, Counted}

-- A walk goes on exactly where there is a drawing.
pub walk_tells : {cs ws m m' : List ℕ} {r : Walked} → WalksTable cs ws m m' r → Tells (drawing_of_table cs ws) (ltb r.at refused)
walk_tells {cs} {ws} {m} {m'} {r} walks = by (drawing_of_table cs ws) refl walks.comes
  where
    by : (o : Option Drawing) → drawing_of_table cs ws ≡ o → TableComes m m' r o → Tells (drawing_of_table cs ws) (ltb r.at refused)
    by none is gone = record { yes = λ e. absurd (true≢false (sym e ∙ le-ltb r.at refused gone)); no = λ e. is }
    by (some d) is whole = record { yes = λ e. (d, is); no = λ e. absurd (true≢false (sym (lt-ltb r.at refused whole.on) ∙ e)) }

module _ (S : List ℕ) where
  -- Bytes of another length than their counts tell.
  pub other_length : (length S ≡ sheet_length number_bytes (row_count number_bytes S) (words_count number_bytes S) → ⊥) → drawing_of_sheet number_bytes S ≡ none
  other_length other =
      ap (λ t. cond t (drawing_of_table (contents_in number_bytes S (row_count number_bytes S)) (bodies_in number_bytes S (row_count number_bytes S))) none)
      (ne_eqb (length S) (sheet_length number_bytes (row_count number_bytes S) (words_count number_bytes S)) other)

  module _ (long : length S ≡ sheet_length number_bytes (row_count number_bytes S) (words_count number_bytes S)) where
    in_table : drawing_of_sheet number_bytes S ≡ drawing_of_table (contents_in number_bytes S (row_count number_bytes S)) (bodies_in number_bytes S (row_count number_bytes S))
    in_table =
        ap (λ t. cond t (drawing_of_table (contents_in number_bytes S (row_count number_bytes S)) (bodies_in number_bytes S (row_count number_bytes S))) none)
        (eq-eqb (length S) (sheet_length number_bytes (row_count number_bytes S) (words_count number_bytes S)) long)

    module _ {rows : ℕ} (rows_are : rows ≡ row_count number_bytes S) {t : Bool} (told : HoldsTable S rows t) where
      pub no_table : t ≡ false → drawing_of_sheet number_bytes S ≡ none
      no_table bad =
          in_table ∙ ap (λ n. drawing_of_table (contents_in number_bytes S n) (bodies_in number_bytes S n)) (sym rows_are) ∙ told.no bad

      pub found : Below 256 S → t ≡ true → {words : ℕ} → words ≡ words_count number_bytes S → Counted S rows words
      found bytes good {words} words_are =
          let has = told.yes good in
          let d = has.0 in
          let sheet : IsSheet S d =
          (drawing-of-sheet S bytes d).0 (in_table ∙ ap (λ n. drawing_of_table (contents_in number_bytes S n) (bodies_in number_bytes S n)) (sym rows_are) ∙ has.1) in
          let small = numbers-small d sheet.acceptable in
          let below = bodies_below d sheet.acceptable in
          record {
            drawing = d;
            is-sheet = sheet;
            rows_are = rows_are ∙ ap (row_count number_bytes) sheet.bytes_are ∙ row_count_lem number_bytes (omega arith) d small below;
            words_are = words_are ∙ ap (words_count number_bytes) sheet.bytes_are ∙ words_count_lem number_bytes (omega arith) d small below;
          }

-- The two parts of a sheet that are walked, as the code cuts them out.
module _ (S : List ℕ) (rows : ℕ) {before : ℕ} (is : before ≡ bytes_before number_bytes rows) (inside : before ≤ length S) where
  abbrev contents_part : List ℕ
  contents_part = take (before - 4) (drop 4 S)

  abbrev bodies_part : List ℕ
  bodies_part = take (length S - before) (drop before S)

  pub part_lengths : rows ≤ length_limit → length S ≤ before + word_bytes * length_limit
      → (length (unpacked number_bytes contents_part) ≤ row_width * length_limit) × (length (unpacked word_bytes bodies_part) ≤ length_limit)
  part_lengths few short =
      let first = length-unpacked number_bytes contents_part in
      let second = length-unpacked word_bytes bodies_part in
      let cut = length-take-le (before - 4) (drop 4 S) (rw length-drop (omega arith)) in
      let left = length-take-le (length S - before) (drop before S) (rw length-drop (omega arith)) in
      (omega arith, omega arith)

  pub part_tells : {m m' : List ℕ} {r : Walked} → WalksTable (unpacked number_bytes contents_part) (unpacked word_bytes bodies_part) m m' r → HoldsTable S rows (ltb r.at refused)
  part_tells {r = r} walks =
      let size : before - 4 ≡ number_bytes * (row_width * rows) = omega arith in
      let contents-are : unpacked number_bytes contents_part ≡ contents_in number_bytes S rows = ap (λ n. unpacked number_bytes (take n (drop 4 S))) size in
      let all : length (drop before S) ≤ length S - before = rw length-drop (omega arith) in
      let bodies-are : unpacked word_bytes bodies_part ≡ bodies_in number_bytes S rows = ap (unpacked word_bytes) (take_all (length S - before) (drop before S) all ∙ ap (λ n. drop n S) is) in
      subst₂ (λ cs ws. Tells (drawing_of_table cs ws) (ltb r.at refused)) contents-are bodies-are (walk_tells walks)
