-- What a walk over a whole table says of the answers.
use Rattle.std.specs.Prelude.{◌≡◌, refl, ◌⊎◌, ℕ, ◌+◌, ◌*◌, ◌^◌, ◌<◌, ◌≤◌, List, ◌++◌, leb, length, drop}
use Rattle.std.proofs.Common.{sym, ap, ap₂, subst, ◌∙◌, arith, le-leb}
use Rattle.std.proofs.Math.Option.{Option, none, some}
use Rattle.std.proofs.lemmas.Bool.{lt-leb}
use Rattle.format.specs.Digits.{Below}
use Rattle.drawing.specs.declared.Answer.{Answer}
use Rattle.drawing.specs.Limits.{length_limit}
use Rattle.drawing.specs.Fields.{unless}
use Rattle.drawing.specs.Drawing.{Drawing, file_of}
use Rattle.drawing.specs.TableDrawing.{drawing_of_table}
use Rattle.drawing.specs.Answers.{answer, rows_of, word_count, overwrite, table_refused, written}
use Rattle.drawing.specs.Computed.{check_from, write_from, write_output}
use Rattle.promises.specs.Promises.{Checks, Writes}
use Rattle.promises.proofs.PromiseLaws.{checks, writes}
use Rattle.laws.specs.CountLaws.{file-counts, table_limits}
use Rattle.laws.specs.TableLaws.{drawing-of_table}
use Rattle.laws.specs.TableFileLaws.{refused_table}
use Rattle.ways.specs.Passes.{refused}
use Rattle.rows.specs.declared.walked.Walked.{Walked}
use Rattle.walks.specs.FileWalks.{Whole, TableComes, WalksTable}

module _ (cs ws : List ℕ) (below : Below (2 ^ 32) ws) where
  pub long-refused : (4 * length_limit < length cs) ⊎ (length_limit < length ws) → {r : Answer} → r ≡ table_refused → Checks cs ws r
  long-refused long is = checks below (is ∙ sym (ap check_from (refused_table cs ws below long)))

  module _ {m m' : List ℕ} {r : Walked} (walks : WalksTable cs ws m m' r) where
    -- A walk that went on has met a drawing, and one that did not has met none.
    record Met : Type 0 where
      d : Drawing
      is : drawing_of_table cs ws ≡ some d
      whole : Whole d m m' r

    has_met : r.at < refused → Met
    has_met on = by (drawing_of_table cs ws) refl walks.comes
      where
        by : (o : Option Drawing) → drawing_of_table cs ws ≡ o → TableComes m m' r o → Met
        by none is gone = absurd (omega (arith, on, gone))
        by (some d) is whole = record { d = d; is = is; whole = whole }

    pub walk_refused : refused ≤ r.at → {a : Answer} → a ≡ table_refused → Checks cs ws a
    walk_refused gone {a} is = by (drawing_of_table cs ws) refl walks.comes
      where
        by : (o : Option Drawing) → drawing_of_table cs ws ≡ o → TableComes m m' r o → Checks cs ws a
        by none none_is lost-here = checks below (is ∙ sym (ap check_from none_is))
        by (some d) some_is whole = absurd (omega (arith, gone, whole.on))

    module _ (on : r.at < refused) where
      pub walk_small : (r.to ≤ length_limit) × (r.row ≤ length_limit) × (r.at ≤ length_limit)
      walk_small =
          let here = has_met on in
          let table = (drawing-of_table cs ws below here.d).0 here.is in
          let counts = file-counts here.d table.acceptable in
          let short = table.acceptable.short in
          (omega (arith, here.whole.to_is), omega (arith, here.whole.rows_are, counts.0), omega (arith, here.whole.words_are, counts.1))

      pub walk_checked : Checks cs ws (answer 0 r.to r.row r.at)
      walk_checked =
          let here = has_met on in
          checks below
          (ap (λ n. answer 0 n r.row r.at) here.whole.to_is
          ∙ ap₂ (λ n k. answer 0 (length (file_of here.d)) n k) here.whole.rows_are here.whole.words_are
          ∙ sym (ap check_from here.is))

  -- ---- writing

  module _ {a : Answer} (checked : Checks cs ws a) where
    record Checked : Type 0 where
      d : Drawing
      is : drawing_of_table cs ws ≡ some d
      answer-is : a ≡ answer 0 (length (file_of d)) (rows_of d) (word_count d)

    drawn : a.number ≡ 0 → Checked
    drawn zero_is = by (drawing_of_table cs ws) refl
      where
        by : (o : Option Drawing) → drawing_of_table cs ws ≡ o → Checked
        by none is = let z : ◌≡◌ {A = ℕ} 0 16 = sym zero_is ∙ ap (λ x. x.number) (checked.says ∙ ap check_from is) in absurd (omega arith)
        by (some d) is = record { d = d; is = is; answer-is = checked.says ∙ ap check_from is }

    module _ (zero_is : a.number ≡ 0) where
      pub within-limits : (length cs ≤ 4 * length_limit) × (length ws ≤ length_limit)
      within-limits = let here = drawn zero_is in table_limits cs ws here.d ((drawing-of_table cs ws below here.d).0 here.is)

      length_is : a.offset ≡ length (file_of (drawn zero_is).d)
      length_is = ap (λ x. x.offset) (drawn zero_is).answer-is

      by-room : (file : List ℕ) (n : ℕ) → unless (leb (length (file_of (drawn zero_is).d)) (length file)) 17 ≡ n → written n (file_of (drawn zero_is).d) (drawn zero_is).d file ≡ write_output cs ws file
      by-room file n is = ap (λ k. written k (file_of (drawn zero_is).d) (drawn zero_is).d file) (sym is) ∙ sym (ap (λ o. write_from o file) (drawn zero_is).is)

      pub write_short : (file : List ℕ) → length file < a.offset → Writes cs ws file (answer 17 a.offset 0 0) file
      write_short file short =
          let lacks = lt-leb (length (file_of (drawn zero_is).d)) (length file) (subst (λ n. length file < n) length_is short) in
          writes below (ap (λ n. record { answer = answer 17 n 0 0; buffer = file }) length_is ∙ by-room file 17 (ap (λ t. unless t 17) lacks))

      pub write_whole : {file file' : List ℕ} {r : Walked} → (length file < a.offset → ⊥) → WalksTable cs ws file file' r → Writes cs ws file a file'
      write_whole {file} {file'} {r} room walks =
          let here = drawn zero_is in
          let fits : length (file_of here.d) ≤ length file = subst (λ n. n ≤ length file) length_is (omega (arith, room)) in
          let whole : Whole here.d file file' r = subst (TableComes file file' r) here.is walks.comes in
          let from_zero : 0 + length (file_of here.d) ≡ length (file_of here.d) = omega arith in
          let stored : file' ≡ overwrite (file_of here.d) file = whole.written.stands (rw from_zero fits) ∙ ap (λ n. file_of here.d ++ drop n file) from_zero in
          writes below
          (ap₂ (λ x l. record { answer = x; buffer = l }) here.answer-is stored
          ∙ by-room file 0 (ap (λ t. unless t 17) (le-leb (length (file_of here.d)) (length file) fits)))
