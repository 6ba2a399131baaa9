-- Demand 2 of the calls, from what each call promises.
use Rattle.std.proofs.Math.Path.{◌≡◌, ap, subst}
use Rattle.std.specs.Prelude.{refl, ℕ, ◌*◌, ◌/◌, ◌^◌, ◌≤◌, List, ◌++◌, take, drop}
use Rattle.std.proofs.Common.{sym, ap₂, ◌∙◌, arith, append-nil, drop_of_length-le}
use Rattle.std.proofs.Math.Option.{Option, none, some}
use Rattle.std.proofs.Math.ListN.{length, length-append}
use Rattle.format.specs.Digits.{Below}
use Rattle.format.specs.Format.{fields}
use Rattle.format.specs.FixedCodecLaws.{below_spelled}
use Rattle.drawing.specs.declared.Answer.{Answer}
use Rattle.drawing.specs.Codecs.{byte_fields}
use Rattle.drawing.specs.Drawing.{Drawing, outer, file as file_layout, file_of, IsFile}
use Rattle.drawing.specs.NormalForm.{normal_form}
use Rattle.drawing.specs.Table.{head_words, contents_of, bodies_of}
use Rattle.drawing.specs.TableDrawing.{drawing_of_table}
use Rattle.drawing.specs.Answers.{answer, rows_of, word_count, overwrite, ReadResult, Output}
use Rattle.drawing.specs.Computed.{read_result, check_from, write_output}
use Rattle.promises.specs.Promises.{Reads, Checks, Writes}
use Rattle.promises.proofs.PromiseLaws.{reads}
use Rattle.laws.specs.CodecLaws.{bytes_sensible}
use Rattle.laws.specs.DrawingLaws.{own_file, file-length, file_unique}
use Rattle.laws.specs.NormalFormLaws.{normal_form_is, normal_is}
use Rattle.laws.specs.OrderLaws.{contents-length}
use Rattle.laws.specs.TableLaws.{drawing-of_table}
use Rattle.laws.specs.AnswerLaws.{take-overwrite, Accepted, read_accepts, read_gives, Writable, write_accepts, write_gives, read_then_write, read_normal, write_then_read}
use Rattle.round_trip.specs.RoundTrip.{FileComesBack, TableComesBack, Given, Checked}

-- ---- a file

module _ {file contents bodies contents' bodies' : List ℕ} {a : Answer} (read : Reads file contents bodies a contents' bodies') where
  read_is : read_result file contents bodies ≡ record { answer = a; contents = contents'; bodies = bodies' }
  read_is = sym read.says

  pub file-refused : (a.number ≡ 0 → ⊥) → {copy : List ℕ} → FileComesBack file contents bodies copy contents' bodies' copy (record { first = a; second = a })
  file-refused gone =
      record {
        reads = read;
        writes = λ on. absurd (gone on);
        refused = λ other. (refl, refl);
        back = λ on room d f. absurd (gone on);
        same = λ on room d f. absurd (gone on);
        again = λ on d f. absurd (gone on);
      }

  pub file-back : Below 256 file → a.number ≡ 0 → {copy copy' : List ℕ} {w : Answer} → Writes (take (4 * a.rows) contents') (take a.words bodies') copy w copy'
      → FileComesBack file contents bodies copy contents' bodies' copy' (record { first = a; second = w })
  file-back below on {copy} {copy'} {w} writes =
      record {
        reads = read;
        writes = λ zero_is. writes;
        refused = λ gone. absurd (gone on);
        back = λ zero_is room d f. (ap (λ o. o.answer) (both room d f), ap (λ o. o.buffer) (both room d f));
        same = λ zero_is room d f. (
          λ normal. ap (λ (o : Output). o.buffer) (both room d f) ∙ ap (λ l. overwrite l copy) ((normal_is file d).0 normal),
          λ is. (normal_is file d).1 (only d f (sym (ap (λ (o : Output). o.buffer) (both room d f)) ∙ is)),
        );
        again = λ zero_is d f. reads (bytes d f) (read.says ∙ sym (again d f));
      }
    where
      -- The drawing that was accepted is this one.
      accepted : (d : Drawing) → IsFile file d → (a : Accepted file contents bodies) × (a.drawing ≡ d)
      accepted d f =
          let ok = (read_accepts file contents bodies below).0 (ap (λ (r : ReadResult). r.answer.number) read_is ∙ on) in
          (ok, file_unique file ok.drawing d ok.is-file f)

      both : length file ≤ length copy → (d : Drawing) → IsFile file d → ◌≡◌ {A = Output} (record { answer = w; buffer = copy' }) (record { answer = a; buffer = overwrite (normal_form d file) copy })
      both room d f =
          let ok = accepted d f in
          subst (λ d. ◌≡◌ {A = Output} (record { answer = w; buffer = copy' }) (record { answer = a; buffer = overwrite (normal_form d file) copy })) ok.1
          (writes.says
          ∙ subst (λ (r : ReadResult). write_output (take (4 * r.answer.rows) r.contents) (take r.answer.words r.bodies) copy ≡ record { answer = r.answer; buffer = overwrite (normal_form ok.0.drawing file) copy }) read_is
          (read_then_write file contents bodies copy below ok.0 room))

      -- What stands at the beginning of both is the same.
      only : (d : Drawing) → IsFile file d → overwrite (normal_form d file) copy ≡ overwrite file copy → normal_form d file ≡ file
      only d f e =
          let long : length (normal_form d file) ≡ length file = ap length (normal_form_is file d f.spelled) ∙ sym (file-length f) in
          sym (take-overwrite (normal_form d file) copy (length file) long) ∙ ap (take (length file)) e ∙ take-overwrite file copy (length file) refl

      again : (d : Drawing) → IsFile file d → read_result (normal_form d file) contents bodies ≡ read_result file contents bodies
      again d f =
          let ok = accepted d f in
          subst (λ d. read_result (normal_form d file) contents bodies ≡ read_result file contents bodies) ok.1 (read_normal file contents bodies below ok.0)

      bytes : (d : Drawing) → IsFile file d → Below 256 (normal_form d file)
      bytes d f = subst (Below 256) (sym (normal_form_is file d f.spelled)) (below_spelled byte_fields bytes_sensible (fields file_layout.format d))

-- ---- a table

module _ {contents bodies file file' : List ℕ} {w : Answer} (writes : Writes contents bodies file w file') where
  write_is : write_output contents bodies file ≡ record { answer = w; buffer = file' }
  write_is = sym writes.says

  pub table_refused_lem : (w.number ≡ 0 → ⊥) → {c b : List ℕ} → TableComesBack contents bodies file c b file' c b (record { first = w; second = w })
  table_refused_lem gone = record { writes = writes; reads = λ on. absurd (gone on); refused = λ other. (refl, refl, refl); back = λ on rows words. absurd (gone on) }

  module _ (below : Below (2 ^ 32) bodies) (on : w.number ≡ 0) where
    writable : Writable contents bodies file
    writable = (write_accepts contents bodies file below).0 (ap (λ (o : Output). o.answer.number) write_is ∙ on)

    d : Drawing
    d = writable.drawing

    given : ◌≡◌ {A = Output} (record { answer = w; buffer = file' }) (record { answer = answer 0 (length (file_of d)) (rows_of d) (word_count d); buffer = overwrite (file_of d) file })
    unfolding d
    given = writes.says ∙ write_gives contents bodies file below writable

    pub length-fits : w.offset ≤ length file'
    unfolding d
    length-fits =
        let offset : w.offset ≡ length (file_of d) = ap (λ (o : Output). o.answer.offset) given in
        let long : length file' ≡ length (overwrite (file_of d) file) = ap (λ (o : Output). length o.buffer) given in
        let sum = length-append (file_of d) (drop (length (file_of d)) file) in
        omega (arith, offset, long, sum)

    pub table_back : {c b c' b' : List ℕ} {a : Answer} → Reads (take w.offset file') c b a c' b' → TableComesBack contents bodies file c b file' c' b' (record { first = w; second = a })
    unfolding d
    table_back {c} {b} {c'} {b'} {a} read =
        record {
          writes = writes;
          reads = λ zero_is. read;
          refused = λ gone. absurd (gone on);
          back = λ zero_is rows words. let r = both rows words in (ap (λ (r : ReadResult). r.answer) r, ap (λ (r : ReadResult). r.contents) r, ap (λ (r : ReadResult). r.bodies) r);
        }
      where
        both : length contents ≤ length c → length bodies ≤ length b → ◌≡◌ {A = ReadResult} (record { answer = a; contents = c'; bodies = b' }) (record { answer = w; contents = overwrite contents c; bodies = overwrite bodies b })
        both rows words =
            let rows_are : w.rows ≡ rows_of d = ap (λ (o : Output). o.answer.rows) given in
            let words_are : w.words ≡ word_count d = ap (λ (o : Output). o.answer.words) given in
            let all-rows : length contents ≡ 4 * rows_of d = ap length writable.is-table.contents-are ∙ contents-length (outer d) d.version 0 0 (length (head_words d)) in
            let all_words : length bodies ≡ word_count d = ap length writable.is-table.bodies-are in
            let rows_fit : w.rows ≤ length c / 4 = omega (arith, rows_are, all-rows, rows) in
            let words-fit : w.words ≤ length b = omega (arith, words_are, all_words, words) in
            read.says
            ∙ subst (λ (o : Output). read_result (take o.answer.offset o.buffer) c b ≡ record { answer = o.answer; contents = overwrite contents c; bodies = overwrite bodies b }) write_is
            (write_then_read contents bodies file c b below (ap (λ (o : Output). o.answer.number) write_is ∙ on)
            (subst (λ (o : Output). o.answer.rows ≤ length c / 4) (sym write_is) rows_fit)
            (subst (λ (o : Output). o.answer.words ≤ length b) (sym write_is) words-fit))

-- ---- a table that is checked

-- What fills all of a run is what the run then holds.
overwrite-all : (new buffer : List ℕ) → length buffer ≡ length new → overwrite new buffer ≡ new
overwrite-all new buffer same =
    let fits : length buffer ≤ length new = omega (arith, same) in
    ap (λ l. new ++ l) (drop_of_length-le buffer fits) ∙ append-nil new

pub table_checked_lem : {contents bodies : List ℕ} {a : Answer} → Below (2 ^ 32) bodies → Checks contents bodies a → Checked contents bodies a
table_checked_lem {contents} {bodies} {a} below checks = record { checks = checks; exactly = (there (drawing_of_table contents bodies) refl, back) }
  where
    there : (o : Option Drawing) → drawing_of_table contents bodies ≡ o → a.number ≡ 0 → Given contents bodies
    there none is on = let z : ◌≡◌ {A = ℕ} 0 16 = sym on ∙ ap (λ (x : Answer). x.number) (checks.says ∙ ap check_from is) in absurd (omega arith)
    there (some d) is on =
        let table = (drawing-of_table contents bodies below d).0 is in
        let rows : length contents ≡ 4 * rows_of d = ap length table.contents-are ∙ contents-length (outer d) d.version 0 0 (length (head_words d)) in
        let words : length bodies ≡ word_count d = ap length table.bodies-are in
        let bytes = below_spelled byte_fields bytes_sensible (fields file_layout.format d) in
        record {
          file = file_of d;
          of-bytes = bytes;
          rows = rows_of d;
          rows_are = sym rows;
          gives = λ c b same_rows same-words.
              let accepted : Accepted (file_of d) c b = record { drawing = d; is-file = own_file d table.acceptable; rows_fit = omega (arith, rows, same_rows); words-fit = omega (arith, words, same-words) } in
              let left-contents = overwrite-all (contents_of d) c (same_rows ∙ ap length table.contents-are) ∙ sym table.contents-are in
              let left-bodies = overwrite-all (bodies_of d) b (same-words ∙ ap length table.bodies-are) ∙ sym table.bodies-are in
              reads bytes
              (sym
              (read_gives (file_of d) c b bytes accepted
              ∙ ap₂ (λ x y. record { answer = answer 0 (length (file_of d)) (rows_of d) (word_count d); contents = x; bodies = y }) left-contents left-bodies
              ∙ ap (λ y. record { answer = answer 0 (length (file_of d)) (rows_of d) y; contents = contents; bodies = bodies }) (sym words)));
        }

    back : Given contents bodies → a.number ≡ 0
    back given =
        let here = sym (given.gives contents bodies refl refl).says in
        let accepted = (read_accepts given.file contents bodies given.of-bytes).0 (ap (λ (r : ReadResult). r.answer.number) here) in
        let d = accepted.drawing in
        let result = sym (read_gives given.file contents bodies given.of-bytes accepted) ∙ here in
        let words : word_count d ≡ length bodies = ap (λ (r : ReadResult). r.answer.words) result in
        let rows : rows_of d ≡ given.rows = ap (λ (r : ReadResult). r.answer.rows) result in
        let long : length contents ≡ length (contents_of d) = sym given.rows_are ∙ ap (λ n. 4 * n) (sym rows) ∙ sym (contents-length (outer d) d.version 0 0 (length (head_words d))) in
        let contents-are : contents ≡ contents_of d = sym (ap (λ (r : ReadResult). r.contents) result) ∙ overwrite-all (contents_of d) contents long in
        let bodies-are : bodies ≡ bodies_of d = sym (ap (λ (r : ReadResult). r.bodies) result) ∙ overwrite-all (bodies_of d) bodies (sym words) in
        let is = (drawing-of_table contents bodies below d).1 (record { acceptable = accepted.is-file.acceptable; contents-are = contents-are; bodies-are = bodies-are }) in
        ap (λ (x : Answer). x.number) (checks.says ∙ ap check_from is)
