-- Demand 2 on the answers: what a read accepts, a write turns back into its normal form, and what a write gives, a read turns back into the same
-- table. A call answers 0 exactly when its definition says so, and then with the drawing's own counts.
use Rattle.std.specs.Prelude.{◌≡◌, refl, ◌↔◌, Bool, true, false, ℕ, zero, suc, ◌*◌, ◌/◌, ◌^◌, ◌≤◌, List, length, take, drop, leb}
use Rattle.std.proofs.Common.{sym, ap, ap₂, ◌∙◌, subst, take_at, arith, leb-true, le-leb}
use Rattle.std.proofs.Math.Option.{Option, none, some}
use Rattle.format.specs.Digits.{Below}
use Rattle.drawing.specs.Fields.{unless, or_else}
use Rattle.drawing.specs.FieldLaws.{unless-zero, or_else_zero}
use Rattle.drawing.specs.Codecs.{byte_fields}
use Rattle.format.specs.FixedCodecLaws.{below_spelled}
use Rattle.laws.specs.CodecLaws.{bytes_sensible}
use Rattle.format.specs.Format.{fields}
use Rattle.drawing.specs.Drawing.{Drawing, outer, file as file_layout, file_of, IsFile}
use Rattle.drawing.specs.NormalForm.{normal_form}
use Rattle.drawing.specs.Reading.{Reading, drawing, refusal, drawing_of}
use Rattle.laws.specs.DrawingLaws.{own_file, file-length, drawing-of-bytes, refusal-of-bytes, refusal_positive}
use Rattle.laws.specs.NumberLaws.{refusal-numbers}
use Rattle.laws.specs.NormalFormLaws.{normal_form_is}
use Rattle.drawing.specs.Table.{IsTable, head_words, contents_of, bodies_of}
use Rattle.drawing.specs.TableDrawing.{drawing_of_table}
use Rattle.laws.specs.TableLaws.{drawing-of_table, table_complete}
use Rattle.laws.specs.OrderLaws.{contents-length}
use Rattle.drawing.specs.Answers.{answer, rows_of, word_count, overwrite, ReadResult, room_fault, stored, Output, written}
use Rattle.drawing.specs.Computed.{read_from, read_result, write_from, write_output}

-- What stands at the beginning is what was put there.
pub take-overwrite : (new buffer : List ℕ) (n : ℕ) → length new ≡ n → take n (overwrite new buffer) ≡ new
take-overwrite new buffer n e = take_at new (drop (length new) buffer) n e

-- A file was accepted, with a drawing and room for its table.
pub record Accepted (file contents bodies : List ℕ) : Type 0 where
  pub drawing : Drawing
  pub is-file : IsFile file drawing
  pub rows_fit : rows_of drawing ≤ length contents / 4
  pub words-fit : word_count drawing ≤ length bodies

pub room_fits : (d : Drawing) (contents bodies : List ℕ) → room_fault d contents bodies ≡ 0 → (rows_of d ≤ length contents / 4) × (word_count d ≤ length bodies)
room_fits d contents bodies e =
    let rows_fit = leb (rows_of d) (length contents / 4) in
    let words-fit = leb (word_count d) (length bodies) in
    let z = or_else_zero (unless rows_fit 14) (unless words-fit 15) e in
    (leb-true (rows_of d) (length contents / 4) (unless-zero rows_fit 14 tt z.0), leb-true (word_count d) (length bodies) (unless-zero words-fit 15 tt z.1))

fits-room : (d : Drawing) (contents bodies : List ℕ) → rows_of d ≤ length contents / 4 → word_count d ≤ length bodies → room_fault d contents bodies ≡ 0
fits-room d contents bodies h g =
    ap₂ (λ s t. or_else (unless s 14) (unless t 15)) (le-leb (rows_of d) (length contents / 4) h) (le-leb (word_count d) (length bodies) g)

pub stored-zero : (f : ℕ) (d : Drawing) (total : ℕ) (contents bodies : List ℕ) → (stored f d total contents bodies).answer.number ≡ 0 → f ≡ 0
stored-zero zero d total contents bodies e = refl
stored-zero (suc n) d total contents bodies e = e

-- An accepted file gives the drawing's table, with all else as before, and the drawing's counts.
pub read_gives : (file contents bodies : List ℕ) → Below 256 file → (a : Accepted file contents bodies)
    → read_result file contents bodies
    ≡ record { answer = answer 0 (length file) (rows_of a.drawing) (word_count a.drawing); contents = overwrite (contents_of a.drawing) contents; bodies = overwrite (bodies_of a.drawing) bodies }
read_gives file contents bodies b a =
    ap (λ r. read_from r (length file) contents bodies) ((drawing-of-bytes file b a.drawing).1 a.is-file)
    ∙ ap (λ f. stored f a.drawing (length file) contents bodies) (fits-room a.drawing contents bodies a.rows_fit a.words-fit)

-- The answer is 0 exactly when the file is a drawing's, and the drawing's table fits the room.
pub read_accepts : (file contents bodies : List ℕ) → Below 256 file → ((read_result file contents bodies).answer.number ≡ 0) ↔ Accepted file contents bodies
read_accepts file contents bodies b = (there (drawing_of file) refl, back)
  where
    there : (r : Reading) → drawing_of file ≡ r → (read_from r (length file) contents bodies).answer.number ≡ 0 → Accepted file contents bodies
    there (refusal n o) p e = absurd (omega (arith, refusal_positive file b n o p))
    there (drawing d) p e =
        let f = room_fits d contents bodies (stored-zero (room_fault d contents bodies) d (length file) contents bodies e) in
        record { drawing = d; is-file = (drawing-of-bytes file b d).0 p; rows_fit = f.0; words-fit = f.1 }

    back : Accepted file contents bodies → (read_result file contents bodies).answer.number ≡ 0
    back a = ap (λ r. r.answer.number) (read_gives file contents bodies b a)

-- No answer is 5: in a file a flag's byte is true or false, whatever it is.
pub read_never_five : (file contents bodies : List ℕ) → Below 256 file → (read_result file contents bodies).answer.number ≡ 5 → ⊥
read_never_five file contents bodies b = by (drawing_of file) refl
  where
    number_is : (f : ℕ) (d : Drawing) → (stored f d (length file) contents bodies).answer.number ≡ f
    number_is zero d = refl
    number_is (suc n) d = refl

    no_room : (s t : Bool) → or_else (unless s 14) (unless t 15) ≡ 5 → ⊥
    no_room true true e = omega arith
    no_room true false e = omega arith
    no_room false t e = omega arith

    by : (r : Reading) → drawing_of file ≡ r → (read_from r (length file) contents bodies).answer.number ≡ 5 → ⊥
    by (refusal n o) p e = (refusal-numbers file b n o ((refusal-of-bytes file b n o).0 p)).1 e
    by (drawing d) p e = no_room (leb (rows_of d) (length contents / 4)) (leb (word_count d) (length bodies)) (sym (number_is (room_fault d contents bodies) d) ∙ e)

-- ---- writing

-- A table was written: it is a drawing's, and the drawing's file fits the room.
pub record Writable (contents bodies file : List ℕ) : Type 0 where
  pub drawing : Drawing
  pub is-table : IsTable contents bodies drawing
  pub fits : length (file_of drawing) ≤ length file

write_drawing : (contents bodies file : List ℕ) (d : Drawing) → drawing_of_table contents bodies ≡ some d → length (file_of d) ≤ length file
    → write_output contents bodies file ≡ record { answer = answer 0 (length (file_of d)) (rows_of d) (word_count d); buffer = overwrite (file_of d) file }
write_drawing contents bodies file d e fits =
    ap (λ o. write_from o file) e ∙ ap (λ t. written (unless t 17) (file_of d) d file) (le-leb (length (file_of d)) (length file) fits)

pub write_gives : (contents bodies file : List ℕ) → Below (2 ^ 32) bodies → (w : Writable contents bodies file)
    → write_output contents bodies file
    ≡ record { answer = answer 0 (length (file_of w.drawing)) (rows_of w.drawing) (word_count w.drawing); buffer = overwrite (file_of w.drawing) file }
write_gives contents bodies file b w =
    write_drawing contents bodies file w.drawing ((drawing-of_table contents bodies b w.drawing).1 w.is-table) w.fits

pub written-zero : (f : ℕ) (bytes : List ℕ) (d : Drawing) (file : List ℕ) → (written f bytes d file).answer.number ≡ 0 → f ≡ 0
written-zero zero bytes d file e = refl
written-zero (suc n) bytes d file e = e

pub write_accepts : (contents bodies file : List ℕ) → Below (2 ^ 32) bodies → ((write_output contents bodies file).answer.number ≡ 0) ↔ Writable contents bodies file
write_accepts contents bodies file b = (there (drawing_of_table contents bodies) refl, λ w. ap (λ o. o.answer.number) (write_gives contents bodies file b w))
  where
    there : (o : Option Drawing) → drawing_of_table contents bodies ≡ o → (write_from o file).answer.number ≡ 0 → Writable contents bodies file
    there none p e = absurd (omega arith)
    there (some d) p e =
        let fit = leb (length (file_of d)) (length file) in
        record {
          drawing = d;
          is-table = (drawing-of_table contents bodies b d).0 p;
          fits = leb-true (length (file_of d)) (length file) (unless-zero fit 17 tt (written-zero (unless fit 17) (file_of d) d file e));
        }

-- ---- there and back

-- What is written of the table that a read gave.
abbrev WrittenBack : (file out : List ℕ) → ReadResult → Type 0
WrittenBack file out r =
    write_output (take (4 * r.answer.rows) r.contents) (take r.answer.words r.bodies) out ≡ record { answer = r.answer; buffer = overwrite file out }

-- What a read gives, a write turns back into the file's normal form.
pub read_then_write : (file contents bodies out : List ℕ) → Below 256 file → (a : Accepted file contents bodies) → length file ≤ length out
    → WrittenBack (normal_form a.drawing file) out (read_result file contents bodies)
read_then_write file contents bodies out b a room =
    let d = a.drawing in
    let long = file-length a.is-file in
    let fits : length (file_of d) ≤ length out = omega arith in
    subst (WrittenBack (normal_form d file) out) (sym (read_gives file contents bodies b a))
    (ap₂ (λ x y. write_output x y out)
    (take-overwrite (contents_of d) contents (4 * rows_of d) (contents-length (outer d) d.version 0 0 (length (head_words d))))
    (take-overwrite (bodies_of d) bodies (word_count d) refl)
    ∙ write_drawing (contents_of d) (bodies_of d) out d (table_complete d a.is-file.acceptable) fits
    ∙ ap₂ {C = Output} (λ n f. record { answer = answer 0 n (rows_of d) (word_count d); buffer = overwrite f out }) (sym long) (sym (normal_form_is file d a.is-file.spelled)))

-- The normal form reads as the file does.
pub read_normal : (file contents bodies : List ℕ) → Below 256 file → (a : Accepted file contents bodies)
    → read_result (normal_form a.drawing file) contents bodies ≡ read_result file contents bodies
read_normal file contents bodies b a =
    let d = a.drawing in
    let again : Accepted (file_of d) contents bodies = record { drawing = d; is-file = own_file d a.is-file.acceptable; rows_fit = a.rows_fit; words-fit = a.words-fit } in
    ap (λ f. read_result f contents bodies) (normal_form_is file d a.is-file.spelled)
    ∙ read_gives (file_of d) contents bodies (below_spelled byte_fields bytes_sensible (fields file_layout.format d)) again
    ∙ ap {B = ReadResult} (λ n. record { answer = answer 0 n (rows_of d) (word_count d); contents = overwrite (contents_of d) contents; bodies = overwrite (bodies_of d) bodies }) (sym (file-length a.is-file))
    ∙ sym (read_gives file contents bodies b a)

-- What is read of the bytes that a write gave.
abbrev ReadBack : (contents bodies c d : List ℕ) → Output → Type 0
ReadBack contents bodies c d o =
    read_result (take o.answer.offset o.buffer) c d ≡ record { answer = o.answer; contents = overwrite contents c; bodies = overwrite bodies d }

-- What a write gives, a read turns back into the same table.
pub write_then_read : (contents bodies file c d : List ℕ) → Below (2 ^ 32) bodies → (write_output contents bodies file).answer.number ≡ 0
    → (write_output contents bodies file).answer.rows ≤ length c / 4 → (write_output contents bodies file).answer.words ≤ length d
    → ReadBack contents bodies c d (write_output contents bodies file)
write_then_read contents bodies file c d b accepted rows_fit words-fit =
    let w = (write_accepts contents bodies file b).0 accepted in
    let D = w.drawing in
    let g = write_gives contents bodies file b w in
    let a : Accepted (file_of D) c d =
    record {
      drawing = D;
      is-file = own_file D w.is-table.acceptable;
      rows_fit = subst (λ o. o.answer.rows ≤ length c / 4) g rows_fit;
      words-fit = subst (λ o. o.answer.words ≤ length d) g words-fit;
    } in
    subst (ReadBack contents bodies c d) (sym g)
    (ap (λ f. read_result f c d) (take-overwrite (file_of D) file (length (file_of D)) refl)
    ∙ read_gives (file_of D) c d (below_spelled byte_fields bytes_sensible (fields file_layout.format D)) a
    ∙ ap₂ {C = ReadResult} (λ x y. record { answer = answer 0 (length (file_of D)) (rows_of D) (word_count D); contents = overwrite x c; bodies = overwrite y d })
    (sym w.is-table.contents-are) (sym w.is-table.bodies-are))
