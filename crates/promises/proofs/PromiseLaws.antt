-- Each promise follows from its call's equation, by the laws of the drawing layer. `Below` is what a slice of bytes or of words says of its elements.
use Rattle.std.specs.Prelude.{◌≡◌, refl, ◌⊎◌, ◌↔◌, Bool, true, false, cond, ℕ, ◌^◌, length, take, get_or}
use Rattle.std.proofs.Common.{sym, ap, ap₂, subst, ◌∙◌, inl, inr, arith, le-leb}
use Rattle.std.proofs.Math.Option.{Option, none, some, map, none-ne-some}
use mathlib.Core.List.{List, [], Memᴰ}
use Rattle.std.proofs.Math.ListN.{get_elem?}
use Rattle.format.specs.Digits.{Below}
use Rattle.drawing.specs.declared.Answer.{Answer}
use Rattle.drawing.specs.declared.PaintAnswer.{PaintAnswer}
use Rattle.drawing.specs.declared.PaintAnswer.TheVariants as Paint
use Rattle.drawing.specs.declared.Which.{Which}
use Rattle.drawing.specs.declared.TextAnswer.{TextAnswer}
use Rattle.drawing.specs.declared.DescriptionAnswer.{DescriptionAnswer}
use Rattle.drawing.specs.declared.Extent.{Extent}
use Rattle.drawing.specs.declared.ExtentAnswer.{ExtentAnswer}
use Rattle.drawing.specs.Numbers.{not_a_number}
use Rattle.drawing.specs.Fields.{unless}
use Rattle.drawing.specs.String.{String}
use Rattle.drawing.specs.Paint as P
use Rattle.drawing.specs.Text.{Text}
use Rattle.drawing.specs.Object.{Object, leaf, group}
use Rattle.drawing.specs.Drawing.{Drawing, outer, IsFile}
use Rattle.drawing.specs.Reading.{Reading, drawing, refusal, drawing_of}
use Rattle.drawing.specs.Refusal.{Refused}
use Rattle.drawing.specs.Table.{start_in, end_in, IsTable}
use Rattle.drawing.specs.TableDrawing.{drawing_of_table}
use Rattle.drawing.specs.Sheet.{number_bytes, IsSheet}
use Rattle.drawing.specs.SheetDrawing.{drawing_of_sheet}
use Rattle.drawing.specs.Order.{objects_of, description_of, entries, groups_around, ParentChain}
use Rattle.drawing.specs.Answers.{answer, overwrite, room_fault, stored, table_refused, table_checked, Output, nothing_stored, table_written, sheet_written, sheet_read, sheet_refused, listed, table_listed, ReadResult}
use Rattle.drawing.specs.Questions as Q
use Rattle.drawing.specs.Questions.{CharsAt}
use Rattle.drawing.specs.Path.{Outline}
use Rattle.drawing.specs.Extent as E
use Rattle.drawing.specs.Computed.{from_table, read_from, read_result, check_answer, write_output, sheet_output, sheet_result, list_output, paint_answer, text_value, text_in, text_answer, description_in, description_answer, extent_value, extent_answer}
use Rattle.laws.specs.DrawingLaws.{drawing-of-bytes, refusal-of-bytes, file-length}
use Rattle.laws.specs.TableLaws.{drawing-of_table}
use Rattle.laws.specs.SheetLaws.{drawing-of-sheet}
use Rattle.laws.specs.AnswerLaws.{take-overwrite, read_never_five}
use Rattle.laws.specs.EntryLaws.{entries_are, entries-increasing}
use Rattle.laws.specs.OrderLaws.{leads}
use Rattle.laws.specs.RowBodies.{RowBody}
use Rattle.laws.specs.RowBodyLaws.{row-object, object-row, object-body}
use Rattle.laws.specs.TextPlaceLaws.{text-chars, alternative-of}
use Rattle.laws.specs.DescriptionLaws.{description_chars}
use Rattle.promises.specs.Promises.{read_to, Reads, ByDrawing, Decided, by-drawing, OfTable, Demanded, demand3, output_to, Checks, Writes, WritesSheet, ReadsSheet, Listed, Lists, Paints, Texts, Descriptions, Extents}

-- ---- read

pub reads : {file contents bodies contents' bodies' : List ℕ} {r : Answer} → Below 256 file → read_to r contents' bodies' ≡ read_result file contents bodies → Reads file contents bodies r contents' bodies'
reads {file} {contents} {bodies} below is =
    record {
      accepts = λ d f.
          is
          ∙ ap (λ q. read_from q (length file) contents bodies) ((drawing-of-bytes file below d).1 f)
          ∙ ap (λ n. stored (room_fault d contents bodies) d n contents bodies) (file-length f);
      refuses = λ n o f. is ∙ ap (λ q. read_from q (length file) contents bodies) ((refusal-of-bytes file below n o).1 f);
      one-or-other = by (drawing_of file) refl;
      never-five = λ five. read_never_five file contents bodies below (sym (ap (λ (r : ReadResult). r.answer.number) is) ∙ five);
      says = is;
    }
  where
    by : (q : Reading) → drawing_of file ≡ q → ((d : Drawing) × IsFile file d) ⊎ ((n : ℕ) × (o : ℕ) × Refused file n o)
    by (drawing d) e = inl (d, (drawing-of-bytes file below d).0 e)
    by (refusal n o) e = inr (n, o, (refusal-of-bytes file below n o).0 e)

-- ---- calls that take what one drawing has

-- What one drawing has is computed: it is d's exactly where the computed drawing is d.
module _ {R : Type 0} (Is : Drawing → Type 0) (found : Option Drawing) (exactly : (d : Drawing) → (found ≡ some d) ↔ Is d) (of : Drawing → R) (bad : R) where
  told : {result : R} → result ≡ from_table of bad found → ByDrawing Is of bad result
  told is =
      record {
        one = λ d t. is ∙ ap (from_table of bad) ((exactly d).1 t);
        none = λ none_has. is ∙ ap (from_table of bad) (lacks found refl none_has);
        one-or-other = by found refl;
      }
    where
      lacks : (o : Option Drawing) → found ≡ o → ((d : Drawing) → Is d → ⊥) → found ≡ none
      lacks none e none_has = e
      lacks (some d) e none_has = absurd (none_has d ((exactly d).0 e))

      by : (o : Option Drawing) → found ≡ o → ((d : Drawing) × Is d) ⊎ ((d : Drawing) → Is d → ⊥)
      by none e = inr (λ d t. none-ne-some d (sym e ∙ (exactly d).1 t))
      by (some d) e = inl (d, (exactly d).0 e)

pub opened : {R : Type 0} {Is : Drawing → Type 0} {of : Drawing → R} {bad result : R} → Decided Is of bad result → ByDrawing Is of bad result
opened (by-drawing says) = says

told-by_table : {R : Type 0} {contents bodies : List ℕ} (of : Drawing → R) (bad : R) {result : R} → Below (2 ^ 32) bodies → result ≡ from_table of bad (drawing_of_table contents bodies) → ByDrawing (IsTable contents bodies) of bad result
told-by_table {contents = contents} {bodies} of bad below is =
    told (IsTable contents bodies) (drawing_of_table contents bodies) (drawing-of_table contents bodies below) of bad is

pub of_table : {R : Type 0} {contents bodies : List ℕ} (of : Drawing → R) (bad : R) {result : R} → Below (2 ^ 32) bodies → result ≡ from_table of bad (drawing_of_table contents bodies) → OfTable contents bodies of bad result
of_table of bad below is = by-drawing (told-by_table of bad below is)

pub checks : {contents bodies : List ℕ} {r : Answer} → Below (2 ^ 32) bodies → r ≡ check_answer contents bodies → Checks contents bodies r
checks below is = record { decides = of_table table_checked table_refused below is; says = is }

pub writes : {contents bodies file file' : List ℕ} {r : Answer} → Below (2 ^ 32) bodies → output_to r file' ≡ write_output contents bodies file → Writes contents bodies file r file'
writes {file = file} below is = record { decides = of_table (table_written file) (nothing_stored file) below is; says = is }

-- ---- sheets

pub writes_sheet : {contents bodies sheet sheet' : List ℕ} {r : Answer} → Below (2 ^ 32) bodies → output_to r sheet' ≡ sheet_output contents bodies sheet → WritesSheet contents bodies sheet r sheet'
writes_sheet {sheet = sheet} below is = record { decides = of_table (sheet_written sheet) (nothing_stored sheet) below is; says = is }

pub reads-sheet : {sheet contents bodies contents' bodies' : List ℕ} {r : Answer} → Below 256 sheet → read_to r contents' bodies' ≡ sheet_result sheet contents bodies → ReadsSheet sheet contents bodies r contents' bodies'
reads-sheet {sheet} {contents} {bodies} below is =
    record {
      decides = by-drawing (told (IsSheet sheet) (drawing_of_sheet number_bytes sheet) (drawing-of-sheet sheet below) (λ d. sheet_read d contents bodies) (sheet_refused contents bodies) is);
      says = is;
    }

-- ---- list

-- A row is an entry exactly when it is that of an object with that description.
entry_iff : (label : String) (d : Drawing) (row : ℕ) → Memᴰ row (entries label d) ↔ ((o : Object) × (get_elem? (objects_of d) row ≡ some o) × (description_of o ≡ label))
entry_iff label d row = (there, back)
  where
    there : Memᴰ row (entries label d) → (o : Object) × (get_elem? (objects_of d) row ≡ some o) × (description_of o ≡ label)
    there member = let at = (entries_are label d row).0 member in (get_or (objects_of d) row (outer d), row-object d row at.0, at.1)

    back : (o : Object) × (get_elem? (objects_of d) row ≡ some o) × (description_of o ≡ label) → Memᴰ row (entries label d)
    back (o, is, labelled) = let at = object-row d row o is in (entries_are label d row).1 (at.0, ap description_of at.1 ∙ labelled)

entries-listed : (c bs : List ℕ) (label : String) (d : Drawing) → IsTable c bs d → Listed c label d (entries label d)
entries-listed c bs label d table =
    record {
      exactly = entry_iff label d;
      in_order = entries-increasing label d;
      leads = λ row member. subst (λ l. ParentChain l row (get_or (groups_around d) row [])) (sym table.contents-are) (leads d row ((entries_are label d row).0 member).0);
    }

demanded : (contents bodies : List ℕ) (label : String) (list : List ℕ) {list' : List ℕ} {r : Answer} → ByDrawing (IsTable contents bodies) (table_listed label list) (nothing_stored list) (output_to r list') → Demanded contents bodies label list r list'
demanded contents bodies label list {list'} {r} decides =
    demand3 (λ d table room.
    let E = entries label d in
    let output = decides.one d table ∙ ap (λ t. listed (unless t 18) E list) (le-leb (length E) (length list) room) in
    let rows_are : r.rows ≡ length E = ap (λ (o : Output). o.answer.rows) output in
    let list-is : list' ≡ overwrite E list = ap (λ (o : Output). o.buffer) output in
    let taken : take r.rows list' ≡ E = ap₂ take rows_are list-is ∙ take-overwrite E list (length E) refl in
    (ap (λ (o : Output). o.answer.number) output, omega (arith, rows_are, room), subst (Listed contents label d) (sym taken) (entries-listed contents bodies label d table)))

pub lists : {contents bodies : List ℕ} {label : String} {list list' : List ℕ} {r : Answer} → Below (2 ^ 32) bodies → output_to r list' ≡ list_output contents bodies label list → Lists contents bodies label list r list'
lists {contents} {bodies} {label} {list} below is =
    let decides = told-by_table (table_listed label list) (nothing_stored list) below is in
    record { decides = by-drawing decides; demands = demanded contents bodies label list decides; says = is }

-- ---- questions

-- What a paint's case stands for.
pub given-paint : (x : Q.Found P.Paint) → Q.paint_given (Q.paint_value x) ≡ Q.paint_of x
given-paint (Q.refusal n) = refl
given-paint (Q.part (P.plain p)) = refl
given-paint (Q.part (P.linear start end d)) = refl
given-paint (Q.part (P.radial start end l)) = refl

pub paints : {contents bodies : List ℕ} {row : ℕ} {which : Which} {r : PaintAnswer} → Below (2 ^ 32) bodies → r ≡ paint_answer contents bodies row which → Paints contents bodies row which r
paints {contents} {bodies} {row} {which} below is =
    let decides = told-by_table (Q.paint_asked which row) (Paint.Refused 16) below is in
    record {
      decides = by-drawing decides;
      gives =
          by-drawing (record {
            one = λ d t. ap Q.paint_given (decides.one d t) ∙ given-paint (Q.part_of (Q.paint_part which) row d);
            none = λ none_has. ap Q.paint_given (decides.none none_has);
            one-or-other = decides.one-or-other;
          });
      says = is;
    }

-- What the public answer of a text stands for.
given-text : (start v : ℕ) (x : Q.Found (ℕ × Text)) → Q.text_given (text_value (Q.text_places start v x)) ≡ Q.text_places start v x
given-text start v (Q.refusal n) = refl
given-text start v (Q.part t) = refl

module _ (c bs : List ℕ) (row v : ℕ) (t : Text) where
  -- The places of a text's chars.
  abbrev Placed : TextAnswer → Type 0
  Placed r = CharsAt bs r.alternative (Q.alternative_of t.style.latex) × CharsAt bs r.text t.text

  by-object : (o : Object) → RowBody c bs v row o → Q.leaf_part Q.wording o ≡ some t → Placed (text_value (Q.text_places (start_in c row) v (Q.or_refusal 7 (Q.text_part v o))))
  by-object (group os d) body has = let z : ◌≡◌ {A = ℕ} 0 1 = cc in absurd (omega arith)
  by-object (leaf l d) body has =
      subst (λ x. Placed (text_value (Q.text_places (start_in c row) v (Q.or_refusal 7 (map (λ u. (Q.before_style v l, u)) x))))) (sym has)
      (alternative-of c bs v row l t d has body, text-chars c bs v row l t d has body)

pub texts : {contents bodies : List ℕ} {row : ℕ} {r : TextAnswer} → Below (2 ^ 32) bodies → r ≡ text_answer contents bodies row → Texts contents bodies row r
texts {contents} {bodies} {row} {r} below is =
    let computed = told-by_table (text_in contents row) (text_value (Q.no_text 16)) below is in
    record {
      decides =
          by-drawing (record {
            one = λ d t.
                ap Q.text_given (computed.one d t)
                ∙ given-text (start_in contents row) d.version (Q.part_of (Q.text_part d.version) row d)
                ∙ ap (λ c. Q.text_places (start_in c row) d.version (Q.part_of (Q.text_part d.version) row d)) t.contents-are;
            none = λ none_has. ap Q.text_given (computed.none none_has);
            one-or-other = computed.one-or-other;
          });
      places = λ d o t table object-is has.
          let answer-is : r ≡ text_value (Q.text_places (start_in contents row) d.version (Q.or_refusal 7 (Q.text_part d.version o))) =
          computed.one d table
          ∙ ap (λ x. text_value (Q.text_places (start_in contents row) d.version (Q.part_at (Q.text_part d.version) x))) object-is in
          subst (Placed contents bodies row d.version t) (sym answer-is) (by-object contents bodies row d.version t o (object-body contents bodies d table row o object-is) has);
      says = is;
    }

pub descriptions : {contents bodies : List ℕ} {row : ℕ} {r : DescriptionAnswer} → Below (2 ^ 32) bodies → r ≡ description_answer contents bodies row → Descriptions contents bodies row r
descriptions {contents} {bodies} {row} {r} below is =
    let computed = told-by_table (description_in contents row) (Q.no_description 16) below is in
    record {
      decides =
          by-drawing (record {
            one = λ d t. computed.one d t ∙ ap (λ c. Q.description_place d.version (end_in c row) (Q.part_of Q.description_part row d)) t.contents-are;
            none = computed.none;
            one-or-other = computed.one-or-other;
          });
      place = λ d o table object-is.
          let answer-is : r ≡ Q.description_place d.version (end_in contents row) (Q.part (description_of o)) =
          computed.one d table
          ∙ ap (λ x. Q.description_place d.version (end_in contents row) (Q.part_at Q.description_part x)) object-is in
          subst (λ (a : DescriptionAnswer). CharsAt bodies a.chars (description_of o)) (sym answer-is) (description_chars contents bodies d.version row o (object-body contents bodies d table row o object-is));
      says = is;
    }

-- What the public answer of a box stands for: its offset and counts are 0 anyway.
given_extent : (v : ℕ) (x : Q.Found Outline) → E.extent_given (extent_value (E.extent_of v x)) ≡ E.extent_of v x
given_extent v (Q.refusal n) = refl
given_extent v (Q.part o) = by (E.any_na_n (E.outline_points v o)) (E.box_of (E.outline_points v o))
  where
    by : (t : Bool) (box : Extent) → let given = cond t (E.no_extent not_a_number) (record { answer = answer 0 0 0 0; extent = box }) in E.extent_given (extent_value given) ≡ given
    by true box = refl
    by false box = refl

pub extents : {contents bodies : List ℕ} {row : ℕ} {r : ExtentAnswer} → Below (2 ^ 32) bodies → r ≡ extent_answer contents bodies row → Extents contents bodies row r
extents {contents} {bodies} {row} below is =
    let computed = told-by_table (λ d. extent_value (E.extent_asked row d)) (extent_value (E.no_extent 16)) below is in
    record {
      decides =
          by-drawing (record {
            one = λ d t. ap E.extent_given (computed.one d t) ∙ given_extent d.version (Q.part_of (Q.leaf_part E.outline_in) row d);
            none = λ none_has. ap E.extent_given (computed.none none_has);
            one-or-other = computed.one-or-other;
          });
      says = is;
    }
