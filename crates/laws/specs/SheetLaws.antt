-- The laws of sheets, over the width of their counts and numbers: the drawing of a sheet is d exactly when the bytes are d's sheet. So each table has one
-- sheet, and no two tables share one.
use Rattle.std.specs.Prelude.{◌≡◌, refl, ◌↔◌, Bool, true, false, cond, ℕ, zero, suc, ◌+◌, ◌-◌, ◌*◌, ◌/◌, ◌^◌, ◌<◌, ◌≤◌, List, [], ◌∷◌, ◌++◌, length, take, drop, eqb}
use Rattle.std.proofs.Common.{sym, ap, ap₂, subst, ◌∙◌, arith, append_assoc, length-append, length-drop, take-append-drop, drop-drop, take_at, drop_at, length-take-le, eq-eqb, eqb-true}
use Rattle.std.proofs.Math.Option.{Option, none, some, some-injective, none-ne-some}
use Rattle.std.proofs.Math.Nat as Nat
use Rattle.format.specs.Digits.{Below, number, digits, all_digits}
use Rattle.format.specs.DigitsLaws.{length_digits, digits_number}
use Rattle.format.specs.LeafLaws.{below_take, below_drop}
use Rattle.format.specs.Packed.{unpacked}
use Rattle.format.specs.PackedLaws.{length-all-digits, values-packed, length-unpacked, unpacked_below, unpacked-packed, packed-unpacked}
use Rattle.format.specs.RunLaws.{values_at}
use Rattle.drawing.specs.Drawing.{Drawing, outer, Acceptable}
use Rattle.drawing.specs.Table.{row_width, rows, head_words, contents_of, bodies_of, IsTable}
use Rattle.drawing.specs.TableDrawing.{drawing_of_table}
use Rattle.drawing.specs.Sheet.{number_bytes, word_bytes, sheet_of, IsSheet}
use Rattle.drawing.specs.SheetDrawing.{row_count, words_count, bytes_before, sheet_length, contents_in, bodies_in, drawing_of_sheet}
use Rattle.laws.specs.OrderLaws.{contents-length}
use Rattle.laws.specs.TableLaws.{drawing-of_table, table_complete}
use Rattle.laws.specs.SheetNumberLaws.{numbers-small, bodies_below}

-- ---- a sheet has the drawing whose sheet it is

module _ (w : ℕ) (some_bytes : 0 < w) (d : Drawing) where
  pub rows_long : length (contents_of d) ≡ row_width * rows (outer d)
  rows_long = contents-length (outer d) d.version 0 0 (length (head_words d))

  abbrev numbers : List ℕ
  numbers = rows (outer d) ∷ length (bodies_of d) ∷ contents_of d

  abbrev pub words : List ℕ
  words = all_digits 256 word_bytes (bodies_of d)

  abbrev pub counts : List ℕ
  counts = all_digits 256 w (rows (outer d) ∷ length (bodies_of d) ∷ [])

  abbrev pub cells : List ℕ
  cells = all_digits 256 w (contents_of d)

  pub cells-long : length cells ≡ w * (row_width * rows (outer d))
  cells-long = length-all-digits 256 w (contents_of d) ∙ ap (λ n. n * w) rows_long ∙ Nat.mul_comm (row_width * rows (outer d)) w

  pub counts-long : length counts ≡ 2 * w
  counts-long = length-all-digits 256 w (rows (outer d) ∷ length (bodies_of d) ∷ [])

  words_long : length words ≡ word_bytes * length (bodies_of d)
  words_long = length-all-digits 256 word_bytes (bodies_of d) ∙ omega arith

  pub parted : sheet_of w d ≡ counts ++ (cells ++ words)
  parted =
      let a = digits 256 w (rows (outer d)) in
      let b = digits 256 w (length (bodies_of d)) in
      append_assoc a (b ++ cells) words
      ∙ ap (λ l. a ++ l) (append_assoc b cells words)
      ∙ sym (append_assoc a (b ++ []) (cells ++ words) ∙ ap (λ l. a ++ l) (append_assoc b [] (cells ++ words)))

  pub sheet-long : length (sheet_of w d) ≡ sheet_length w (rows (outer d)) (length (bodies_of d))
  sheet-long =
      let all = ap length parted ∙ length-append counts (cells ++ words) in
      let two = length-append cells words in
      omega (arith, all, two, cells-long, counts-long, words_long)

  module _ (small : Below (256 ^ w) numbers) (below : Below (2 ^ 32) (bodies_of d)) where
    read_back : row_count w (sheet_of w d) ∷ number 256 (take w (drop (0 + w) (sheet_of w d))) ∷ values_at 256 w (sheet_of w d) (length (contents_of d)) (0 + w + w) ≡ numbers
    read_back = values-packed w words numbers [] small

    pub row_count_lem : row_count w (sheet_of w d) ≡ rows (outer d)
    row_count_lem = let e = read_back in cc

    pub words_count_lem : words_count w (sheet_of w d) ≡ length (bodies_of d)
    words_count_lem = let e = read_back in ap (λ n. number 256 (take w (drop n (sheet_of w d)))) (sym (Nat.zero-add w)) ∙ cc

    pub contents_in_lem : contents_in w (sheet_of w d) (rows (outer d)) ≡ contents_of d
    contents_in_lem =
        ap (λ l. unpacked w (take (w * (row_width * rows (outer d))) l)) (ap (drop (2 * w)) parted ∙ drop_at counts (cells ++ words) (2 * w) counts-long)
        ∙ ap (unpacked w) (take_at cells words (w * (row_width * rows (outer d))) cells-long)
        ∙ unpacked-packed w some_bytes (contents_of d) small.1.1

    pub bodies_in_lem : bodies_in w (sheet_of w d) (rows (outer d)) ≡ bodies_of d
    bodies_in_lem =
        let front = counts ++ cells in
        let long : length front ≡ bytes_before w (rows (outer d)) = length-append counts cells ∙ ap₂ (λ a b. a + b) counts-long cells-long in
        ap (unpacked word_bytes)
        (ap (drop (bytes_before w (rows (outer d)))) (parted ∙ sym (append_assoc counts cells words)) ∙ drop_at front words (bytes_before w (rows (outer d))) long)
        ∙ unpacked-packed word_bytes (omega arith) (bodies_of d) below

    pub sheet-complete : Acceptable d → drawing_of_sheet w (sheet_of w d) ≡ some d
    sheet-complete a =
        let S = sheet_of w d in
        let whole : eqb (length S) (sheet_length w (row_count w S) (words_count w S)) ≡ true =
        eq-eqb (length S) (sheet_length w (row_count w S) (words_count w S)) (sheet-long ∙ ap₂ (sheet_length w) (sym row_count_lem) (sym words_count_lem)) in
        ap (λ t. cond t (drawing_of_table (contents_in w S (row_count w S)) (bodies_in w S (row_count w S))) none) whole
        ∙ ap (λ n. drawing_of_table (contents_in w S n) (bodies_in w S n)) row_count_lem
        ∙ ap₂ drawing_of_table contents_in_lem bodies_in_lem
        ∙ table_complete d a

-- ---- what has a drawing is its sheet

module _ (w : ℕ) (some_bytes : 0 < w) (S : List ℕ) (bytes : Below 256 S) where
  abbrev r : ℕ
  r = row_count w S

  abbrev n : ℕ
  n = words_count w S

  abbrev inner : List ℕ
  inner = take (w * (row_width * r)) (drop (2 * w) S)

  abbrev rest : List ℕ
  rest = drop (bytes_before w r) S

  rest_below : Below (2 ^ 32) (bodies_in w S r)
  rest_below = unpacked_below word_bytes rest (below_drop 256 (bytes_before w r) S bytes)

  module _ (long : length S ≡ sheet_length w r n) where
    inner-long : length inner ≡ w * (row_width * r)
    inner-long = length-take-le (w * (row_width * r)) (drop (2 * w) S) (rw length-drop (omega arith))

    rest-long : length rest ≡ n * word_bytes
    rest-long = rw length-drop (omega arith)

    contents-long : length (contents_in w S r) ≡ row_width * r
    contents-long = length-unpacked w inner ∙ ap (λ k. k / w) inner-long ∙ Nat.mul-div_cancel_left (row_width * r) some_bytes

    bodies-long : length (bodies_in w S r) ≡ n
    bodies-long = length-unpacked word_bytes rest ∙ ap (λ k. k / word_bytes) rest-long ∙ Nat.mul-div_cancel n (omega arith)

    -- A count is written as it was.
    count-back : (at : ℕ) → at + w ≤ length S → digits 256 w (number 256 (take w (drop at S))) ≡ take w (drop at S)
    count-back at inside =
        let field = take w (drop at S) in
        let field-long : length field ≡ w = length-take-le w (drop at S) (rw length-drop (omega arith)) in
        ap (λ k. digits 256 k (number 256 field)) (sym field-long) ∙ digits_number 256 field (omega arith) (below_take 256 w (drop at S) (below_drop 256 at S bytes))

    pub sheet-sound : (d : Drawing) → IsTable (contents_in w S r) (bodies_in w S r) d → S ≡ sheet_of w d
    sheet-sound d t =
        let rows_are : rows (outer d) ≡ r = omega (arith, rows_long w some_bytes d, ap length t.contents-are, contents-long) in
        let words_are : length (bodies_of d) ≡ n = sym (ap length t.bodies-are) ∙ bodies-long in
        let cells_are : all_digits 256 w (contents_of d) ≡ inner =
        ap (all_digits 256 w) (sym t.contents-are)
        ∙ packed-unpacked w some_bytes inner (below_take 256 (w * (row_width * r)) (drop (2 * w) S) (below_drop 256 (2 * w) S bytes)) (row_width * r) (inner-long ∙ Nat.mul_comm w (row_width * r)) in
        let rest-is : all_digits 256 word_bytes (bodies_of d) ≡ rest =
        ap (all_digits 256 word_bytes) (sym t.bodies-are) ∙ packed-unpacked word_bytes (omega arith) rest (below_drop 256 (bytes_before w r) S bytes) n rest-long in
        let first : digits 256 w (rows (outer d)) ≡ take w S = ap (digits 256 w) rows_are ∙ count-back 0 (omega arith) in
        let second : digits 256 w (length (bodies_of d)) ≡ take w (drop w S) = ap (digits 256 w) words_are ∙ count-back w (omega arith) in
        let twice : w + w ≡ 2 * w = omega arith in
        let behind : drop w (drop w S) ≡ drop (2 * w) S = drop-drop w w S ∙ ap (λ k. drop k S) twice in
        let behind-inner : drop (w * (row_width * r)) (drop (2 * w) S) ≡ rest = drop-drop (w * (row_width * r)) (2 * w) S in
        let A = take w S in
        let B = take w (drop w S) in
        sym (ap₂ (λ x y. (x ++ y) ++ all_digits 256 word_bytes (bodies_of d)) first (ap₂ (λ x y. x ++ y) second cells_are)
        ∙ ap (λ y. (A ++ (B ++ inner)) ++ y) rest-is
        ∙ append_assoc A (B ++ inner) rest
        ∙ ap (λ y. A ++ y) (append_assoc B inner rest)
        ∙ ap (λ y. A ++ (B ++ (inner ++ y))) (sym behind-inner)
        ∙ ap (λ y. A ++ (B ++ y)) (take-append-drop (w * (row_width * r)) (drop (2 * w) S))
        ∙ ap (λ y. A ++ (B ++ y)) (sym behind)
        ∙ ap (λ y. A ++ y) (take-append-drop w (drop w S))
        ∙ take-append-drop w S)

  pub sheet-drawn : (d : Drawing) → drawing_of_sheet w S ≡ some d → Acceptable d × (S ≡ sheet_of w d)
  sheet-drawn d e = by (eqb (length S) (sheet_length w r n)) refl e
    where
      by : (t : Bool) → eqb (length S) (sheet_length w r n) ≡ t → cond t (drawing_of_table (contents_in w S r) (bodies_in w S r)) none ≡ some d → Acceptable d × (S ≡ sheet_of w d)
      by false is e = absurd (none-ne-some d e)
      by true is e =
          let t = (drawing-of_table (contents_in w S r) (bodies_in w S r) rest_below d).0 e in
          (t.acceptable, sheet-sound (eqb-true (length S) (sheet_length w r n) is) d t)

-- ---- with two bytes for a number

-- The drawing of these bytes is d exactly when they are d's sheet.
pub drawing-of-sheet : (S : List ℕ) → Below 256 S → (d : Drawing) → (drawing_of_sheet number_bytes S ≡ some d) ↔ IsSheet S d
drawing-of-sheet S bytes d = (
  λ e. let x = sheet-drawn number_bytes (omega arith) S bytes d e in record { acceptable = x.0; bytes_are = x.1 },
  λ s. ap (drawing_of_sheet number_bytes) s.bytes_are ∙ sheet-complete number_bytes (omega arith) d (numbers-small d s.acceptable) (bodies_below d s.acceptable) s.acceptable,
)

-- So no two drawings share a sheet, and no two tables do.
pub sheet_unique : (d e : Drawing) → Acceptable d → Acceptable e → sheet_of number_bytes d ≡ sheet_of number_bytes e → d ≡ e
sheet_unique d e a b same =
    some-injective d e
    (sym (sheet-complete number_bytes (omega arith) d (numbers-small d a) (bodies_below d a) a)
    ∙ ap (drawing_of_sheet number_bytes) same
    ∙ sheet-complete number_bytes (omega arith) e (numbers-small e b) (bodies_below e b) b)
