-- The laws of writing a sheet: what is packed is the sheet of the drawing whose table it is.
use Rattle.std.specs.Prelude.{◌≡◌, refl, ℕ, zero, suc, ◌+◌, ◌*◌, ◌^◌, ◌<◌, ◌≤◌, List, [], ◌∷◌, ◌++◌, leb, length, get_or}
use Rattle.std.proofs.Common.{sym, ap, ap₂, subst, ◌∙◌, arith, length-append, le-leb}
use Rattle.std.proofs.Math.Option.{Option, none, some}
use Rattle.std.proofs.lemmas.Bool.{lt-leb}
use Rattle.format.specs.Digits.{Below, digits, all_digits}
use Rattle.format.specs.Pass.{splice}
use Rattle.format.specs.PackedLaws.{length-all-digits}
use Rattle.format.specs.Recode.{recoded}
use Rattle.format.specs.SpliceLaws.{length-splice}
use Rattle.drawing.specs.Limits.{length_limit}
use Rattle.drawing.specs.Fields.{unless}
use Rattle.drawing.specs.declared.Answer.{Answer}
use Rattle.drawing.specs.Drawing.{Drawing, outer}
use Rattle.drawing.specs.Table.{row_width, rows, bodies_of}
use Rattle.drawing.specs.TableDrawing.{drawing_of_table}
use Rattle.drawing.specs.Sheet.{number_bytes, sheet_of}
use Rattle.drawing.specs.SheetDrawing.{bytes_before, sheet_length}
use Rattle.drawing.specs.Answers.{answer, overwrite, Output, written, sheet_written, nothing_stored}
use Rattle.drawing.specs.Computed.{from_table, check_from, sheet_output}
use Rattle.laws.specs.RoomLaws.{splice-first}
use Rattle.laws.specs.TableLaws.{drawing-of_table}
use Rattle.laws.specs.SheetNumberLaws.{numbers-small}
use Rattle.laws.specs.SheetLaws.{rows_long, sheet-long}
use Rattle.memory.specs.Runs.{Room, SmallWords}
use Rattle.memory.specs.PackedRunLaws.{recoded-packed}
use Rattle.promises.specs.Promises.{Checks, WritesSheet}
use Rattle.promises.proofs.PromiseLaws.{writes_sheet}
use Rattle.ways.specs.Written.{Writes, both-written, same-written}
use Rattle.sheets.specs.Packing.{Tabled, sheet_in}

below_at : (base : ℕ) (vs : List ℕ) → Below base vs → (i : ℕ) → i < length vs → get_or vs i 0 < base
below_at base [] below i less = absurd (omega arith)
below_at base (v ∷ vs) below zero less = below.0
below_at base (v ∷ vs) below (suc i) less = below_at base vs below.1 i (omega arith)

-- What was stored where it fits was written.
spliced : {to : ℕ} (units : List ℕ) {m m' : List ℕ} → to + length units ≤ length m → m' ≡ splice to units m → Writes to units m m'
spliced {to} units {m} fits is = record { stands = λ there. is; same_length = ap length is ∙ length-splice to units m fits }

module _ {cs bs : List ℕ} {n k : ℕ} (tabled : Tabled cs bs n k) where
  abbrev d : Drawing
  d = tabled.drawing

  two : 0 < number_bytes
  two = omega arith

  rows-counted : length cs ≡ row_width * n
  rows-counted = ap length tabled.is-table.contents-are ∙ rows_long number_bytes two d ∙ ap (λ r. row_width * r) (sym tabled.rows_are)

  words-counted : length bs ≡ k
  words-counted = ap length tabled.is-table.bodies-are ∙ sym tabled.words_are

  numbers : Below (suc length_limit) (n ∷ k ∷ cs)
  numbers =
      let few = numbers-small d tabled.is-table.acceptable in
      (omega (arith, few.0, tabled.rows_are), (omega (arith, few.1.0, tabled.words_are), subst (Below (suc length_limit)) (sym tabled.is-table.contents-are) few.1.1))

  pub counts-small : (n ≤ length_limit) × (k ≤ length_limit)
  counts-small = (omega (arith, numbers.0), omega (arith, numbers.1.0))

  pub packed-contents : (room : ℕ) → sheet_length number_bytes n k ≤ room → Room cs 0 1 2 (4 * n) 4 room
  packed-contents room enough = record { inside = omega (arith, rows-counted); fits = λ some. omega arith }

  pub contents-small : SmallWords 2 cs 0 (4 * n)
  contents-small is i less =
      let here : 0 + i ≡ i = omega arith in
      rw here (below_at (suc length_limit) cs numbers.1.1 i (omega (arith, rows-counted)))

  pub packed-bodies : (room : ℕ) → sheet_length number_bytes n k ≤ room → {before : ℕ} → before ≡ bytes_before number_bytes n → Room bs 0 1 4 k before room
  packed-bodies room enough is = record { inside = omega (arith, words-counted); fits = λ some. omega (arith, is) }

  pub bodies-any : SmallWords 4 bs 0 k
  bodies-any is i less = absurd (omega (arith, is))

  -- The four runs, one behind the other.
  pub packed : {m m₁ m₂ m₃ m₄ : List ℕ} {before : ℕ} → sheet_length number_bytes n k ≤ length m → before ≡ bytes_before number_bytes n
      → m₁ ≡ splice 0 (digits 256 2 n) m
      → m₂ ≡ splice 2 (digits 256 2 k) m₁
      → m₃ ≡ splice 4 (recoded (2 ^ 32) 1 256 2 (4 * n) cs) m₂
      → m₄ ≡ splice before (recoded (2 ^ 32) 1 256 4 k bs) m₃
      → Writes 0 (sheet_in n k cs bs) m m₄
  packed {m} {m₁} {m₂} {m₃} {m₄} {before} enough before-is first second third fourth =
      let a = digits 256 2 n in
      let b = digits 256 2 k in
      let c = all_digits 256 2 cs in
      let e = all_digits 256 4 bs in
      let c-long : length c ≡ length cs * 2 = length-all-digits 256 2 cs in
      let e-long : length e ≡ length bs * 4 = length-all-digits 256 4 bs in
      let c-is : recoded (2 ^ 32) 1 256 2 (4 * n) cs ≡ c = ap (λ i. recoded (2 ^ 32) 1 256 2 i cs) (sym rows-counted) ∙ recoded-packed 2 cs in
      let e-is : recoded (2 ^ 32) 1 256 4 k bs ≡ e = ap (λ i. recoded (2 ^ 32) 1 256 4 i bs) (sym words-counted) ∙ recoded-packed 4 bs in
      let w1 : Writes 0 a m m₁ = spliced a (omega arith) first in
      let w2 : Writes 2 b m₁ m₂ = spliced b (omega (arith, w1.same_length)) second in
      let w3 : Writes 4 c m₂ m₃ = spliced c (omega (arith, w1.same_length, w2.same_length, c-long, rows-counted)) (third ∙ ap (λ l. splice 4 l m₂) c-is) in
      let w4 : Writes before e m₃ m₄ = spliced e (omega (arith, w1.same_length, w2.same_length, w3.same_length, e-long, words-counted, before-is)) (fourth ∙ ap (λ l. splice before l m₃) e-is) in
      let bc-long : length (b ++ c) ≡ length b + length c = length-append b c in
      let abc-long : length (a ++ (b ++ c)) ≡ length a + length (b ++ c) = length-append a (b ++ c) in
      let bc : Writes 2 (b ++ c) m₁ m₃ = both-written (omega arith) w2 w3 in
      let abc : Writes 0 (a ++ (b ++ c)) m m₃ = both-written (omega arith) w1 bc in
      both-written (omega (arith, abc-long, bc-long, c-long, rows-counted, before-is)) abc w4

  sheet_is : sheet_in n k cs bs ≡ sheet_of number_bytes d
  sheet_is =
      ap₂ (λ r w. sheet_in r w cs bs) tabled.rows_are tabled.words_are
      ∙ ap₂ (λ c b. sheet_in (rows (outer d)) (length (bodies_of d)) c b) tabled.is-table.contents-are tabled.is-table.bodies-are

  sheet-length : length (sheet_of number_bytes d) ≡ sheet_length number_bytes n k
  sheet-length = sheet-long number_bytes two d ∙ ap₂ (sheet_length number_bytes) (sym tabled.rows_are) (sym tabled.words_are)

  module _ (below : Below (2 ^ 32) bs) (sheet : List ℕ) where
    drawn : drawing_of_table cs bs ≡ some d
    drawn = (drawing-of_table cs bs below d).1 tabled.is-table

    by-room : (f : ℕ) → unless (leb (length (sheet_of number_bytes d)) (length sheet)) 17 ≡ f → written f (sheet_of number_bytes d) d sheet ≡ sheet_output cs bs sheet
    by-room f is = ap (λ j. written j (sheet_of number_bytes d) d sheet) (sym is) ∙ sym (ap (from_table (sheet_written sheet) (nothing_stored sheet)) drawn)

    pub sheet-short : {needed : ℕ} → needed ≡ sheet_length number_bytes n k → length sheet < needed → WritesSheet cs bs sheet (answer 17 needed 0 0) sheet
    sheet-short {needed} is short =
        let total : needed ≡ length (sheet_of number_bytes d) = is ∙ sym sheet-length in
        let lacks = lt-leb (length (sheet_of number_bytes d)) (length sheet) (subst (λ j. length sheet < j) total short) in
        writes_sheet below (ap {B = Output} (λ j. record { answer = answer 17 j 0 0; buffer = sheet }) total ∙ by-room 17 (ap (λ t. unless t 17) lacks))

    pub sheet-packed : {needed : ℕ} {sheet' : List ℕ} → needed ≡ sheet_length number_bytes n k → needed ≤ length sheet → Writes 0 (sheet_in n k cs bs) sheet sheet' → WritesSheet cs bs sheet (answer 0 needed n k) sheet'
    sheet-packed {needed} {sheet'} is room writes =
        let total : needed ≡ length (sheet_of number_bytes d) = is ∙ sym sheet-length in
        let fits : length (sheet_of number_bytes d) ≤ length sheet = subst (λ j. j ≤ length sheet) total room in
        let all : Writes 0 (sheet_of number_bytes d) sheet sheet' = same-written sheet_is writes in
        let there : 0 + length (sheet_of number_bytes d) ≤ length sheet = omega arith in
        let stored : sheet' ≡ overwrite (sheet_of number_bytes d) sheet = all.stands there ∙ splice-first (sheet_of number_bytes d) sheet in
        writes_sheet below
        (ap₂ {C = Output} (λ j l. record { answer = answer 0 j n k; buffer = l }) total stored
        ∙ ap₂ {C = Output} (λ r w. record { answer = answer 0 (length (sheet_of number_bytes d)) r w; buffer = overwrite (sheet_of number_bytes d) sheet }) tabled.rows_are tabled.words_are
        ∙ by-room 0 (ap (λ t. unless t 17) (le-leb (length (sheet_of number_bytes d)) (length sheet) fits)))

-- ---- what the check says

module _ (cs bs : List ℕ) (below : Below (2 ^ 32) bs) {a : Answer} (checked : Checks cs bs a) where
  pub checked_table : a.number ≡ 0 → Tabled cs bs a.rows a.words
  checked_table zero_is = by (drawing_of_table cs bs) refl
    where
      by : (o : Option Drawing) → drawing_of_table cs bs ≡ o → Tabled cs bs a.rows a.words
      by none is = let z : ◌≡◌ {A = ℕ} 0 16 = sym zero_is ∙ ap (λ x. x.number) (checked.says ∙ ap check_from is) in absurd (omega arith)
      by (some d) is =
          let answer-is = checked.says ∙ ap check_from is in
          record {
            drawing = d;
            is-table = (drawing-of_table cs bs below d).0 is;
            rows_are = ap (λ x. x.rows) answer-is;
            words_are = ap (λ x. x.words) answer-is;
          }

  pub sheet_unwritten : (sheet : List ℕ) → (a.number ≡ 0 → ⊥) → WritesSheet cs bs sheet a sheet
  sheet_unwritten sheet gone = by (drawing_of_table cs bs) refl
    where
      by : (o : Option Drawing) → drawing_of_table cs bs ≡ o → WritesSheet cs bs sheet a sheet
      by none is =
          writes_sheet below
          (ap {B = Output} (λ x. record { answer = x; buffer = sheet }) (checked.says ∙ ap check_from is) ∙ sym (ap (from_table (sheet_written sheet) (nothing_stored sheet)) is))
      by (some d) is = absurd (gone (ap (λ x. x.number) (checked.says ∙ ap check_from is)))
