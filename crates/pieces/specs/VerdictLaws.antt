-- The verdict is what the file's script comes to.
use Rattle.std.specs.Prelude.{◌≡◌, refl, Bool, true, false, cond, ℕ, ◌+◌, ◌-◌, ◌<◌, ◌≤◌, List, [], ◌∷◌, ltb, length, drop}
use Rattle.std.proofs.Common.{sym, ap, ◌∙◌, subst, arith, le-ltb}
use Rattle.std.proofs.Math.Nat as Nat
use Rattle.format.specs.Digits.{Below}
use Rattle.format.specs.Codec.{Outcome, found, and_then}
use Rattle.format.specs.Codec as C
use Rattle.format.specs.Script.{Script, end, ask}
use Rattle.format.specs.Format.{fields, script}
use Rattle.format.specs.Layout.{Layout}
use Rattle.format.specs.Parse.{parse}
use Rattle.format.specs.ScriptRun.{run}
use Rattle.format.specs.ParsingLaws.{followed, followed-script}
use Rattle.format.specs.Pass.{Passed, through, stopped, pass, ◌⟫◌, done}
use Rattle.format.specs.PassLaws.{puts, pass-found}
use Rattle.format.specs.FixedLayoutLaws.{parsed_spelt}
use Rattle.drawing.specs.Codecs.{byte_fields, word_fields}
use Rattle.drawing.specs.Limits.{length_limit}
use Rattle.drawing.specs.Reading.{bytes, Reading, reading, refusal, drawing_of}
use Rattle.drawing.specs.Drawing.{Drawing, file}
use Rattle.drawing.specs.Table.{words_of}
use Rattle.drawing.specs.Answers.{answer, rows_of, word_count}
use Rattle.laws.specs.CodecLaws.{bytes_sensible}
use Rattle.laws.specs.DrawingLaws.{refusal_positive}
use Rattle.laws.specs.NumberLaws.{number_small}
use Rattle.pieces.specs.Tally.{plus, tallied}
use Rattle.pieces.specs.TallyLaws.{tallied-followed}
use Rattle.pieces.specs.PassingLaws.{to_words, Says, pass-says}
use Rattle.pieces.specs.Parts.{head_on}
use Rattle.pieces.specs.CountLaws.{file-words}
use Rattle.pieces.specs.Verdict.{verdict_from, verdict_of, comes}

-- ---- what a layout's script comes to, by what it parses to

-- Without the words it is what running the script comes to.
run-tallied : {R : Type 0} (s : Script R) (us : List ℕ) → run bytes s us ≡ and_then (tallied s us) (λ t rest. found t.0 rest)
run-tallied (end r) us = refl
run-tallied {R} (ask k next) us = by (bytes.read k us) (λ v rest. run-tallied (next v) rest)
  where
    wide : ℕ
    wide = word_fields.width k.shape

    counted : (o : Outcome (R × ℕ)) → and_then o (λ t rest. found t.0 rest) ≡ and_then (plus wide o) (λ t rest. found t.0 rest)
    counted (found t rest) = refl
    counted (C.refused n place) = refl

    by : (o : Outcome ℕ) → ((v : ℕ) (rest : List ℕ) → run bytes (next v) rest ≡ and_then (tallied (next v) rest) (λ t rest. found t.0 rest))
        → and_then o (λ v rest. run bytes (next v) rest) ≡ and_then (and_then o (λ v rest. plus wide (tallied (next v) rest))) (λ t rest. found t.0 rest)
    by (found v rest) h = h v rest ∙ counted (tallied (next v) rest)
    by (C.refused n place) h = refl

module _ {A : Type 0} (L : Layout A) (us : List ℕ) (below : Below 256 us) where
  abbrev alone : Script A
  alone = script L.format (λ a. end a)

  led : (make : A → Script (Unit {0})) → script L.format make ≡ followed alone make
  led make = sym (followed-script L.format (λ a. end a) make)

  -- The words are those of the value, since a pass counts both.
  words_are : (a : A) (w : ℕ) (rest : List ℕ) → parse bytes L us ≡ found a rest → tallied alone us ≡ found (a, w) rest → w ≡ length (words_of L a)
  words_are a w rest parses tallies = by says
    where
      both : tallied (L ⟫ done) us ≡ found (tt, w + 0) rest
      both = ap (λ s. tallied s us) (led (λ a. done)) ∙ tallied-followed alone (λ a. done) us ∙ ap (λ o. and_then o (λ t rest. plus t.1 (found (tt, 0) rest))) tallies

      says : Says us 0 (pass to_words us (L ⟫ done) 0 0 []) (found (tt {0}, w + 0) rest)
      says = subst (Says us 0 (pass to_words us (L ⟫ done) 0 0 [])) both (pass-says us (L ⟫ done) 0 0 [] (omega arith))

      by : Says us 0 (pass to_words us (L ⟫ done) 0 0 []) (found (tt {0}, w + 0) rest) → w ≡ length (words_of L a)
      by s =
          let passes = pass-found to_words bytes_sensible us below L done 0 0 [] (omega arith) a rest parses in
          let same : through s.0 (0 + (w + 0)) s.1 ≡ through (length us - length rest) (0 + length (words_of L a)) (puts word_fields 0 (fields L.format a) []) = sym s.4 ∙ passes in
          let sum : 0 + (w + 0) ≡ 0 + length (words_of L a) = cc in
          omega arith

  valued : tallied alone us ≡ and_then (parse bytes L us) (λ a rest. found (a, length (words_of L a)) rest)
  valued = by (tallied alone us) refl
    where
      by : (o : Outcome (A × ℕ)) → tallied alone us ≡ o → o ≡ and_then (parse bytes L us) (λ a rest. found (a, length (words_of L a)) rest)
      by (found t rest) e =
          let parses : parse bytes L us ≡ found t.0 rest = run-tallied alone us ∙ ap (λ o. and_then o (λ t rest. found t.0 rest)) e in
          ap (λ w. found (t.0, w) rest) (words_are t.0 t.1 rest parses e)
          ∙ sym (ap (λ o. and_then o (λ a rest. found (a, length (words_of L a)) rest)) parses)
      by (C.refused n place) e =
          let parses : parse bytes L us ≡ C.refused n place = run-tallied alone us ∙ ap (λ o. and_then o (λ t rest. found t.0 rest)) e in
          sym (ap (λ o. and_then o (λ a rest. found (a, length (words_of L a)) rest)) parses)

  -- The same with something made of the value.
  made : {R : Type 0} (make : A → R) → tallied (script L.format (λ a. end (make a))) us ≡ and_then (parse bytes L us) (λ a rest. found (make a, length (words_of L a)) rest)
  made make =
      ap (λ s. tallied s us) (sym (followed-script L.format (λ a. end a) (λ a. end (make a))))
      ∙ tallied-followed alone (λ a. end (make a)) us
      ∙ ap (λ o. and_then o (λ t rest. plus t.1 (found (make t.0, 0) rest))) valued
      ∙ by (parse bytes L us)
    where
      by : (o : Outcome A)
          → and_then {A = A × ℕ} (and_then o (λ a rest. found (a, length (words_of L a)) rest)) (λ t rest. plus t.1 (found (make t.0, 0) rest)) ≡ and_then o (λ a rest. found (make a, length (words_of L a)) rest)
      by (found a rest) = ap (λ w. found (make a, w) rest) (Nat.add-zero (length (words_of L a)))
      by (C.refused n place) = refl

-- ---- the verdict

pub verdict-tallied : (bs : List ℕ) → Below 256 bs → length bs ≤ length_limit → verdict_of bs ≡ comes (length bs) (tallied (head_on file) bs)
verdict-tallied bs below short =
    ap (λ t. verdict_from (cond t (refusal 1 length_limit) (reading (length bs) (parse bytes file bs))) (length bs)) (le-ltb length_limit (length bs) short)
    ∙ by (parse bytes file bs) refl
    ∙ sym (ap (comes (length bs)) (made file bs below rows_of))
  where
    by : (o : Outcome Drawing) → parse bytes file bs ≡ o → verdict_from (reading (length bs) o) (length bs) ≡ comes (length bs) (and_then o (λ d rest. found (rows_of d, length (words_of file d)) rest))
    by (found d []) e =
        let good = (parsed_spelt byte_fields bytes_sensible file bs below d [] e).good in
        let words = file-words d good in
        let same : word_count d ≡ length (words_of file d) - rows_of d - 4 = omega arith in
        ap (λ w. answer 0 (length bs) (rows_of d) w) same
    by (found d (b ∷ rest)) e = refl
    by (C.refused n place) e = refl

-- Something made of what is found is refused where that is.
made-refused : {A B : Type 0} (make : A → B) (o : Outcome A) {n : ℕ} {place : List ℕ} → and_then o (λ a rest. found (make a) rest) ≡ C.refused n place → o ≡ C.refused n place
made-refused make (found a rest) e = let z : ◌≡◌ {A = ℕ} 0 1 = cc in absurd (omega arith)
made-refused make (C.refused m back) {n} {place} e =
    let same : m ≡ n = cc in
    let there : back ≡ place = cc in
    ap (λ m. C.refused m back) same ∙ ap (λ l. C.refused n l) there

-- Where the file's script is refused, that is the verdict, and its number is one of those of the reader.
pub refused-verdict : (bs : List ℕ) → Below 256 bs → length bs ≤ length_limit → (n : ℕ) (place : List ℕ) → tallied (head_on file) bs ≡ C.refused n place
    → (verdict_of bs ≡ answer n (length bs - length place) 0 0) × (0 < n) × (n < 14)
refused-verdict bs below short n place is = (
  verdict-tallied bs below short ∙ ap (comes (length bs)) is,
  refusal_positive bs below n (length bs - length place) reads,
  (let small = number_small bs below n (length bs - length place) reads in omega arith),
)
  where
    reads : drawing_of bs ≡ refusal n (length bs - length place)
    reads =
        ap (λ t. cond t (refusal 1 length_limit) (reading (length bs) (parse bytes file bs))) (le-ltb length_limit (length bs) short)
        ∙ ap (reading (length bs)) (made-refused {A = Drawing} {B = ℕ × ℕ} (λ (d : Drawing). (rows_of d, length (words_of file d))) (parse bytes file bs) {n = n} {place = place} (sym (made file bs below rows_of) ∙ is))
