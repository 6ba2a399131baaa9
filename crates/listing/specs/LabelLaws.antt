-- Whether a row's object has a label: told by the last words of its body, and by where its description stands.
use Rattle.std.specs.Prelude.{◌≡◌, refl, Bool, true, false, ℕ, suc, ◌+◌, ◌-◌, ◌<◌, ◌≤◌, List, [], ◌∷◌, ◌++◌, eqb, length, take, drop, get_or}
use Rattle.std.proofs.Common.{sym, ap, ◌∙◌, arith, drop-drop, take_at, ne_eqb, eqb-true}
use Rattle.std.proofs.lemmas.Bool.{false≢true, eqb-false}
use Rattle.drawing.specs.String.{string, equal}
use Rattle.drawing.specs.Object.{Object}
use Rattle.drawing.specs.Table.{words_of, start_in}
use Rattle.drawing.specs.Order.{description_of}
use Rattle.laws.specs.EqualLaws.{equal_refl, equal_true}
use Rattle.laws.specs.RowBodies.{own_words, RowBody}
use Rattle.laws.specs.RowBodyLaws.{end_good}
use Rattle.laws.specs.WordLaws.{string-words, early_end}
use Rattle.places.specs.Rows.{Describes}
use Rattle.laws.specs.StandingLaws.{first_word}

equal_not : (xs ys : List ℕ) → (xs ≡ ys → ⊥) → false ≡ equal xs ys
equal_not xs ys other = by (equal xs ys) refl
  where
    by : (t : Bool) → equal xs ys ≡ t → false ≡ equal xs ys
    by true is = absurd (other (equal_true xs ys is))
    by false is = sym is

module _ (c bs : List ℕ) (v r : ℕ) (label : List ℕ) where
  -- Below 1.2 every description is empty.
  pub label_early : v < 2 → (o : Object) → RowBody c bs v r o → eqb (length label) 0 ≡ equal (description_of o) label
  label_early early o row = by label ∙ ap (λ d. equal d label) (sym (early_end v (description_of o) early (end_good c bs v r o row)))
    where
      by : (l : List ℕ) → eqb (length l) 0 ≡ equal [] l
      by [] = refl
      by (x ∷ xs) = ne_eqb (suc (length xs)) 0 (λ e. omega (arith, e))

  -- The words of a description that stands here are the number of its chars, and the chars.
  module _ (o : Object) {at : ℕ} (e : Describes c bs v r o at) where
    words_are : words_of (string 0) (description_of o) ≡ length (description_of o) ∷ description_of o
    words_are = string-words 0 (description_of o) e.here.good

    size : length (words_of (string 0) (description_of o)) ≡ suc (length (description_of o))
    size = ap length words_are

    pub too_long_lem : length (own_words v o) ≤ length label → false ≡ equal (description_of o) label
    too_long_lem long = equal_not (description_of o) label (λ same. omega (arith, e.end_is, e.later, size, long, ap length same))

    module _ (from : ℕ) (from_is : from + length label ≡ start_in c r + length (own_words v o)) where
      -- Where the label is as long as the description, these are its number and its chars.
      same_place : length (description_of o) ≡ length label → from ≡ at + 1
      same_place same = omega (arith, from_is, e.end_is, size, same)

      chars-there : length (description_of o) ≡ length label → take (length label) (drop from bs) ≡ description_of o
      chars-there same =
          let stands = e.here.stands.words_are ∙ ap (λ l. l ++ e.here.rest) words_are in
          ap (λ n. take (length label) (drop n bs)) (same_place same)
          ∙ ap (take (length label)) (sym (drop-drop 1 at bs) ∙ ap (drop 1) stands)
          ∙ take_at (description_of o) e.here.rest (length label) same

      number-there : length (description_of o) ≡ length label → get_or bs (from - 1) 0 ≡ length label
      number-there same =
          let one : from - 1 ≡ at = omega (arith, same_place same) in
          ap (λ n. get_or bs n 0) one ∙ (first_word e.here words_are).1 ∙ same

      pub other-number : (get_or bs (from - 1) 0 ≡ length label → ⊥) → false ≡ equal (description_of o) label
      other-number other = equal_not (description_of o) label (λ same. other (number-there (ap length same)))

      pub other-chars : equal (take (length label) (drop from bs)) label ≡ false → false ≡ equal (description_of o) label
      other-chars other =
          equal_not (description_of o) label (λ same.
          false≢true (sym other ∙ ap (λ l. equal l label) (chars-there (ap length same) ∙ same) ∙ equal_refl label))

      pub told-by-place : equal (take (length label) (drop from bs)) label ≡ true → eqb (at + 1) from ≡ equal (description_of o) label
      told-by-place same_chars = by (eqb (at + 1) from) refl
        where
          by : (t : Bool) → eqb (at + 1) from ≡ t → eqb (at + 1) from ≡ equal (description_of o) label
          by true is =
              let same : length (description_of o) ≡ length label = omega (arith, eqb-true (at + 1) from is, from_is, e.end_is, size) in
              is ∙ sym (ap (λ l. equal l label) (sym (chars-there same)) ∙ same_chars)
          by false is = is ∙ equal_not (description_of o) label (λ same. eqb-false (at + 1) from is (sym (same_place (ap length same))))
