-- The description of a row's object, below 1.2 and from there on.
use Rattle.std.specs.Prelude.{◌≡◌, cond, ℕ, ◌+◌, ◌-◌, ◌<◌, ◌≤◌, List, length}
use Rattle.std.proofs.Common.{sym, ap, ◌∙◌, arith, le-leb}
use Rattle.std.proofs.lemmas.Bool.{lt-leb}
use Rattle.drawing.specs.declared.Span.{Span}
use Rattle.drawing.specs.declared.DescriptionAnswer.{DescriptionAnswer}
use Rattle.drawing.specs.Object.{Object}
use Rattle.drawing.specs.Table.{end_in}
use Rattle.drawing.specs.Order.{description_of}
use Rattle.drawing.specs.Questions.{part, span, no_span, no_description, description_place}
use Rattle.laws.specs.RowBodies.{RowBody}
use Rattle.laws.specs.WordLaws.{string-words}
use Rattle.places.specs.Rows.{Describes}
use Rattle.questions.specs.TextQuestion.{CharsRead}
use Rattle.questions.specs.TextLaws.{length-first}

module _ (c bs : List ℕ) (v r : ℕ) (o : Object) (row : RowBody c bs v r o) where
  -- The place, by whether the version has descriptions.
  abbrev placed : Span → DescriptionAnswer
  placed s = record { number = 0; chars = s }

  pub early_answered : v < 2 → no_description 0 ≡ description_place v (end_in c r) (part (description_of o))
  early_answered early = ap (λ t. placed (cond t (span (end_in c r - length (description_of o)) (description_of o)) no_span)) (sym (lt-leb 2 v early))

  module _ {at : ℕ} (e : Describes c bs v r o at) where
    pub description_inside : at < length bs
    description_inside = (length-first 0 e.here).0

    place_is : at + 1 ≡ end_in c r - length (description_of o)
    place_is = omega (arith, e.end_is, row.size_is, ap length (string-words 0 (description_of o) e.here.good))

    pub late_answered : 2 ≤ v → {s : Span} → CharsRead bs at s → record { number = 0; chars = s } ≡ description_place v (end_in c r) (part (description_of o))
    late_answered late reads =
        ap placed (reads 0 (description_of o) e.here ∙ ap (λ n. span n (description_of o)) place_is)
        ∙ ap (λ t. placed (cond t (span (end_in c r - length (description_of o)) (description_of o)) no_span)) (sym (le-leb 2 v late))
