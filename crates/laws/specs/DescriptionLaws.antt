-- Where an object's description stands: its chars are the last words of the object's body.
use Rattle.std.specs.Prelude.{◌≡◌, refl, Bool, true, false, cond, ℕ, ◌+◌, ◌-◌, ◌≤◌, List, [], ◌++◌, length, leb}
use Rattle.std.proofs.Common.{sym, ap, subst, ◌∙◌, arith, append_assoc, length-append, leb-true, leb-false}
use Rattle.format.specs.Layout.{field}
use Rattle.format.specs.Alternative.{chosen}
use Rattle.drawing.specs.Fields.{flow_flag, member_count}
use Rattle.drawing.specs.String.{string}
use Rattle.drawing.specs.Object.{Object, leaf, group, list_of}
use Rattle.drawing.specs.ObjectId.{leaf_letter}
use Rattle.drawing.specs.LeafLayout.{path_case, other_cases, object_end}
use Rattle.drawing.specs.Table.{words_of, start_in, end_in}
use Rattle.drawing.specs.Order.{description_of}
use Rattle.drawing.specs.Questions.{span, no_span, description_span, CharsAt}
use Rattle.laws.specs.WordLaws.{pair_words, string-words, early_end, late_end}
use Rattle.laws.specs.Standing.{WordsStand, Here}
use Rattle.laws.specs.StandingLaws.{stands_next}
use Rattle.laws.specs.RowBodies.{own_words, RowBody}
use Rattle.laws.specs.RowBodyLaws.{end_good}
use Rattle.laws.specs.TextPlaceLaws.{string-chars}

-- An object's own words before its end.
abbrev pub front_words : ℕ → Object → List ℕ
front_words v (leaf l d) = words_of (chosen (path_case v) (other_cases v) (leaf_letter l)) l
front_words v (group os d) = words_of (field member_count) (length (list_of os))

pub front-words : (v : ℕ) (o : Object) → own_words v o ≡ front_words v o ++ words_of (object_end v) (description_of o)
front-words v (leaf l d) = pair_words (chosen (path_case v) (other_cases v) (leaf_letter l)) (object_end v) l d
front-words v (group os d) = pair_words (field member_count) (object_end v) (length (list_of os)) d

module _ (c bs : List ℕ) (v r : ℕ) (o : Object) (row : RowBody c bs v r o) where
  -- What stands before the description, from 1.2 on.
  abbrev before : List ℕ
  before = front_words v o ++ words_of (field flow_flag) 0

  module _ (late : 2 ≤ v) where
    body_is : own_words v o ≡ before ++ words_of (string 0) (description_of o)
    body_is =
        front-words v o
        ∙ ap (λ l. front_words v o ++ l) ((late_end v (description_of o) late (end_good c bs v r o row)).0 ∙ pair_words (field flow_flag) (string 0) 0 (description_of o))
        ∙ sym (append_assoc (front_words v o) (words_of (field flow_flag) 0) (words_of (string 0) (description_of o)))

    description_here : Here (string 0) bs (start_in c r + length before) (description_of o)
    description_here =
        let own : WordsStand bs (start_in c r) (own_words v o) row.rest = record { within = omega (arith, row.inside); words_are = row.words_are } in
        record {
          good = (late_end v (description_of o) late (end_good c bs v r o row)).1.1;
          rest = row.rest;
          stands = stands_next before (words_of (string 0) (description_of o)) (subst (λ l. WordsStand bs (start_in c r) l row.rest) body_is own);
        }

    place_is : start_in c r + length before + 1 ≡ end_in c r - length (description_of o)
    place_is =
        omega (
          arith,
          row.size_is,
          ap length body_is,
          length-append before (words_of (string 0) (description_of o)),
          ap length (string-words 0 (description_of o) description_here.good),
        )

  -- Its place holds its chars.
  pub description_chars : CharsAt bs (description_span v (end_in c r) (description_of o)) (description_of o)
  description_chars = by (leb 2 v) refl
    where
      by : (t : Bool) → leb 2 v ≡ t → CharsAt bs (cond t (span (end_in c r - length (description_of o)) (description_of o)) no_span) (description_of o)
      by true is =
          let late = leb-true 2 v is in
          subst (λ n. CharsAt bs (span n (description_of o)) (description_of o)) (place_is late) (string-chars 0 (description_here late))
      by false is =
          subst (CharsAt bs no_span) (sym (early_end v (description_of o) (leb-false 2 v is) (end_good c bs v r o row))) (record { inside = omega arith; chars-are = refl })
