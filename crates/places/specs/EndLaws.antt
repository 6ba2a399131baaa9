-- Where a leaf's fields stand, and an object's end: behind a group's count, or behind a leaf's other fields.
use Rattle.std.specs.Prelude.{◌≡◌, refl, ℕ, ◌+◌, ◌≤◌, List, length}
use Rattle.std.proofs.Common.{sym, ap, subst, subst₂, ◌∙◌, arith, length-append}
use Rattle.format.specs.Layout.{field, ◌&◌}
use Rattle.format.specs.Alternative.{chosen}
use Rattle.drawing.specs.Fields.{flow_flag, member_count}
use Rattle.drawing.specs.String.{String, string}
use Rattle.drawing.specs.Object.{Object, leaf, group, Objects, list_of}
use Rattle.drawing.specs.ObjectId.{leaf_letter}
use Rattle.drawing.specs.LeafLayout.{path_case, other_cases, object_end}
use Rattle.drawing.specs.Table.{words_of, group_own, kind_in, start_in}
use Rattle.drawing.specs.TableDrawing.{letter_of}
use Rattle.drawing.specs.KindLaws.{leaf_letter_lem, leaf_no_group}
use Rattle.drawing.specs.Order.{description_of}
use Rattle.laws.specs.RowBodies.{own_words, RowBody}
use Rattle.laws.specs.RowBodyLaws.{body-here, leaf_here}
use Rattle.laws.specs.WordLaws.{late_end}
use Rattle.laws.specs.DescriptionLaws.{front_words, front-words}
use Rattle.laws.specs.Standing.{Here, Behind}
use Rattle.laws.specs.StandingLaws.{here_as, here-behind, here-first, here_next, here_later, next_ends}
use Rattle.places.specs.Rows.{EndsAt, Describes}

module _ (c bs : List ℕ) (v r : ℕ) where
  -- A group's own fields stand where its row says.
  own_here : (os : Objects) (d : String) → RowBody c bs v r (group os d) → Here (group_own v) bs (start_in c r) (length (list_of os), d)
  own_here os d row = record { good = row.good; rest = row.rest; stands = record { within = omega (arith, row.inside); words_are = row.words_are } }

  end_is : (o : Object) → start_in c r + length (own_words v o) ≡ start_in c r + length (front_words v o) + length (words_of (object_end v) (description_of o))
  end_is o = omega (arith, ap length (front-words v o), length-append (front_words v o) (words_of (object_end v) (description_of o)))

  pub ends : (o : Object) → RowBody c bs v r o → EndsAt c bs v r o (start_in c r + length (front_words v o))
  ends (leaf l d) row =
      record { here = here-behind (body-here c bs v r l d row) (front_words v (leaf l d)) (object_end v) (front-words v (leaf l d)) row.good.1; later = omega arith; end_is = end_is (leaf l d) }
  ends (group os d) row =
      record { here = here-behind (own_here os d row) (front_words v (group os d)) (object_end v) (front-words v (group os d)) row.good.1; later = omega arith; end_is = end_is (group os d) }

  -- Where the kind and the start are those of the row.
  module _ {kind start q : ℕ} (kind-is : kind ≡ kind_in c r) (start_is : start ≡ start_in c r) where
    pub group_end : (o : Object) → RowBody c bs v r o → kind ≡ 1 → Behind (field member_count) bs start q → EndsAt c bs v r o q
    group_end (leaf l d) row is behind = absurd (leaf_no_group l (sym row.kind-is ∙ sym kind-is ∙ is))
    group_end (group os d) row is behind =
        let from : Behind (field member_count) bs (start_in c r) q = subst (λ at. Behind (field member_count) bs at q) start_is behind in
        subst (EndsAt c bs v r (group os d)) (sym (from (length (list_of os)) (here-first (field member_count) (object_end v) (own_here os d row)))) (ends (group os d) row)

    pub leaf_end : (o : Object) → RowBody c bs v r o → (kind ≡ 1 → ⊥) → {letter : ℕ} → letter ≡ letter_of kind → Behind (chosen (path_case v) (other_cases v) letter) bs start q → EndsAt c bs v r o q
    leaf_end (group os d) row other letter-is behind = absurd (other (kind-is ∙ row.kind-is))
    leaf_end (leaf l d) row other {letter} letter-is behind =
        let same : letter ≡ leaf_letter l = letter-is ∙ ap letter_of (kind-is ∙ row.kind-is) ∙ leaf_letter_lem l in
        let is = subst₂ (λ x at. Behind (chosen (path_case v) (other_cases v) x) bs at q) same start_is behind in
        subst (EndsAt c bs v r (leaf l d)) (sym (is l (leaf_here c bs v r l d row))) (ends (leaf l d) row)

  -- Its description stands behind the flow frame flag.
  module _ (late : 2 ≤ v) (o : Object) {end : ℕ} (e : EndsAt c bs v r o end) where
    flag-here : Here (field flow_flag & string 0) bs end (0, description_of o)
    flag-here = let it = late_end v (description_of o) late e.here.good in here_as e.here (field flow_flag & string 0) it.0 it.1

    pub described : {at : ℕ} → Behind (field flow_flag) bs end at → Describes c bs v r o at
    described is =
        record {
          here = here_next (field flow_flag) (string 0) flag-here is;
          later = omega (arith, e.later, here_later (field flow_flag) (string 0) flag-here is);
          end_is = next_ends (field flow_flag) (string 0) flag-here is ∙ ap (λ k. end + k) (sym (ap length (late_end v (description_of o) late e.here.good).0)) ∙ sym e.end_is;
        }

  pub some_description : 2 ≤ v → (o : Object) → RowBody c bs v r o → (at : ℕ) × Describes c bs v r o at
  some_description late o row = (start_in c r + length (front_words v o) + 1, described late o (ends o row) (λ a here. refl))
