-- The text to show of a row, from what the text question promises.
use Rattle.std.specs.Prelude.{◌≡◌, refl, Bool, true, false, cond, ℕ, ◌+◌, ◌≤◌, List, [], length, take, drop}
use Rattle.std.proofs.Common.{sym, ap, ap₂, ◌∙◌, inl, inr, arith}
use Rattle.std.proofs.Math.Option.{Option, none, some, map}
use Rattle.std.proofs.Math.ListN.{get_elem?}
use Rattle.drawing.specs.declared.TextAnswer.{TextAnswer}
use Rattle.drawing.specs.Text.{Text}
use Rattle.drawing.specs.Object.{Object, leaf, group}
use Rattle.drawing.specs.Drawing.{Drawing}
use Rattle.drawing.specs.Table.{start_in, contents_of, IsTable}
use Rattle.drawing.specs.Order.{objects_of}
use Rattle.drawing.specs.Questions.{part_at, or_refusal, leaf_part, wording, before_style, TextGiven, text_part, text_places, text_asked, alternative_of, CharsAt, shown}
use Rattle.promises.specs.Promises.{by-drawing, Texts}
use Rattle.promises.proofs.PromiseLaws.{opened}
use Rattle.round_trip.specs.RoundTrip.{chars_shown, ShowsText}

-- The chars of one of two runs are those of the one or of the other.
pub chars-of : {A : Type 0} (chars_of : A → List ℕ) (t : Bool) (a p : A) {r : A} → r ≡ cond t a p → chars_of r ≡ cond t (chars_of a) (chars_of p)
chars-of chars_of true a p is = ap chars_of is
chars-of chars_of false a p is = ap chars_of is

module _ {contents bodies : List ℕ} {row : ℕ} {r : TextAnswer} (texts : Texts contents bodies row r) where
  -- The number by the drawing of the table.
  number_is : (d : Drawing) → IsTable contents bodies d → r.number ≡ (text_asked row d).answer.number
  number_is d t = ap (λ (g : TextGiven). g.answer.number) ((opened texts.decides).one d t)

  -- ---- a refusal

  no_wording : (start v before : ℕ) (t : Option Text) → ((text_places start v (or_refusal 7 (map (λ u. (before, u)) t))).answer.number ≡ 0 → ⊥) → [] ≡ chars_shown (or_refusal 7 t)
  no_wording start v before none gone = refl
  no_wording start v before (some t) gone = absurd (gone refl)

  no_chars : (start v : ℕ) (x : Option Object) → ((text_places start v (part_at (text_part v) x)).answer.number ≡ 0 → ⊥) → [] ≡ chars_shown (part_at (leaf_part wording) x)
  no_chars start v none gone = refl
  no_chars start v (some (leaf l d)) gone = no_wording start v (before_style v l) (wording l) gone
  no_chars start v (some (group os d)) gone = refl

  pub shows_none : (r.number ≡ 0 → ⊥) → ShowsText contents bodies row []
  shows_none gone =
      record {
        decides =
            by-drawing (record {
              one = λ d t. no_chars (start_in (contents_of d) row) d.version (get_elem? (objects_of d) row) (λ on. gone (number_is d t ∙ on));
              none = λ none_has. refl;
              one-or-other = (opened texts.decides).one-or-other;
            });
      }

  -- ---- a text

  -- A row of a drawing with a text.
  record Here (d : Drawing) : Type 0 where
    object : Object
    text : Text
    object-is : get_elem? (objects_of d) row ≡ some object
    text-is : leaf_part wording object ≡ some text

  module _ (on : r.number ≡ 0) where
    module _ (d : Drawing) (table : IsTable contents bodies d) where
      of-object : (start v before : ℕ) (o : Object) → get_elem? (objects_of d) row ≡ some o → (t : Option Text) → leaf_part wording o ≡ t
          → (text_places start v (or_refusal 7 (map (λ u. (before, u)) t))).answer.number ≡ 0 → Here d
      of-object start v before o object-is none text-is number = absurd (omega (arith, number))
      of-object start v before o object-is (some t) text-is number = record { object = o; text = t; object-is = object-is; text-is = text-is }

      of_row : (start v : ℕ) (x : Option Object) → get_elem? (objects_of d) row ≡ x → (text_places start v (part_at (text_part v) x)).answer.number ≡ 0 → Here d
      of_row start v none object-is number = absurd (omega (arith, number))
      of_row start v (some (leaf l e)) object-is number = of-object start v (before_style v l) (leaf l e) object-is (wording l) refl number
      of_row start v (some (group os e)) object-is number = absurd (omega (arith, number))

      here : Here d
      here = of_row (start_in (contents_of d) row) d.version (get_elem? (objects_of d) row) refl (sym (number_is d table) ∙ on)

      placed : CharsAt bodies r.alternative (alternative_of here.text.style.latex) × CharsAt bodies r.text here.text.text
      placed = texts.places d here.object here.text table here.object-is here.text-is

    no_table_lem : {A : Type 0} → ((d : Drawing) → IsTable contents bodies d → ⊥) → A
    no_table_lem none_has = absurd (omega (arith, sym on ∙ ap (λ (g : TextGiven). g.answer.number) ((opened texts.decides).none none_has)))

    -- Both runs lie within the bodies.
    pub runs_inside : (r.alternative.start + r.alternative.length ≤ length bodies) × (r.text.start + r.text.length ≤ length bodies)
    runs_inside = elim (opened texts.decides).one-or-other [ inl t ↦ ((placed t.0 t.1).0.inside, (placed t.0 t.1).1.inside) | inr none_has ↦ no_table_lem none_has ]

    abbrev alternative : List ℕ
    alternative = take r.alternative.length (drop r.alternative.start bodies)

    abbrev plain : List ℕ
    plain = take r.text.length (drop r.text.start bodies)

    pub shows_chars : {chars : List ℕ} → chars ≡ shown (length alternative) alternative plain → ShowsText contents bodies row chars
    shows_chars is =
        record {
          decides =
              by-drawing (record {
                one = λ d t.
                    is
                    ∙ ap₂ (λ a p. shown (length a) a p) (placed d t).0.chars-are (placed d t).1.chars-are
                    ∙ sym (ap (λ x. chars_shown (part_at (leaf_part wording) x)) (here d t).object-is ∙ ap (λ x. chars_shown (or_refusal 7 x)) (here d t).text-is);
                none = no_table_lem;
                one-or-other = (opened texts.decides).one-or-other;
              });
        }
