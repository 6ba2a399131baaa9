-- What a pass over a part of a body comes to.
use Rattle.std.specs.Prelude.{◌≡◌, ℕ, ◌+◌, ◌-◌, ◌^◌, ◌<◌, ◌≤◌, List, length, drop}
use Rattle.std.proofs.Common.{sym, ap, subst, ◌∙◌, arith, length-append, length-drop}
use Rattle.format.specs.Digits.{Below}
use Rattle.format.specs.Codec.{found}
use Rattle.format.specs.FixedLayoutLaws.{parse-encoded}
use Rattle.format.specs.Layout.{Layout}
use Rattle.format.specs.Parse.{parse}
use Rattle.drawing.specs.Reading as Reading
use Rattle.drawing.specs.Codecs.{word_fields}
use Rattle.drawing.specs.Table.{words_of}
use Rattle.laws.specs.CodecLaws.{words_sensible}
use Rattle.laws.specs.Standing.{Here}
use Rattle.ways.specs.Passes.{refused}
use Rattle.ways.specs.Carries.{Laid}
use Rattle.ways.specs.LandLaws.{Landed, Lands, lands}
use Rattle.from_table.specs.Way.{way}
use Rattle.places.specs.declared.Part.{Part}
use Rattle.places.specs.Places.{Passed}
use Rattle.places.specs.Parts.{layout_of}

pub this_part : {part part' : Part} (v : ℕ) {us m m' : List ℕ} {at to at' to' : ℕ} → part ≡ part'
    → Laid (layout_of part' v).format way us m m' at to at' to' → Laid (layout_of part v).format way us m m' at to at' to'
this_part v {us} {m} {m'} {at} {to} {at'} {to'} same laid = subst (λ x. Laid (layout_of x v).format way us m m' at to at' to') (sym same) laid

module _ {A : Type 0} (L : Layout A) {ws m m' : List ℕ} {at to at' to' : ℕ} (below : Below (2 ^ 32) ws) (inside : at ≤ length ws) (laid : Laid L.format way ws m m' at to at' to') where
  -- Whatever the layout, a pass over the words from a place where a good value stands ends right behind it.
  behind-here : (a : A) → Here L ws at a → (at' < refused) × (at' ≡ at + length (words_of L a))
  behind-here a here =
      let parsed : parse Reading.words L (drop at ws) ≡ found a here.rest = ap (parse Reading.words L) here.stands.words_are ∙ parse-encoded word_fields words_sensible L a here.good here.rest in
      let landed : Landed L way ws m m' to at' to' a here.rest = subst (Lands L way ws m m' to at' to') parsed (lands L words_sensible below inside laid) in
      let long : length ws - at ≡ length (words_of L a) + length here.rest = sym (length-drop at ws) ∙ ap length here.stands.words_are ∙ length-append (words_of L a) here.rest in
      (landed.on, omega (arith, landed.at-is, inside))

  pub passed : at' < refused → Passed L ws at at'
  passed on = record { is = λ a here. (behind-here a here).1; inside = laid.carried.ready.inside on }

  pub not_passed : refused ≤ at' → Passed L ws at at
  not_passed gone = record { is = λ a here. absurd (omega (arith, gone, (behind-here a here).0)); inside = inside }
