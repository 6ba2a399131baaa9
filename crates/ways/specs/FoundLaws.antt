-- A pass over a layout that went on has found a value, which is kept where it fits; one that did not has found none.
use Rattle.std.specs.Prelude.{◌≡◌, refl, ℕ, ◌+◌, ◌-◌, ◌<◌, ◌≤◌, List, length, drop}
use Rattle.std.proofs.Common.{sym, ap, subst, ◌∙◌, arith, length-append, length-drop, drop_at, drop-drop}
use Rattle.format.specs.Digits.{Below}
use Rattle.format.specs.Kind.{Kind}
use Rattle.format.specs.LeafLaws.{below_drop}
use Rattle.format.specs.Codec.{Outcome, found}
use Rattle.format.specs.Codec as C
use Rattle.format.specs.FixedCodec.{spell_fixed}
use Rattle.format.specs.FixedCodecLaws.{Sensible}
use Rattle.format.specs.FixedLayoutLaws.{parsed_spelt, spelt_length}
use Rattle.format.specs.Layout.{Layout, field, encode}
use Rattle.format.specs.Parse.{parse}
use Rattle.format.specs.ParsingLaws.{parse-field}
use Rattle.ways.specs.declared.FieldPass.{FieldPass}
use Rattle.ways.specs.Way.{Way, codec}
use Rattle.ways.specs.Passes.{refused}
use Rattle.ways.specs.Carries.{Laid, Asked}
use Rattle.ways.specs.LayoutLaws.{valued-laid}
use Rattle.ways.specs.Written.{Writes}
use Rattle.ways.specs.LandLaws.{reading, encoded, Landed, Lands, lands, Takes, takes}

-- A value stands at the place.
pub record Found {A : Type 0} (L : Layout A) (W : Way) (us m m' : List ℕ) (at to at' to' : ℕ) (a : A) : Type 0 where
  pub parsed : parse (reading W) L (drop at us) ≡ found a (drop at' us)
  pub good : L.Good a
  pub at-is : at' ≡ at + length (encode (spell_fixed (codec W.source)) L a)
  pub inside : at' ≤ length us
  pub to_is : to' ≡ to + length (encoded W L a)
  pub written : Writes to (encoded W L a) m m'

-- None does.
pub record Unfound {A : Type 0} (L : Layout A) (W : Way) (us : List ℕ) (at at' to' : ℕ) : Type 0 where
  pub n : ℕ
  pub place : List ℕ
  pub parsed : parse (reading W) L (drop at us) ≡ C.refused n place
  pub at-is : at' ≡ W.place (length us - length place) + refused
  pub to_is : to' ≡ W.number n

module _ (W : Way) (sensible : Sensible (codec W.source)) (us : List ℕ) (below : Below W.source.base us) where
  module _ {A : Type 0} (L : Layout A) {m m' : List ℕ} {at to at' to' : ℕ} (inside : at ≤ length us) (laid : Laid L.format W us m m' at to at' to') where
    found_here : (a : A) (rest : List ℕ) → parse (reading W) L (drop at us) ≡ found a rest → Landed L W us m m' to at' to' a rest → Found L W us m m' at to at' to' a
    found_here a rest e landed =
        let front = encode (spell_fixed (codec W.source)) L a in
        let g = parsed_spelt (codec W.source) sensible L (drop at us) (below_drop W.source.base at us below) a rest e in
        let long : length us - at ≡ length front + length rest = sym (length-drop at us) ∙ spelt_length g in
        let sum : length us - at ≡ length g.front + length rest = sym (length-drop at us) ∙ ap length g.split ∙ length-append g.front rest in
        let at-is : at' ≡ at + length front = omega (arith, landed.at-is) in
        let place : at + length g.front ≡ at' = omega (arith, landed.at-is) in
        let rest-is : rest ≡ drop at' us =
        sym (drop_at g.front rest (length g.front) refl)
        ∙ ap (drop (length g.front)) (sym g.split)
        ∙ drop-drop (length g.front) at us
        ∙ ap (λ n. drop n us) place in
        record {
          parsed = e ∙ ap (λ us. found a us) rest-is;
          good = g.good;
          at-is = at-is;
          inside = omega (arith, landed.at-is);
          to_is = landed.to_is;
          written = record { stands = landed.stands; same_length = laid.carried.same_length };
        }

    pub laid-found : at' < refused → (a : A) × Found L W us m m' at to at' to' a
    laid-found on = by (parse (reading W) L (drop at us)) refl (lands L sensible below inside laid)
      where
        by : (o : Outcome A) → parse (reading W) L (drop at us) ≡ o → Lands L W us m m' to at' to' o → (a : A) × Found L W us m m' at to at' to' a
        by (found a rest) e landed = (a, found_here a rest e landed)
        by (C.refused n place) e failed = absurd (omega (arith, failed.at-is))

    pub laid_unfound : refused ≤ at' → Unfound L W us at at' to'
    laid_unfound off = by (parse (reading W) L (drop at us)) refl (lands L sensible below inside laid)
      where
        by : (o : Outcome A) → parse (reading W) L (drop at us) ≡ o → Lands L W us m m' to at' to' o → Unfound L W us at at' to'
        by (found a rest) e landed = absurd (omega (arith, landed.on))
        by (C.refused n place) e failed = record { n = n; place = place; parsed = e; at-is = failed.at-is; to_is = failed.to_is }

  -- A field, and its value.
  module _ (k : Kind) {m m' : List ℕ} {at to : ℕ} {q : FieldPass} (inside : at ≤ length us) (asked : Asked k W us m m' at to q) where
    pub field_found : q.pass.at < refused → Found (field k) W us m m' at to q.pass.at q.pass.to q.value
    field_found on =
        let f = laid-found (field k) inside (valued-laid asked) on in
        let t : Takes k W us m m' to q (found f.0 (drop q.pass.at us)) =
        subst (Takes k W us m m' to q) (sym (parse-field (reading W) k (drop at us)) ∙ f.1.parsed) (takes k sensible below inside asked) in
        subst (Found (field k) W us m m' at to q.pass.at q.pass.to) (sym t.0) f.1

    pub field_unfound : refused ≤ q.pass.at → Unfound (field k) W us at q.pass.at q.pass.to
    field_unfound off = laid_unfound (field k) inside (valued-laid asked) off
