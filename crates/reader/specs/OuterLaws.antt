-- The laws of the outer group, with which a file has to end.
use Rattle.std.specs.Prelude.{◌≡◌, refl, Bool, true, false, cond, ℕ, ◌+◌, ◌-◌, ◌<◌, ◌≤◌, List, [], ◌∷◌, eqb, leb, length, drop}
use Rattle.std.proofs.Common.{sym, ap, ◌∙◌, arith, length-drop, leb-true, leb-false, le-leb}
use Prim.Native.Char.{code}
use Rattle.format.specs.Digits.{Below}
use Rattle.format.specs.Kind.{Kind}
use Rattle.format.specs.Codec.{Outcome, found, refused, and_then}
use Rattle.format.specs.Parse.{parse}
use Rattle.drawing.specs.Reading.{bytes}
use Rattle.drawing.specs.Fields.{char_where}
use Rattle.drawing.specs.Object.{Object, group}
use Rattle.drawing.specs.ObjectLayout.{object, group_body}
use Rattle.drawing.specs.Drawing.{outer_group}
use Rattle.laws.specs.FileParseLaws.{outer-parse}
use Rattle.ways.specs.declared.Pass.{Pass}
use Rattle.ways.specs.Passes as Passes
use Rattle.ways.specs.Passes.{refusal_of}
use Rattle.rows.specs.declared.walked.Walked.{Walked}
use Rattle.from_file.specs.Way.{way}
use Rattle.reader.specs.Descents.{Stands, Descends, object_part, group_at, DescendsGroup}
use Rattle.reader.specs.FieldsAt.{number_at, fault_at, cut-here, fault_here, value_here}
use Rattle.reader.specs.BodyLaws.{Over, descends_over, descends_gone, descends_met, descends_stopped}
use Rattle.reader.specs.ObjectLaws.{behind_id, descends_before, stopped-here}

-- What is found has to end the file.
abbrev pub whole : {A : Type 0} → Outcome A → Outcome A
whole (found a []) = found a []
whole (found a (b ∷ rest)) = refused 13 (b ∷ rest)
whole (refused n place) = refused n place

abbrev pub outer_at : (file : List ℕ) (version at : ℕ) → Outcome Object
outer_at file v at = whole (and_then (parse bytes (outer_group v) (drop at file)) (λ (os, d) rest. found (group os d) rest))

abbrev pub DescendsOuter : (file : List ℕ) (version at to : ℕ) (cs bs cs' bs' : List ℕ) → Walked → Type 0
DescendsOuter file v at to cs bs cs' bs' r = Descends (object_part v 0 0 to) (outer_at file v at) file cs bs cs' bs' at 0 to r

-- The outer object has to be a group.
abbrev pub outer_id : Kind
outer_id = char_where (λ c. eqb c (code "G"))

whole_more : {A : Type 0} (a : A) (us : List ℕ) → 0 < length us → whole (found a us) ≡ refused 13 us
whole_more a [] some = absurd (omega arith)
whole_more a (b ∷ us) some = refl

whole-all : {A : Type 0} (a : A) (us : List ℕ) → length us ≡ 0 → whole (found a us) ≡ found a us
whole-all a [] none = refl
whole-all a (b ∷ us) none = absurd (omega arith)

module _ (file : List ℕ) (below : Below 256 file) (v at to : ℕ) (cs bs : List ℕ) (stands : Stands (length file) at 0 to) where
  by_id : (o : Outcome ℕ) → bytes.read outer_id (drop at file) ≡ o
      → outer_at file v at ≡ whole (and_then (and_then o (λ c rest. parse bytes (group_body v (object v 15)) rest)) (λ (os, d) rest. found (group os d) rest))
  by_id o is =
      ap (λ o. whole (and_then o (λ (os, d) rest. found (group os d) rest))) (outer-parse v (drop at file))
      ∙ ap (λ o. whole (and_then (and_then o (λ c rest. parse bytes (group_body v (object v 15)) rest)) (λ (os, d) rest. found (group os d) rest))) is

  pub outer-refused : {n : ℕ} {p : Pass} {r : Walked} → n ≡ fault_at outer_id file at → 0 < n → p ≡ refusal_of way n at → r ≡ record { row = 0; at = p.at; to = p.to } → DescendsOuter file v at to cs bs cs bs r
  outer-refused {n} is some refusal_is r-is = descends_stopped (by_id (refused n (drop at file)) (by (leb (at + 2) (length file)) refl)) (stopped-here stands.inside refusal_is r-is)
    where
      by : (t : Bool) → leb (at + 2) (length file) ≡ t → bytes.read outer_id (drop at file) ≡ refused n (drop at file)
      by true e = fault_here file below outer_id refl at (leb-true (at + 2) (length file) e) n (sym (is ∙ ap (λ t. cond t (outer_id.fault (number_at 2 file at)) 2) e)) some
      by false e =
          let cut : n ≡ 2 = is ∙ ap (λ t. cond t (outer_id.fault (number_at 2 file at)) 2) e in
          cut-here file below outer_id refl at stands.inside (leb-false (at + 2) (length file) e) ∙ ap (λ k. refused k (drop at file)) (sym cut)

  module _ (fine : fault_at outer_id file at ≡ 0) where
    id_inside : at + 2 ≤ length file
    id_inside = by (leb (at + 2) (length file)) refl
      where
        by : (t : Bool) → leb (at + 2) (length file) ≡ t → at + 2 ≤ length file
        by true e = leb-true (at + 2) (length file) e
        by false e = let two : ◌≡◌ {A = ℕ} 2 0 = ap (λ t. cond t (outer_id.fault (number_at 2 file at)) 2) (sym e) ∙ fine in absurd (omega arith)

    pub outer_stands : Stands (length file) (at + 2) 0 to
    outer_stands = behind_id stands id_inside

    as_group : outer_at file v at ≡ whole (group_at file v 15 (at + 2))
    as_group =
        let faultless : outer_id.fault (number_at 2 file at) ≡ 0 = ap (λ t. cond t (outer_id.fault (number_at 2 file at)) 2) (sym (le-leb (at + 2) (length file) id_inside)) ∙ fine in
        by_id (found (number_at 2 file at) (drop (at + 2) file)) (value_here file below outer_id refl at id_inside faultless)

    module _ {cs' bs' : List ℕ} {s : Walked} (descends : DescendsGroup file v 15 0 (at + 2) 0 to cs bs cs' bs' s) where
      pub outer-stop : Passes.refused ≤ s.at → DescendsOuter file v at to cs bs cs' bs' s
      outer-stop off =
          let g = descends_gone stands.short descends off in
          descends_stopped (as_group ∙ ap (λ o. whole o) g.parsed) g.stopped

      module _ (on : s.at < Passes.refused) where
        over : Over (object_part v 0 0 to) (group_at file v 15 (at + 2)) file cs bs cs' bs' (at + 2) 0 to s
        over = descends_over stands.short descends on

        pub outer-inside : s.at ≤ length file
        outer-inside = over.here.inside

        pub outer_trailing : {p : Pass} {r : Walked} → s.at < length file → p ≡ refusal_of way 13 s.at → r ≡ record { row = 0; at = p.at; to = p.to } → DescendsOuter file v at to cs bs cs' bs' r
        outer_trailing more refusal_is r-is =
            let some_left : 0 < length (drop s.at file) = rw length-drop (omega arith) in
            descends_stopped (as_group ∙ ap (λ o. whole o) over.parsed ∙ whole_more over.value (drop s.at file) some_left) (stopped-here outer-inside refusal_is r-is)

        pub outer-ends : length file ≤ s.at → DescendsOuter file v at to cs bs cs' bs' s
        outer-ends all =
            let none_left : length (drop s.at file) ≡ 0 = rw length-drop (omega arith) in
            descends_before (omega arith) refl
            (descends_met (as_group ∙ ap (λ o. whole o) over.parsed ∙ whole-all over.value (drop s.at file) none_left) over.here)
