-- The laws of an object: by its id it is a leaf, whose body is passed and then its row stored, or a group.
use Rattle.std.specs.Prelude.{◌≡◌, refl, Bool, true, false, cond, ℕ, zero, suc, ◌+◌, ◌-◌, ◌<◌, ◌≤◌, List, ltb, leb, eqb, length, drop}
use Rattle.std.proofs.Common.{sym, ap, ap₂, subst, ◌∙◌, true≢false, arith, ltb-true, ltb-false, leb-true, leb-false, eqb-true, eq-eqb, le-leb, ne_eqb}
use Rattle.std.proofs.lemmas.Bool.{false≢true}
use Prim.Native.Char.{code}
use Rattle.format.specs.Digits.{Below}
use Rattle.format.specs.Codec.{Outcome, found, refused, and_then}
use Rattle.format.specs.AlternativeLaws.{chosen_tells}
use Rattle.format.specs.PassLaws.{place-of}
use Rattle.format.specs.Parse.{parse}
use Rattle.drawing.specs.Reading.{bytes}
use Rattle.drawing.specs.Fields.{object_fault, object_id}
use Rattle.drawing.specs.String.{String}
use Rattle.drawing.specs.Object.{Leaf, leaf}
use Rattle.drawing.specs.ObjectId.{leaf_letter}
use Rattle.drawing.proofs.ObjectLaws.{group_no_leaf}
use Rattle.drawing.specs.LeafLayout.{path_case, other_cases, is_leaf, leaf_body}
use Rattle.drawing.specs.Table.{words_of, leaf_kind, leaf_words, row as row_words}
use Rattle.laws.specs.ParseLaws.{id_kind, object-refused, object_leaf, object_group}
use Rattle.ways.specs.declared.Pass.{Pass}
use Rattle.ways.specs.Passes as Passes
use Rattle.ways.specs.Passes.{refusal_of}
use Rattle.ways.specs.Written.{same-written}
use Rattle.drawing.specs.KindLaws.{kind_by_letter, leaf_kind_lem}
use Rattle.rows.specs.declared.walked.Walked.{Walked}
use Rattle.from_file.specs.Way.{way}
use Rattle.reader.specs.Descents.{Stands, Part, Stopped, Comes, Descends, Rowed, object_at, group_at, DescendsObject, DescendsGroup}
use Rattle.reader.specs.FieldsAt.{number_at, fault_at, cut-here, fault_here, value_here}
use Rattle.reader.specs.BodyLaws.{Body, body_met, body-stopped, descends_met, descends_stopped}

-- Where no group may stand, the id of a group is at fault.
abbrev pub leaf_fault : ℕ → (file : List ℕ) (at : ℕ) → ℕ
leaf_fault v file at = fault_at (object_id (is_leaf v) false) file at

-- The id of a group stands there, or not.
pub record GroupHere (file : List ℕ) (at : ℕ) (r : Bool) : Type 0 where
  pub yes : r ≡ true → (at + 2 ≤ length file) × (number_at 2 file at ≡ code "G")
  pub no : r ≡ false → at + 2 ≤ length file → number_at 2 file at ≡ code "G" → ⊥

module _ (file : List ℕ) (at : ℕ) where
  pub group_by : {c : ℕ} → at + 2 ≤ length file → c ≡ number_at 2 file at → GroupHere file at (eqb c (code "G"))
  group_by {c} inside is = record { yes = λ e. (inside, sym is ∙ eqb-true c (code "G") e); no = λ e h same. true≢false (sym (eq-eqb c (code "G") (is ∙ same)) ∙ e) }

  pub group_cut : length file < at + 2 → GroupHere file at false
  group_cut short = record { yes = λ e. absurd (false≢true e); no = λ e h same. omega arith }

-- Behind an id.
pub behind_id : {total at row to : ℕ} → Stands total at row to → at + 2 ≤ total → Stands total (at + 2) row to
behind_id stands inside =
    record { short = stands.short; inside = inside; few-rows = omega (arith, stands.few-rows); few_words = omega (arith, stands.few_words) }

-- A descent from a place before the one where it began in code, to the same.
pub descends_before : {A : Type 0} {part : A → Part} {o o' : Outcome A} {file cs bs cs' bs' : List ℕ} {at at' row to : ℕ} {r : Walked} → at ≤ at' → o ≡ o'
    → Descends part o' file cs bs cs' bs' at' row to r → Descends part o file cs bs cs' bs' at row to r
descends_before {A} {part} {o} {o'} {file} {cs} {bs} {cs'} {bs'} {at} {at'} {row} {to} {r} before same descends =
    record { comes = subst (Comes part file cs bs cs' bs' at row to r) (sym same) (by o' descends.comes) }
  where
    by : (q : Outcome A) → Comes part file cs bs cs' bs' at' row to r q → Comes part file cs bs cs' bs' at row to r q
    by (found a rest) met =
        record {
          rest-is = met.rest-is;
          inside = met.inside;
          row_is = met.row_is;
          to_is = met.to_is;
          rows_written = met.rows_written;
          words-written = met.words-written;
          few-rows = omega (arith, met.few-rows);
          few_words = omega (arith, met.few_words);
        }
    by (refused n place) stopped = stopped

-- A refusal at the place.
pub stopped-here : {file : List ℕ} {at row n : ℕ} {p : Pass} {r : Walked} → at ≤ length file → p ≡ refusal_of way n at → r ≡ record { row = row; at = p.at; to = p.to } → Stopped file r n (drop at file)
stopped-here {file} {at} inside refusal_is is =
    record {
      at-is = ap (λ (r : Walked). r.at) is ∙ ap (λ (p : Pass). p.at) refusal_is ∙ ap (λ p. p + Passes.refused) (sym (place-of file at inside));
      to_is = ap (λ (r : Walked). r.to) is ∙ ap (λ (p : Pass). p.to) refusal_is;
    }

module _ (file : List ℕ) (below : Below 256 file) (v at : ℕ) where
  -- ---- the id

  module _ (deeper : Bool) where
    id_cut : at ≤ length file → length file < at + 2 → bytes.read (object_id (is_leaf v) deeper) (drop at file) ≡ refused 2 (drop at file)
    id_cut inside short = cut-here file below (object_id (is_leaf v) deeper) refl at inside short

    id_bad : at + 2 ≤ length file → (n : ℕ) → (object_id (is_leaf v) deeper).fault (number_at 2 file at) ≡ n → 0 < n → bytes.read (object_id (is_leaf v) deeper) (drop at file) ≡ refused n (drop at file)
    id_bad inside n is some = fault_here file below (object_id (is_leaf v) deeper) refl at inside n is some

    id_good : at + 2 ≤ length file → (object_id (is_leaf v) deeper).fault (number_at 2 file at) ≡ 0 → bytes.read (object_id (is_leaf v) deeper) (drop at file) ≡ found (number_at 2 file at) (drop (at + 2) file)
    id_good inside fine = value_here file below (object_id (is_leaf v) deeper) refl at inside fine

  -- Where no group stands, it does not matter how deep one may nest.
  pub no_group : (deep : ℕ) → at ≤ length file → (at + 2 ≤ length file → number_at 2 file at ≡ code "G" → ⊥) → object_at file v deep at ≡ object_at file v 0 at
  no_group deep inside other = by (leb (at + 2) (length file)) refl
    where
      there : at + 2 ≤ length file → (l : Bool) → is_leaf v (number_at 2 file at) ≡ l → object_at file v deep at ≡ object_at file v 0 at
      there fits true leafy =
          let fine : (deeper : Bool) → (object_id (is_leaf v) deeper).fault (number_at 2 file at) ≡ 0 = λ deeper. ap (λ l. object_fault l (eqb (number_at 2 file at) (code "G")) deeper) leafy in
          object_leaf v deep (drop at file) (number_at 2 file at) (drop (at + 2) file) (id_good (ltb 0 deep) fits (fine (ltb 0 deep))) leafy
          ∙ sym (object_leaf v 0 (drop at file) (number_at 2 file at) (drop (at + 2) file) (id_good (ltb 0 0) fits (fine (ltb 0 0))) leafy)
      there fits false none =
          let bad : (deeper : Bool) → (object_id (is_leaf v) deeper).fault (number_at 2 file at) ≡ 7 =
          λ deeper. ap₂ (λ l g. object_fault l g deeper) none (ne_eqb (number_at 2 file at) (code "G") (other fits)) in
          object-refused v deep (drop at file) 7 (drop at file) (id_bad (ltb 0 deep) fits 7 (bad (ltb 0 deep)) (omega arith))
          ∙ sym (object-refused v 0 (drop at file) 7 (drop at file) (id_bad (ltb 0 0) fits 7 (bad (ltb 0 0)) (omega arith)))

      by : (t : Bool) → leb (at + 2) (length file) ≡ t → object_at file v deep at ≡ object_at file v 0 at
      by true e = there (leb-true (at + 2) (length file) e) (is_leaf v (number_at 2 file at)) refl
      by false e =
          let short = leb-false (at + 2) (length file) e in
          object-refused v deep (drop at file) 2 (drop at file) (id_cut (ltb 0 deep) inside short)
          ∙ sym (object-refused v 0 (drop at file) 2 (drop at file) (id_cut (ltb 0 0) inside short))

  -- ---- a leaf

  module _ (parent row to : ℕ) (cs bs : List ℕ) (stands : Stands (length file) at row to) where
    pub leaf_refused : {n : ℕ} {p : Pass} {r : Walked} → n ≡ leaf_fault v file at → 0 < n → p ≡ refusal_of way n at → r ≡ record { row = row; at = p.at; to = p.to } → DescendsObject file v 0 parent at row to cs bs cs bs r
    leaf_refused {n} is some refusal_is r-is = descends_stopped (object-refused v 0 (drop at file) n (drop at file) (by (leb (at + 2) (length file)) refl)) (stopped-here stands.inside refusal_is r-is)
      where
        by : (t : Bool) → leb (at + 2) (length file) ≡ t → bytes.read (id_kind v 0) (drop at file) ≡ refused n (drop at file)
        by true e = id_bad false (leb-true (at + 2) (length file) e) n (sym (is ∙ ap (λ t. cond t ((object_id (is_leaf v) false).fault (number_at 2 file at)) 2) e)) some
        by false e =
            let cut : n ≡ 2 = is ∙ ap (λ t. cond t ((object_id (is_leaf v) false).fault (number_at 2 file at)) 2) e in
            id_cut false stands.inside (leb-false (at + 2) (length file) e) ∙ ap (λ k. refused k (drop at file)) (sym cut)

    module _ (fine : leaf_fault v file at ≡ 0) where
      pub leaf_inside : at + 2 ≤ length file
      leaf_inside = by (leb (at + 2) (length file)) refl
        where
          by : (t : Bool) → leb (at + 2) (length file) ≡ t → at + 2 ≤ length file
          by true e = leb-true (at + 2) (length file) e
          by false e = let two : ◌≡◌ {A = ℕ} 2 0 = ap (λ t. cond t ((object_id (is_leaf v) false).fault (number_at 2 file at)) 2) (sym e) ∙ fine in absurd (omega arith)

      pub leaf_stands : Stands (length file) (at + 2) row to
      leaf_stands = behind_id stands leaf_inside

      faultless : (object_id (is_leaf v) false).fault (number_at 2 file at) ≡ 0
      faultless = ap (λ t. cond t ((object_id (is_leaf v) false).fault (number_at 2 file at)) 2) (sym (le-leb (at + 2) (length file) leaf_inside)) ∙ fine

      leafy : is_leaf v (number_at 2 file at) ≡ true
      leafy = by (is_leaf v (number_at 2 file at)) (eqb (number_at 2 file at) (code "G")) refl faultless
        where
          by : (l g : Bool) → is_leaf v (number_at 2 file at) ≡ l → object_fault l g false ≡ 0 → is_leaf v (number_at 2 file at) ≡ true
          by true g is e = is
          by false true is e = absurd (omega arith)
          by false false is e = absurd (omega arith)

      as_leaf : object_at file v 0 at ≡ and_then (parse bytes (leaf_body v (number_at 2 file at)) (drop (at + 2) file)) (λ (l, d) rest. found (leaf l d) rest)
      as_leaf = object_leaf v 0 (drop at file) (number_at 2 file at) (drop (at + 2) file) (id_good false leaf_inside faultless) leafy

      module _ {letter : ℕ} (is : letter ≡ number_at 2 file at) {cs' bs' : List ℕ} {r : Walked}
          (rowed : Rowed (leaf_body v letter) (kind_by_letter letter) parent to row (row + 1) file cs bs cs' bs' (at + 2) to r) where
        as_body : object_at file v 0 at ≡ and_then (parse bytes (leaf_body v letter) (drop (at + 2) file)) (λ (l, d) rest. found (leaf l d) rest)
        as_body = as_leaf ∙ ap (λ c. and_then (parse bytes (leaf_body v c) (drop (at + 2) file)) (λ (l, d) rest. found (leaf l d) rest)) (sym is)

        leaf_met : (a : Leaf × String) → Body below leaf_inside rowed a → DescendsObject file v 0 parent at row to cs bs cs' bs' r
        leaf_met (l, d) b =
            let f = b.found-is in
            let tells : leaf_letter l ≡ letter = chosen_tells (path_case v) (other_cases v) letter l (ap (is_leaf v) is ∙ leafy) f.good.0 in
            let words_are : words_of (leaf_body v letter) (l, d) ≡ leaf_words v l d = ap (λ c. words_of (leaf_body v c) (l, d)) (sym tells) in
            let kind-is : kind_by_letter letter ≡ leaf_kind l = ap kind_by_letter (sym tells) ∙ leaf_kind_lem l in
            let long = ap length words_are in
            let size_is : r.to - to ≡ length (leaf_words v l d) = omega (arith, f.to_is, long) in
            descends_met (as_body ∙ ap (λ o. and_then o (λ (l, d) rest. found (leaf l d) rest)) f.parsed)
            (record {
              rest-is = refl;
              inside = f.inside;
              row_is = b.row_is;
              to_is = omega (arith, f.to_is, long);
              rows_written = same-written (ap₂ (λ k n. row_words k parent to n) kind-is size_is) b.row_written;
              words-written = same-written words_are f.written;
              few-rows = omega (arith, b.row_is, b.few);
              few_words = omega (arith, f.to_is, b.few);
            })

        pub leaf_descends : DescendsObject file v 0 parent at row to cs bs cs' bs' r
        leaf_descends = by (ltb r.at Passes.refused) refl
          where
            by : (t : Bool) → ltb r.at Passes.refused ≡ t → DescendsObject file v 0 parent at row to cs bs cs' bs' r
            by true e =
                let m = body_met below leaf_inside rowed (ltb-true r.at Passes.refused e) in
                leaf_met m.0 m.1
            by false e =
                let g = body-stopped below leaf_inside rowed (ltb-false r.at Passes.refused e) in
                descends_stopped (as_body ∙ ap (λ o. and_then o (λ (l, d) rest. found (leaf l d) rest)) g.parsed) g.stopped

  -- ---- an object

  module _ {parent row to : ℕ} {cs bs cs' bs' : List ℕ} {r : Walked} (stands : Stands (length file) at row to) where
    -- No group may stand there, or none does.
    pub object_as_leaf : (deep : ℕ) → (0 < deep → at + 2 ≤ length file → number_at 2 file at ≡ code "G" → ⊥) → DescendsObject file v 0 parent at row to cs bs cs' bs' r → DescendsObject file v deep parent at row to cs bs cs' bs' r
    object_as_leaf zero other descends = descends
    object_as_leaf (suc deep) other descends = descends_before (omega arith) (no_group (suc deep) stands.inside (other (omega arith))) descends

    pub object_as_group : (deep : ℕ) → 0 < deep → (at + 2 ≤ length file) × (number_at 2 file at ≡ code "G") → DescendsGroup file v (deep - 1) parent (at + 2) row to cs bs cs' bs' r → DescendsObject file v deep parent at row to cs bs cs' bs' r
    object_as_group zero some here descends = absurd (omega arith)
    object_as_group (suc deep) some (inside, is) descends =
        let less : suc deep - 1 ≡ deep = omega arith in
        let fine : (object_id (is_leaf v) true).fault (number_at 2 file at) ≡ 0 = ap (λ c. (object_id (is_leaf v) true).fault c) is ∙ ap (λ t. object_fault t true true) (group_no_leaf v) in
        descends_before (omega arith)
        (object_group v deep (drop at file) (drop (at + 2) file) (id_good true inside fine ∙ ap (λ c. found c (drop (at + 2) file)) is) ∙ ap (λ n. group_at file v n (at + 2)) (sym less))
        descends
