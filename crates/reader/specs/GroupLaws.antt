-- The laws of a group: its count, its members, behind them its own body, and last its row.
use Rattle.std.specs.Prelude.{◌≡◌, refl, Bool, true, false, ℕ, suc, ◌+◌, ◌-◌, ◌*◌, ◌^◌, ◌<◌, ◌≤◌, List, ltb, length, drop}
use Rattle.std.proofs.Common.{sym, ap, ap₂, ◌∙◌, add-one, arith, length-append, ltb-true, ltb-false}
use Rattle.format.specs.Digits.{Below, digits}
use Rattle.format.specs.DigitsLaws.{length_digits}
use Rattle.format.specs.Kind as K
use Rattle.format.specs.LeafLaws.{below_drop}
use Rattle.format.specs.Codec.{Outcome, found, refused, and_then}
use Rattle.format.specs.FormatLaws.{each-length}
use Rattle.format.specs.FixedLayoutLaws.{parsed_spelt}
use Rattle.format.specs.Layout.{field, repeat}
use Rattle.format.specs.Parse.{parse}
use Rattle.format.specs.ParsingLaws.{and_then_and_then, and_then_same, parse-field}
use Rattle.format.specs.Pass.{put}
use Rattle.drawing.specs.Codecs.{byte_fields}
use Rattle.drawing.specs.Reading.{bytes}
use Rattle.drawing.specs.Fields.{member_count}
use Rattle.drawing.specs.String.{String}
use Rattle.drawing.specs.Object.{Object, group, of_list, list_of}
use Rattle.drawing.specs.ObjectLaws.{list_of_list}
use Rattle.drawing.specs.LeafLayout.{object_end}
use Rattle.drawing.specs.ObjectLayout.{object}
use Rattle.drawing.specs.Table.{words_of, group_kind, group_words, row_width, row as row_words, bodies_all, contents_all}
use Rattle.laws.specs.CodecLaws.{bytes_sensible}
use Rattle.laws.specs.ParseLaws.{group_parse}
use Rattle.ways.specs.declared.FieldPass.{FieldPass}
use Rattle.ways.specs.Passes as Passes
use Rattle.ways.specs.Written.{Writes, put_written, both-written, before-written, same-written}
use Rattle.ways.specs.FoundLaws.{Found, field_found, field_unfound}
use Rattle.rows.specs.declared.walked.Walked.{Walked}
use Rattle.from_file.specs.Way.{way}
use Rattle.layout.specs.Lays.{Counts}
use Rattle.reader.specs.Descents.{Stands, Rowed, group_at, members_at, members_part, DescendsMembers, DescendsGroup}
use Rattle.reader.specs.BodyLaws.{Over, descends_over, descends_gone, descends_met, descends_stopped, Body, body_met, body-stopped}

-- The group, as its parts parse.
abbrev from_end : (v : ℕ) → List Object → List ℕ → Outcome Object
from_end v os us = and_then (parse bytes (object_end v) us) (λ d rest. found (group (of_list os) d) rest)

abbrev from_members : (v deep n : ℕ) → List ℕ → Outcome Object
from_members v deep n us = and_then (parse bytes (repeat n (object v deep)) us) (λ os rest. from_end v os rest)

as_group : (file : List ℕ) (v deep at : ℕ) → group_at file v deep at ≡ and_then (parse bytes (field member_count) (drop at file)) (λ n rest. from_members v deep n rest)
as_group file v deep at =
    ap (λ o. and_then o (λ (os, d) rest. found (group os d) rest)) (group_parse v (object v deep) (drop at file))
    ∙ and_then_and_then (bytes.read member_count (drop at file)) (λ n rest. and_then (parse bytes (repeat n (object v deep)) rest) (λ os rest₂. and_then (parse bytes (object_end v) rest₂) (λ d rest₃. found (of_list os, d) rest₃)))
    (λ (os, d) rest. found (group os d) rest)
    ∙ and_then_same (bytes.read member_count (drop at file)) (λ n rest.
    and_then_and_then (parse bytes (repeat n (object v deep)) rest) (λ os rest₂. and_then (parse bytes (object_end v) rest₂) (λ d rest₃. found (of_list os, d) rest₃)) (λ (os, d) rest. found (group os d) rest)
    ∙ and_then_same (parse bytes (repeat n (object v deep)) rest) (λ os rest₂.
    and_then_and_then (parse bytes (object_end v) rest₂) (λ d rest₃. found (of_list os, d) rest₃) (λ (os, d) rest. found (group os d) rest)))
    ∙ ap (λ o. and_then o (λ n rest. from_members v deep n rest)) (sym (parse-field bytes member_count (drop at file)))

module _ (file : List ℕ) (below : Below 256 file) (v deep parent at row to : ℕ) (cs bs : List ℕ) (stands : Stands (length file) at row to)
    {none none' : List ℕ} {q : FieldPass} (counts : Counts way 0 file none none' at to q) where
  pub group_refused : {r : Walked} → Passes.refused ≤ q.pass.at → r ≡ record { row = row; at = q.pass.at; to = q.pass.to } → DescendsGroup file v deep parent at row to cs bs cs bs r
  group_refused off is =
      let u = field_unfound way bytes_sensible file below member_count stands.inside (counts.asks K.integer refl refl) off in
      descends_stopped
      (as_group file v deep at ∙ ap (λ o. and_then o (λ n rest. from_members v deep n rest)) u.parsed)
      (record { at-is = ap (λ (r : Walked). r.at) is ∙ u.at-is; to_is = ap (λ (r : Walked). r.to) is ∙ u.to_is })

  module _ (on : q.pass.at < Passes.refused) where
    counted : Found (field member_count) way file none none' at to q.pass.at q.pass.to q.value
    counted = field_found way bytes_sensible file below member_count stands.inside (counts.asks K.integer refl refl) on

    four : q.pass.at ≡ at + 4
    four = counted.at-is ∙ ap (λ n. at + n) (length_digits 256 4 q.value)

    -- The members begin behind the count.
    pub group_members : Stands (length file) q.pass.at (row + 1) to
    group_members =
        record { short = stands.short; inside = counted.inside; few-rows = omega (arith, four, stands.few-rows); few_words = omega (arith, four, stands.few_words) }

    from-members : group_at file v deep at ≡ from_members v deep q.value (drop q.pass.at file)
    from-members = as_group file v deep at ∙ ap (λ o. and_then o (λ n rest. from_members v deep n rest)) counted.parsed

    module _ {cs₁ bs₁ : List ℕ} {s : Walked} (members : DescendsMembers file v deep row q.value q.pass.at (row + 1) to cs bs cs₁ bs₁ s) where
      pub group_stop : Passes.refused ≤ s.at → DescendsGroup file v deep parent at row to cs bs cs₁ bs₁ s
      group_stop off =
          let g = descends_gone stands.short members off in
          descends_stopped (from-members ∙ ap (λ o. and_then o (λ os rest. from_end v os rest)) g.parsed) g.stopped

      module _ (inner : s.at < Passes.refused) where
        over : Over (members_part v row (row + 1) to) (members_at file v deep q.value q.pass.at) file cs bs cs₁ bs₁ q.pass.at (row + 1) to s
        over = descends_over stands.short members inner

        -- The group's own body begins with its count, behind the words of the members.
        pub group_tail : Stands (length file) s.at s.row (s.to + 1)
        group_tail =
            let here = over.here in
            record {
              short = stands.short;
              inside = here.inside;
              few-rows = omega (arith, here.few-rows, four, stands.few-rows);
              few_words = omega (arith, here.few_words, four, stands.few_words);
            }

        pub row_before : row ≤ s.row
        row_before = omega (arith, over.here.row_is)

        from_end_lem : group_at file v deep at ≡ from_end v over.value (drop s.at file)
        from_end_lem = from-members ∙ ap (λ o. and_then o (λ os rest. from_end v os rest)) over.parsed

        -- There are as many members as the count says.
        as_many : length (list_of (of_list over.value)) ≡ q.value
        as_many =
            ap length (list_of_list over.value)
            ∙ each-length (λ t. (object v deep).Good) (λ t a. t) q.value tt over.value
            (parsed_spelt byte_fields bytes_sensible (repeat q.value (object v deep)) (drop q.pass.at file) (below_drop 256 q.pass.at file below) over.value (drop s.at file) over.parsed).good

        module _ {cs₂ bs₂ : List ℕ} {r : Walked}
            (rowed : Rowed (object_end v) group_kind parent s.to row s.row file cs₁ (put s.to (digits (2 ^ 32) 1 q.value) bs₁) cs₂ bs₂ s.at (s.to + 1) r) where
          own_written : (d : String) → Writes (s.to + 1) (words_of (object_end v) d) (put s.to (digits (2 ^ 32) 1 q.value) bs₁) bs₂ → Writes s.to (group_words v (length (list_of (of_list over.value))) d) bs₁ bs₂
          own_written d written =
              same-written (ap (λ n. group_words v n d) (sym as_many))
              (both-written (ap (λ n. s.to + n) (sym (length_digits (2 ^ 32) 1 q.value))) (put_written (digits (2 ^ 32) 1 q.value) refl) written)

          group_met : (d : String) → Body below group_tail.inside rowed d → DescendsGroup file v deep parent at row to cs bs cs₂ bs₂ r
          group_met d b =
              let f = b.found-is in
              let here = over.here in
              let os = of_list over.value in
              let own = group_words v (length (list_of os)) d in
              let own-size : length own ≡ suc (length (words_of (object_end v) d)) = refl in
              let sum = length-append (bodies_all os v) own in
              let size_is : r.to - s.to ≡ length own = omega (arith, f.to_is, own-size) in
              let row_is : row_words group_kind parent s.to (r.to - s.to) ≡ row_words group_kind parent (to + length (bodies_all os v)) (length own) =
              ap₂ (λ i j. row_words group_kind parent i j) here.to_is size_is in
              let behind-row : row_width * (row + 1) ≡ row_width * row + 4 = omega arith in
              descends_met (from_end_lem ∙ ap (λ o. and_then o (λ d rest. found (group os d) rest)) f.parsed)
              (record {
                rest-is = refl;
                inside = f.inside;
                row_is = omega (arith, b.row_is, here.row_is);
                to_is = omega (arith, f.to_is, here.to_is, own-size, sum);
                rows_written = before-written behind-row (same-written (ap (λ n. contents_all os v row n to) (add-one row)) here.rows_written) (same-written row_is b.row_written);
                words-written = both-written here.to_is here.words-written (own_written d f.written);
                few-rows = omega (arith, b.row_is, b.few, here.few-rows, four);
                few_words = omega (arith, f.to_is, b.few, here.few_words, four);
              })

          pub group_descends : DescendsGroup file v deep parent at row to cs bs cs₂ bs₂ r
          group_descends = by (ltb r.at Passes.refused) refl
            where
              by : (t : Bool) → ltb r.at Passes.refused ≡ t → DescendsGroup file v deep parent at row to cs bs cs₂ bs₂ r
              by true e =
                  let m = body_met below group_tail.inside rowed (ltb-true r.at Passes.refused e) in
                  group_met m.0 m.1
              by false e =
                  let g = body-stopped below group_tail.inside rowed (ltb-false r.at Passes.refused e) in
                  descends_stopped (from_end_lem ∙ ap (λ o. and_then o (λ d rest. found (group (of_list over.value) d) rest)) g.parsed) g.stopped
