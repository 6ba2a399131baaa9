-- The laws of the descent over a whole file: behind its head the version's word, the settings, and the outer group.
use Rattle.std.specs.Prelude.{◌≡◌, ℕ, ◌-◌, ◌^◌, ◌<◌, ◌≤◌, List, [], ◌∷◌, length, drop}
use Rattle.std.proofs.Common.{sym, ap, subst, ◌∙◌, arith, length-append, length-drop}
use Rattle.format.specs.Digits.{Below, digits}
use Rattle.format.specs.Codec.{Outcome, found, refused, and_then}
use Rattle.format.specs.Parse.{parse}
use Rattle.format.specs.Pass.{put}
use Rattle.drawing.specs.Reading.{bytes, refusal, reading, drawing_of}
use Rattle.drawing.specs.String.{String}
use Rattle.drawing.specs.Object.{Objects, group}
use Rattle.drawing.specs.Settings.{Settings, settings}
use Rattle.drawing.specs.Drawing.{outer_group}
use Rattle.drawing.specs.Table.{words_of, bodies, contents}
use Rattle.laws.specs.CodecLaws.{bytes_sensible}
use Rattle.laws.specs.SizeLaws.{words-few}
use Rattle.laws.specs.FileParseLaws.{from_settings}
use Rattle.ways.specs.declared.Pass.{Pass}
use Rattle.ways.specs.declared.FieldPass.{FieldPass}
use Rattle.ways.specs.Passes as Passes
use Rattle.ways.specs.Passes.{Ready}
use Rattle.ways.specs.Carries.{Laid}
use Rattle.ways.specs.Written.{Writes, put_written, both-written, same-written}
use Rattle.ways.specs.FoundLaws.{Found, laid-found, laid_unfound}
use Rattle.rows.specs.Stores.{word_digit}
use Rattle.rows.specs.declared.walked.Walked.{Walked}
use Rattle.from_file.specs.Way.{way}
use Rattle.reader.specs.Descents.{Stands, Comes, object_part}
use Rattle.reader.specs.Heads.{Begun, Heads}
use Rattle.reader.specs.OuterLaws.{whole, DescendsOuter}
use Rattle.reader.specs.Files.{Refused, ComesFile, DescendsFile}

file-refused : {file cs bs cs' bs' : List ℕ} {n offset : ℕ} {r : Walked} → drawing_of file ≡ refusal n offset → Refused n offset r → DescendsFile file cs bs cs' bs' r
file-refused {file} {cs} {bs} {cs'} {bs'} {n} {offset} {r} is lost = record { comes = subst (ComesFile file cs bs cs' bs' r) (sym is) lost }

module _ (file : List ℕ) (below : Below 256 file) (cs bs : List ℕ) {q : FieldPass} (heads : Heads file (drawing_of file) q) where
  pub head-refused : {r : Walked} → Passes.refused ≤ q.pass.at → r ≡ record { row = 0; at = q.pass.at; to = q.pass.to } → DescendsFile file cs bs cs bs r
  head-refused {r} off is =
      let at-is : r.at ≡ q.pass.at = ap (λ (r : Walked). r.at) is in
      file-refused (heads.gone off) (record { at-is = omega (arith, at-is); to_is = ap (λ (r : Walked). r.to) is })

  module _ (on : q.pass.at < Passes.refused) where
    begun : Begun file (drawing_of file) q
    begun = heads.going on

    head-inside : q.pass.at ≤ length file
    head-inside = omega (arith, begun.at-is, begun.there)

    pub head_ready : Ready (length file) q.pass.at q.pass.to
    head_ready =
        let b = begun in
        let short = b.short in
        record { short = short; near = omega (arith, b.at-is); inside = λ h. head-inside; few = λ h. omega (arith, b.at-is, b.to_is) }

    pub version-small : q.value < 2 ^ 32
    version-small = omega (arith, begun.minor)

    module _ {bs₁ : List ℕ} (word : bs₁ ≡ put 0 (digits (2 ^ 32) 1 q.value) bs) {bs₂ : List ℕ} {p : Pass}
        (laid : Laid (settings q.value).format way file bs₁ bs₂ q.pass.at q.pass.to p.at p.to) where
      from-settings : drawing_of file ≡ reading (length file) (from_settings q.value (drop q.pass.at file))
      from-settings = begun.reads ∙ ap (λ n. reading (length file) (from_settings q.value (drop n file))) (sym begun.at-is)

      abbrev v : ℕ
      v = q.value

      pub settings-refused : {r : Walked} → Passes.refused ≤ p.at → r ≡ record { row = 0; at = p.at; to = p.to } → DescendsFile file cs bs cs bs₂ r
      settings-refused {r} off is =
          let u = laid_unfound way bytes_sensible file below (settings v) head-inside laid off in
          file-refused
          (from-settings
          ∙ ap (λ o. reading (length file) (and_then o (λ s rest.
          and_then (parse bytes (outer_group v) rest) (λ (members, description) rest₂. found (record { version = v; settings = s; members = members; description = description }) rest₂)))) u.parsed)
          (record { at-is = ap (λ (r : Walked). r.at) is ∙ u.at-is; to_is = ap (λ (r : Walked). r.to) is ∙ u.to_is })

      module _ (settled : p.at < Passes.refused) where
        record Settled : Type 0 where
          s : Settings
          here : Found (settings q.value) way file bs₁ bs₂ q.pass.at q.pass.to p.at p.to s

        found-settings : Settled
        found-settings = let f = laid-found way bytes_sensible file below (settings v) head-inside laid settled in record { s = f.0; here = f.1 }

        abbrev W : List ℕ
        W = words_of (settings q.value) found-settings.s

        pub settings_stand : Stands (length file) p.at 0 p.to
        settings_stand =
            let f = found-settings.here in
            record {
              short = begun.short;
              inside = f.inside;
              few-rows = omega arith;
              few_words = omega (arith, f.at-is, f.to_is, words-few (settings v) found-settings.s, begun.at-is, begun.to_is);
            }

        from-outer : drawing_of file
            ≡ reading (length file) (and_then (parse bytes (outer_group v) (drop p.at file)) (λ (members, description) rest₂. found (record { version = v; settings = found-settings.s; members = members; description = description }) rest₂))
        from-outer =
            from-settings
            ∙ ap (λ o. reading (length file) (and_then o (λ s rest.
            and_then (parse bytes (outer_group v) rest) (λ (members, description) rest₂. found (record { version = v; settings = s; members = members; description = description }) rest₂)))) found-settings.here.parsed

        -- The head's words.
        head-written : Writes 0 (v ∷ W) bs bs₂
        head-written =
            let first : Writes 0 (v ∷ []) bs bs₁ = same-written (word_digit v version-small) (put_written (digits (2 ^ 32) 1 v) word) in
            both-written (begun.to_is ∙ omega arith) first found-settings.here.written

        head-long : p.to ≡ length (v ∷ W)
        head-long = omega (arith, found-settings.here.to_is, begun.to_is)

        module _ {cs₃ bs₃ : List ℕ} {r : Walked} (descends : DescendsOuter file v p.at p.to cs bs₂ cs₃ bs₃ r) where
          pub file_descends : DescendsFile file cs bs cs₃ bs₃ r
          file_descends = by (parse bytes (outer_group v) (drop p.at file)) from-outer descends.comes
            where
              by : (o : Outcome (Objects × String))
                  → drawing_of file ≡ reading (length file) (and_then o (λ (members, description) rest₂. found (record { version = v; settings = found-settings.s; members = members; description = description }) rest₂))
                  → Comes (object_part v 0 0 p.to) file cs bs₂ cs₃ bs₃ p.at 0 p.to r (whole (and_then o (λ (os, d) rest. found (group os d) rest))) → DescendsFile file cs bs cs₃ bs₃ r
              by (found (os, d) []) is met =
                  let left : length (drop r.at file) ≡ 0 = sym (ap length met.rest-is) in
                  let sum = length-append (v ∷ W) (bodies (group os d) v) in
                  let stands = settings_stand in
                  let at-is : r.at ≡ length file = omega (arith, met.inside, rw length-drop at left) in
                  record {
                    comes =
                        subst (ComesFile file cs bs cs₃ bs₃ r) (sym is)
                        (record {
                          short = begun.short;
                          at-is = at-is;
                          row_is = omega (arith, met.row_is);
                          to_is = omega (arith, met.to_is, sum, head-long);
                          few-rows = omega (arith, met.few-rows, begun.short, at-is);
                          few_words = omega (arith, met.few_words, begun.short, at-is, stands.few_words);
                          rows_written = same-written (ap (λ n. contents (group os d) v 0 0 n) head-long) met.rows_written;
                          words-written = both-written (head-long ∙ omega arith) head-written met.words-written;
                        });
                  }
              by (found (os, d) (b ∷ rest)) is stopped = file-refused is (record { at-is = stopped.at-is; to_is = stopped.to_is })
              by (refused n place) is stopped = file-refused is (record { at-is = stopped.at-is; to_is = stopped.to_is })
