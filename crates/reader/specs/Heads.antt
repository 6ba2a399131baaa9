-- What the head of a file comes to: the version and what then is still to be read, or a refusal.
use Rattle.std.specs.Prelude.{◌≡◌, refl, cond, ◌&&◌, ℕ, ◌+◌, ◌-◌, ◌<◌, ◌≤◌, List, leb, length, drop}
use Rattle.std.proofs.Common.{sym, ap, ◌∙◌, arith, le-leb, le-ltb, lt-ltb, ne_eqb}
use Rattle.std.proofs.lemmas.Bool.{lt-leb}
use Rattle.format.specs.Digits.{Below}
use Rattle.format.specs.Codec.{Outcome, refused, and_then}
use Rattle.format.specs.Parse.{parse}
use Rattle.format.specs.PassLaws.{place-of}
use Rattle.drawing.specs.Reading.{bytes, Reading, refusal, reading, drawing_of}
use Rattle.drawing.specs.Limits.{length_limit, last_minor}
use Rattle.drawing.specs.Fields.{unless, jdr, magic, version_length, version_chars, version_zero}
use Rattle.drawing.specs.Drawing.{Drawing, file as file_layout}
use Rattle.laws.specs.FileParseLaws.{file-parse, from_settings, from_version}
use Rattle.ways.specs.declared.FieldPass.{FieldPass}
use Rattle.ways.specs.Passes as Passes
use Rattle.ways.specs.Passes.{refusal_of}
use Rattle.from_file.specs.Way.{way}
use Rattle.reader.specs.FieldsAt.{number_at, cut-here, fault_here, value_here}

-- The version was read: the settings begin behind it, and the words behind its own.
pub record Begun (file : List ℕ) (whole : Reading) (q : FieldPass) : Type 0 where
  pub at-is : q.pass.at ≡ 16
  pub to_is : q.pass.to ≡ 1
  pub there : 16 ≤ length file
  pub short : length file ≤ length_limit
  pub minor : q.value ≤ last_minor
  pub reads : whole ≡ reading (length file) (from_settings q.value (drop 16 file))

-- What is left of the head comes to this.
pub record Heads (file : List ℕ) (whole : Reading) (q : FieldPass) : Type 0 where
  pub going : q.pass.at < Passes.refused → Begun file whole q
  pub gone : Passes.refused ≤ q.pass.at → whole ≡ refusal q.pass.to (q.pass.at - Passes.refused)

-- What a file comes to, from its version on, and from the chars of the version on.
abbrev pub version_at : List ℕ → Reading
version_at file = reading (length file) (from_version (drop 6 file))

abbrev pub chars_at : List ℕ → Reading
chars_at file = reading (length file) (and_then (bytes.read version_chars (drop 10 file)) (λ c rest. from_settings (c - version_zero) rest))

-- ---- laws

refused-head : {file : List ℕ} {whole : Reading} {n at : ℕ} {q : FieldPass} → whole ≡ refusal n at → q ≡ record { value = 0; pass = refusal_of way n at } → Heads file whole q
refused-head {file} {whole} {n} {at} {q} is q-is =
    let at-is : q.pass.at ≡ at + Passes.refused = ap (λ (q : FieldPass). q.pass.at) q-is in
    let to_is : q.pass.to ≡ n = ap (λ (q : FieldPass). q.pass.to) q-is in
    let back : at ≡ q.pass.at - Passes.refused = omega (arith, at-is) in
    record {
      going = λ on. absurd (omega (arith, at-is));
      gone = λ off. is ∙ ap (λ k. refusal k at) (sym to_is) ∙ ap (λ a. refusal q.pass.to a) back;
    }

-- The same, said of what comes to the same.
same_head : {file : List ℕ} {whole other : Reading} {q : FieldPass} → whole ≡ other → Heads file other q → Heads file whole q
same_head same heads =
    record {
      going = λ on.
          let b = heads.going on in
          record { at-is = b.at-is; to_is = b.to_is; there = b.there; short = b.short; minor = b.minor; reads = same ∙ b.reads };
      gone = λ off. same ∙ heads.gone off;
    }

-- A field that is refused, in front of anything.
field-refused : (file : List ℕ) (at n : ℕ) (o : Outcome ℕ) (then : ℕ → List ℕ → Outcome Drawing) → at ≤ length file → o ≡ refused n (drop at file) → reading (length file) (and_then o then) ≡ refusal n at
field-refused file at n o then inside is = ap (λ o. reading (length file) (and_then o then)) is ∙ ap (refusal n) (place-of file at inside)

-- A file that is not too long begins with the chars JDR.
from-magic : (file : List ℕ) → length file ≤ length_limit → drawing_of file ≡ reading (length file) (and_then (bytes.read magic (drop 0 file)) (λ m rest. from_version rest))
from-magic file short =
    ap (λ t. cond t (refusal 1 length_limit) (reading (length file) (parse bytes file_layout file))) (le-ltb length_limit (length file) short)
    ∙ ap (reading (length file)) (file-parse file)

module _ (file : List ℕ) (below : Below 256 file) {q : FieldPass} where
  -- ---- the chars of the version

  module _ (begun : 10 ≤ length file) where
    pub chars-cut : length file < 16 → q ≡ record { value = 0; pass = refusal_of way 2 10 } → Heads file (chars_at file) q
    chars-cut cut is = refused-head (field-refused file 10 2 (bytes.read version_chars (drop 10 file)) (λ c rest. from_settings (c - version_zero) rest) begun (cut-here file below version_chars refl 10 begun cut)) is

    module _ (inside : 16 ≤ length file) where
      chars-bad : version_chars.fault (number_at 6 file 10) ≡ 4 → q ≡ record { value = 0; pass = refusal_of way 4 10 } → Heads file (chars_at file) q
      chars-bad bad is =
          refused-head (field-refused file 10 4 (bytes.read version_chars (drop 10 file)) (λ c rest. from_settings (c - version_zero) rest) begun (fault_here file below version_chars refl 10 inside 4 bad (omega arith))) is

      pub chars-low : {c : ℕ} → c ≡ number_at 6 file 10 → c < version_zero → q ≡ record { value = 0; pass = refusal_of way 4 10 } → Heads file (chars_at file) q
      chars-low c-is low is =
          chars-bad (ap (λ t. unless (t && leb (number_at 6 file 10) (version_zero + last_minor)) 4) (lt-leb version_zero (number_at 6 file 10) (omega (arith, c-is)))) is

      pub chars-high : {c : ℕ} → c ≡ number_at 6 file 10 → version_zero ≤ c → version_zero + last_minor < c → q ≡ record { value = 0; pass = refusal_of way 4 10 } → Heads file (chars_at file) q
      chars-high c-is low high is =
          chars-bad
          (ap (λ t. unless (t && leb (number_at 6 file 10) (version_zero + last_minor)) 4) (le-leb version_zero (number_at 6 file 10) (omega (arith, c-is)))
          ∙ ap (λ t. unless t 4) (lt-leb (number_at 6 file 10) (version_zero + last_minor) (omega (arith, c-is)))) is

      pub chars_good : {c : ℕ} → length file ≤ length_limit → c ≡ number_at 6 file 10 → version_zero ≤ c → c ≤ version_zero + last_minor → q ≡ record { value = c - version_zero; pass = record { at = 16; to = 1 } } → Heads file (chars_at file) q
      chars_good {c} short c-is low high is =
          let fine : version_chars.fault (number_at 6 file 10) ≡ 0 =
          ap (λ t. unless (t && leb (number_at 6 file 10) (version_zero + last_minor)) 4) (le-leb version_zero (number_at 6 file 10) (omega (arith, c-is)))
          ∙ ap (λ t. unless t 4) (le-leb (number_at 6 file 10) (version_zero + last_minor) (omega (arith, c-is))) in
          let at-is : q.pass.at ≡ 16 = ap (λ (q : FieldPass). q.pass.at) is in
          let value-is : q.value ≡ c - version_zero = ap (λ (q : FieldPass). q.value) is in
          record {
            going = λ on.
                record {
                  at-is = at-is;
                  to_is = ap (λ (q : FieldPass). q.pass.to) is;
                  there = inside;
                  short = short;
                  minor = omega (arith, value-is);
                  reads =
                      ap (λ o. reading (length file) (and_then o (λ c rest. from_settings (c - version_zero) rest))) (value_here file below version_chars refl 10 inside fine)
                      ∙ ap (λ x. reading (length file) (from_settings (x - version_zero) (drop 16 file))) (sym c-is)
                      ∙ ap (λ v. reading (length file) (from_settings v (drop 16 file))) (sym value-is);
                };
            gone = λ off. absurd (omega (arith, at-is));
          }

  -- ---- the version

  module _ (begun : 6 ≤ length file) where
    pub version-cut : length file < 10 → q ≡ record { value = 0; pass = refusal_of way 2 6 } → Heads file (version_at file) q
    version-cut cut is =
        refused-head (field-refused file 6 2 (bytes.read version_length (drop 6 file)) (λ three rest. and_then (bytes.read version_chars rest) (λ c rest₂. from_settings (c - version_zero) rest₂)) begun (cut-here file below version_length refl 6 begun cut)) is

    module _ (inside : 10 ≤ length file) {n : ℕ} (n-is : n ≡ number_at 4 file 6) where
      pub version-bad : (n ≡ 3 → ⊥) → q ≡ record { value = 0; pass = refusal_of way 4 6 } → Heads file (version_at file) q
      version-bad other is =
          let bad : version_length.fault (number_at 4 file 6) ≡ 4 = ap (λ x. version_length.fault x) (sym n-is) ∙ ap (λ t. unless t 4) (ne_eqb n 3 other) in
          refused-head (field-refused file 6 4 (bytes.read version_length (drop 6 file)) (λ three rest. and_then (bytes.read version_chars rest) (λ c rest₂. from_settings (c - version_zero) rest₂)) begun (fault_here file below version_length refl 6 inside 4 bad (omega arith))) is

      pub version_good : n ≡ 3 → Heads file (chars_at file) q → Heads file (version_at file) q
      version_good three heads =
          let fine : version_length.fault (number_at 4 file 6) ≡ 0 = ap (λ x. version_length.fault x) (sym n-is ∙ three) in
          same_head
          (ap (λ o. reading (length file) (and_then o (λ three rest. and_then (bytes.read version_chars rest) (λ c rest₂. from_settings (c - version_zero) rest₂)))) (value_here file below version_length refl 6 inside fine)) heads

  -- ---- the file

  pub head-long : length_limit < length file → q ≡ record { value = 0; pass = refusal_of way 1 length_limit } → Heads file (drawing_of file) q
  head-long long is =
      refused-head (ap (λ t. cond t (refusal 1 length_limit) (reading (length file) (parse bytes file_layout file))) (lt-ltb length_limit (length file) long)) is

  module _ (short : length file ≤ length_limit) where
    pub magic-cut : length file < 6 → q ≡ record { value = 0; pass = refusal_of way 2 0 } → Heads file (drawing_of file) q
    magic-cut cut is =
        refused-head (from-magic file short ∙ field-refused file 0 2 (bytes.read magic (drop 0 file)) (λ m rest. from_version rest) (omega arith) (cut-here file below magic refl 0 (omega arith) cut)) is

    module _ (inside : 6 ≤ length file) {m : ℕ} (m-is : m ≡ number_at 6 file 0) where
      pub magic-bad : (m ≡ jdr → ⊥) → q ≡ record { value = 0; pass = refusal_of way 3 0 } → Heads file (drawing_of file) q
      magic-bad other is =
          let bad : magic.fault (number_at 6 file 0) ≡ 3 = ap (λ x. magic.fault x) (sym m-is) ∙ ap (λ t. unless t 3) (ne_eqb m jdr other) in
          refused-head (from-magic file short ∙ field-refused file 0 3 (bytes.read magic (drop 0 file)) (λ m rest. from_version rest) (omega arith) (fault_here file below magic refl 0 inside 3 bad (omega arith))) is

      pub magic_good : m ≡ jdr → Heads file (version_at file) q → Heads file (drawing_of file) q
      magic_good same heads =
          let fine : magic.fault (number_at 6 file 0) ≡ 0 = ap (λ x. magic.fault x) (sym m-is ∙ same) in
          same_head (from-magic file short ∙ ap (λ o. reading (length file) (and_then o (λ m rest. from_version rest))) (value_here file below magic refl 0 inside fine)) heads
