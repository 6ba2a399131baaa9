-- Demand 2 for bytes: the drawing of these bytes is the one that they spell, and otherwise there is one refusal, as 01 orders them.
use Rattle.std.specs.Prelude.{◌≡◌, refl, ◌↔◌, ◌⊎◌, Bool, true, false, cond, ℕ, ◌<◌, ◌≤◌, ◌-◌, List, [], ◌∷◌, ◌++◌, length, ltb}
use Rattle.std.proofs.Common.{sym, ap, ap₂, ◌∙◌, subst, inl, inr, append-nil, length-append, arith, ltb-true, ltb-false, lt-ltb, le-ltb}
use Rattle.format.specs.Digits.{Below}
use Rattle.format.specs.Codec.{Outcome, found, refused}
use Rattle.format.specs.FixedCodec.{SpelledBy, Cut, Faulty}
use Rattle.format.specs.Format.{fields}
use Rattle.drawing.specs.Codecs.{byte_fields}
use Rattle.drawing.specs.Reading.{bytes, drawing, refusal, reading, drawing_of}
use Rattle.format.specs.FixedCodecLaws.{fault_positive, spelled-long}
use Rattle.laws.specs.CodecLaws.{bytes_sensible}
use Rattle.format.specs.Parse.{parse}
use Rattle.format.specs.FixedLayoutLaws.{parse-spelled, encoded-spelled, parsed_spelt, refused-stopped}
use Rattle.drawing.specs.Limits.{length_limit}
use Rattle.drawing.specs.Drawing.{Drawing, file, file_of, IsFile, Acceptable}
use Rattle.drawing.specs.Refusal.{AtField, Trailing, Refused}

-- A drawing's file is one, and every file of a drawing is as long.
pub own_file : (d : Drawing) → Acceptable d → IsFile (file_of d) d
own_file d a = record { acceptable = a; spelled = encoded-spelled byte_fields bytes_sensible file d a.good }

pub file-length : {bs : List ℕ} {d : Drawing} → IsFile bs d → length bs ≡ length (file_of d)
file-length {bs} {d} f = spelled-long byte_fields (fields file.format d) bs f.spelled

-- Bytes that spell a drawing parse to it.
spelled-parse : (bs : List ℕ) (d : Drawing) → file.Good d → SpelledBy byte_fields (fields file.format d) bs → parse bytes file bs ≡ found d []
spelled-parse bs d g p = ap (parse bytes file) (sym (append-nil bs)) ∙ parse-spelled byte_fields bytes_sensible file d g bs [] p

-- No bytes are a file of two drawings.
pub file_unique : (bs : List ℕ) (d e : Drawing) → IsFile bs d → IsFile bs e → d ≡ e
file_unique bs d e f g =
    let same : ◌≡◌ {A = Outcome Drawing} (found d []) (found e []) = sym (spelled-parse bs d f.acceptable.good f.spelled) ∙ spelled-parse bs e g.acceptable.good g.spelled in
    cc

reading-drawing : (total : ℕ) (o : Outcome Drawing) (d : Drawing) → reading total o ≡ drawing d → o ≡ found d []
reading-drawing total (found x []) d e = cc
reading-drawing total (found x (b ∷ rest)) d e = let z : ◌≡◌ {A = ℕ} 0 1 = cc in absurd (omega arith)
reading-drawing total (refused n at) d e = let z : ◌≡◌ {A = ℕ} 0 1 = cc in absurd (omega arith)

accepted : (bs : List ℕ) (o : Outcome Drawing) (t : Bool) → ltb length_limit (length bs) ≡ t → (d : Drawing)
    → cond t (refusal 1 length_limit) (reading (length bs) o) ≡ drawing d → (length bs ≤ length_limit) × (o ≡ found d [])
accepted bs o true h d e = let z : ◌≡◌ {A = ℕ} 0 1 = cc in absurd (omega arith)
accepted bs o false h d e = (ltb-false length_limit (length bs) h, reading-drawing (length bs) o d e)

-- Of bytes that are short enough, the reading is that of their parse.
short-reading : (bs : List ℕ) → length bs ≤ length_limit → (o : Outcome Drawing) → parse bytes file bs ≡ o → drawing_of bs ≡ reading (length bs) o
short-reading bs h o e =
    ap (λ t. cond t (refusal 1 length_limit) (reading (length bs) (parse bytes file bs))) (le-ltb length_limit (length bs) h)
    ∙ ap (reading (length bs)) e

-- The drawing of these bytes is d exactly when they are a file of d.
pub drawing-of-bytes : (bs : List ℕ) → Below 256 bs → (d : Drawing) → (drawing_of bs ≡ drawing d) ↔ IsFile bs d
drawing-of-bytes bs b d = (there, back)
  where
    there : drawing_of bs ≡ drawing d → IsFile bs d
    there e =
        let j = accepted bs (parse bytes file bs) (ltb length_limit (length bs)) refl d e in
        let s = parsed_spelt byte_fields bytes_sensible file bs b d [] j.1 in
        let same : s.front ≡ bs = sym (s.split ∙ append-nil s.front) in
        let spelled : SpelledBy byte_fields (fields file.format d) bs = subst (SpelledBy byte_fields (fields file.format d)) same s.spelled in
        let long = spelled-long byte_fields (fields file.format d) bs spelled in
        record { acceptable = record { good = s.good; short = omega (arith, long, j.0) }; spelled = spelled }

    back : IsFile bs d → drawing_of bs ≡ drawing d
    back f = short-reading bs (omega (arith, file-length f, f.acceptable.short)) (found d []) (spelled-parse bs d f.acceptable.good f.spelled)

-- ---- refusals

-- How far in a place is, by what is left there.
offset_of : (bs front at : List ℕ) → bs ≡ front ++ at → length bs - length at ≡ length front
offset_of bs front at e = rw (e, length-append) (omega arith)

-- What a refused parse, or one with bytes left, says of the bytes.
said : (bs : List ℕ) → Below 256 bs → length bs ≤ length_limit → (o : Outcome Drawing) → parse bytes file bs ≡ o → (n offset : ℕ)
    → reading (length bs) o ≡ refusal n offset → AtField bs n offset ⊎ Trailing bs n offset
said bs b short (found d []) p n offset e = let z : ◌≡◌ {A = ℕ} 0 1 = cc in absurd (omega arith)
said bs b short (found d (x ∷ rest)) p n offset e =
    let s = parsed_spelt byte_fields bytes_sensible file bs b d (x ∷ rest) p in
    let q : length bs - length (x ∷ rest) ≡ offset = cc in
    inr (record {
      short = short;
      drawing = d;
      front = s.front;
      rest = x ∷ rest;
      good = s.good;
      split = s.split;
      spelled = s.spelled;
      some_left = omega arith;
      number_is = cc;
      offset-is = sym q ∙ offset_of bs s.front (x ∷ rest) s.split;
    })
said bs b short (refused m at) p n offset e =
    let s = (refused-stopped byte_fields bytes_sensible file bs b m at).0 p in
    let number : m ≡ n = cc in
    let q : length bs - length at ≡ offset = cc in
    inl (record {
      short = short;
      fields = s.fields;
      kind = s.kind;
      front = s.front;
      back = at;
      asks = s.asks;
      split = s.split;
      spelled = s.spelled;
      offset-is = sym q ∙ offset_of bs s.front at s.split;
      at-fault = subst (λ x. Cut byte_fields s.kind at x ⊎ Faulty byte_fields s.kind at x) number s.at-fault;
    })

refused_so : (bs : List ℕ) → Below 256 bs → (n offset : ℕ) (t : Bool) → ltb length_limit (length bs) ≡ t
    → cond t (refusal 1 length_limit) (reading (length bs) (parse bytes file bs)) ≡ refusal n offset → Refused bs n offset
refused_so bs b n offset true h e = inl (record { long = ltb-true length_limit (length bs) h; number_is = cc; offset-is = cc })
refused_so bs b n offset false h e = inr (said bs b (ltb-false length_limit (length bs) h) (parse bytes file bs) refl n offset e)

-- Behind a whole drawing, something is left.
left_over : (total : ℕ) (d : Drawing) (rest : List ℕ) → 0 < length rest → reading total (found d rest) ≡ refusal 13 (total - length rest)
left_over total d [] h = absurd (omega arith)
left_over total d (b ∷ rest) h = refl

-- Bytes are refused with this number and offset exactly when 01's order of faults says so.
pub refusal-of-bytes : (bs : List ℕ) → Below 256 bs → (n offset : ℕ) → (drawing_of bs ≡ refusal n offset) ↔ Refused bs n offset
refusal-of-bytes bs b n offset = (there, back)
  where
    there : drawing_of bs ≡ refusal n offset → Refused bs n offset
    there e = refused_so bs b n offset (ltb length_limit (length bs)) refl e

    back : Refused bs n offset → drawing_of bs ≡ refusal n offset
    back (inl h) =
        ap (λ t. cond t (refusal 1 length_limit) (reading (length bs) (parse bytes file bs))) (lt-ltb length_limit (length bs) h.long)
        ∙ ap₂ (λ x y. refusal x y) (sym h.number_is) (sym h.offset-is)
    back (inr (inl h)) =
        let p = (refused-stopped byte_fields bytes_sensible file bs b n h.back).1 (record { fields = h.fields; kind = h.kind; front = h.front; asks = h.asks; split = h.split; spelled = h.spelled; at-fault = h.at-fault }) in
        short-reading bs h.short (refused n h.back) p
        ∙ ap (λ x. refusal n x) (offset_of bs h.front h.back h.split ∙ sym h.offset-is)
    back (inr (inr h)) =
        let p : parse bytes file bs ≡ found h.drawing h.rest = ap (parse bytes file) h.split ∙ parse-spelled byte_fields bytes_sensible file h.drawing h.good h.front h.rest h.spelled in
        short-reading bs h.short (found h.drawing h.rest) p
        ∙ left_over (length bs) h.drawing h.rest h.some_left
        ∙ ap₂ (λ x y. refusal x y) (sym h.number_is) (offset_of bs h.front h.rest h.split ∙ sym h.offset-is)

-- The number of a refusal is never 0, so 0 says that the bytes were accepted.
pub refusal_positive : (bs : List ℕ) → Below 256 bs → (n offset : ℕ) → drawing_of bs ≡ refusal n offset → 0 < n
refusal_positive bs b n offset e = by ((refusal-of-bytes bs b n offset).0 e)
  where
    by : Refused bs n offset → 0 < n
    by (inl h) = rw h.number_is (omega arith)
    by (inr (inl h)) = fault_positive byte_fields (omega arith) h.kind h.back n h.at-fault
    by (inr (inr h)) = rw h.number_is (omega arith)
