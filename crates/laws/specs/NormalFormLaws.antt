-- The normal form of a file is the file that is written of its drawing, and a file is its own exactly when its flags are all 0 or 1.
use Rattle.std.specs.Prelude.{◌≡◌, refl, ◌↔◌, Bool, true, false, cond, ℕ, zero, suc, ◌+◌, ◌<◌, List, [], ◌∷◌, ◌++◌, map, length, take, drop}
use Rattle.std.proofs.Common.{sym, ap, ap₂, ◌∙◌, arith, take-append-drop, length-append, take_at, drop_at}
use Rattle.format.specs.Digits.{Below, number, digits}
use Rattle.format.specs.DigitsLaws.{digits_number}
use Rattle.format.specs.Kind.{Shape, is_flag, size, Field}
use Rattle.format.specs.Spelling.{spell_all}
use Rattle.format.specs.FixedCodec.{spell_fixed, SpelledBy}
use Rattle.format.specs.FixedCodecLaws.{standing-meant}
use Rattle.format.specs.Format.{fields}
use Rattle.drawing.specs.Codecs.{truth, meant, byte_fields}
use Rattle.drawing.specs.Drawing.{Drawing, file, file_of}
use Rattle.drawing.specs.NormalForm.{field_made, flags_made, normal_form, FlagsPlain, Normal}
use Rattle.drawing.specs.FlagLaws.{flag-size}

-- ---- one field

flag-made : (us : List ℕ) (v : ℕ) → length us ≡ 1 → truth (number 256 us) ≡ v → map truth us ≡ digits 256 1 v
flag-made [] v long is = absurd (omega (arith, long))
flag-made (zero ∷ []) v long is = rw (← is) refl
flag-made (suc b ∷ []) v long is =
    let big : number 256 (suc b ∷ []) ≡ suc b = omega arith in
    let one : v ≡ 1 = sym is ∙ ap truth big in
    rw one refl
flag-made (b ∷ c ∷ us) v long is = absurd (omega (arith, long))

-- With a true flag made 1, a field is as it is written.
field-made : (s : Shape) (v : ℕ) (us : List ℕ) → length us ≡ size s → Below 256 us → meant s (number 256 us) ≡ v → field_made s us ≡ digits 256 (size s) v
field-made s v us long below is = by (is_flag s) refl is
  where
    by : (b : Bool) → is_flag s ≡ b → cond b (truth (number 256 us)) (number 256 us) ≡ v → cond b (map truth us) us ≡ digits 256 (size s) v
    by true f is = let one = (flag-size s f).0 in flag-made us v (long ∙ one) is ∙ ap (λ n. digits 256 n v) (sym one)
    by false f is = rw (← is, ← long) (sym (digits_number 256 us (omega arith) below))

truths_same : (us : List ℕ) → Below 2 us → map truth us ≡ us
truths_same [] h = refl
truths_same (zero ∷ us) h = ap {B = List ℕ} (λ l. 0 ∷ l) (truths_same us h.1)
truths_same (suc zero ∷ us) h = ap {B = List ℕ} (λ l. 1 ∷ l) (truths_same us h.1)
truths_same (suc (suc n) ∷ us) h = absurd (omega (arith, h.0))

truth_below : (u : ℕ) → truth u ≡ u → u < 2
truth_below zero e = omega arith
truth_below (suc n) e = let z : 1 ≡ suc n = e in omega arith

same_truths : (us : List ℕ) → map truth us ≡ us → Below 2 us
same_truths [] e = tt
same_truths (u ∷ us) e = let first : truth u ≡ u = cc in let more : map truth us ≡ us = cc in (truth_below u first, same_truths us more)

length_truths : (us : List ℕ) → length (map truth us) ≡ length us
length_truths [] = refl
length_truths (u ∷ us) = ap suc (length_truths us)

field-same : (b : Bool) (us : List ℕ) → cond b (Below 2 us) (Unit {0}) → cond b (map truth us) us ≡ us
field-same true us h = truths_same us h
field-same false us h = refl

field_plain : (b : Bool) (us : List ℕ) → cond b (map truth us) us ≡ us → cond b (Below 2 us) (Unit {0})
field_plain true us e = same_truths us e
field_plain false us e = tt

length-field : (b : Bool) (us : List ℕ) → length (cond b (map truth us) us) ≡ length us
length-field true us = length_truths us
length-field false us = refl

-- ---- fields one after another

-- Runs of the same length, with something behind each, are the same if the whole is.
split-same : (a b c d : List ℕ) → length a ≡ length c → a ++ b ≡ c ++ d → (a ≡ c) × (b ≡ d)
split-same a b c d long e = (
  sym (take_at a b (length a) refl) ∙ ap (take (length a)) e ∙ take_at c d (length a) (sym long),
  sym (drop_at a b (length a) refl) ∙ ap (drop (length a)) e ∙ drop_at c d (length a) (sym long),
)

-- Flags that are all 0 or 1 stay, and only these.
plain-made : (fs : List Field) (bs : List ℕ) → FlagsPlain fs bs → flags_made fs bs ≡ bs
plain-made [] bs h = refl
plain-made (f ∷ fs) bs h =
    let s = f.kind.shape in
    ap₂ ◌++◌ (field-same (is_flag s) (take (size s) bs) h.0) (plain-made fs (drop (size s) bs) h.1) ∙ take-append-drop (size s) bs

made_plain : (fs : List Field) (bs : List ℕ) → flags_made fs bs ≡ bs → FlagsPlain fs bs
made_plain [] bs e = tt
made_plain (f ∷ fs) bs e =
    let s = f.kind.shape in
    let parts = split-same (field_made s (take (size s) bs)) (flags_made fs (drop (size s) bs)) (take (size s) bs) (drop (size s) bs)
    (length-field (is_flag s) (take (size s) bs)) (e ∙ sym (take-append-drop (size s) bs)) in
    (field_plain (is_flag s) (take (size s) bs) parts.0, made_plain fs (drop (size s) bs) parts.1)

-- Of bytes that spell fields, making each true flag 1 gives the bytes that are written of the fields.
spelled-made : (fs : List Field) (us : List ℕ) → SpelledBy byte_fields fs us → flags_made fs us ≡ spell_all (spell_fixed byte_fields) fs
spelled-made [] us p = p
spelled-made (f ∷ fs) us p =
    let s = f.kind.shape in
    let front = p.0 in
    let back = p.1 in
    let long : length front ≡ size s = p.3.long in
    let stands : meant s (number 256 front) ≡ f.value = standing-meant 256 size meant 2 5 s (number 256 front) f.value p.3.means in
    ap (flags_made (f ∷ fs)) p.2
    ∙ ap₂ (λ x y. field_made s x ++ flags_made fs y) (take_at front back (size s) long) (drop_at front back (size s) long)
    ∙ ap₂ ◌++◌ (field-made s f.value front long p.3.below stands) (spelled-made fs back p.4)

-- ---- drawings

pub normal_form_is : (bs : List ℕ) (d : Drawing) → SpelledBy byte_fields (fields file.format d) bs → normal_form d bs ≡ file_of d
normal_form_is bs d p = spelled-made (fields file.format d) bs p

pub normal_is : (bs : List ℕ) (d : Drawing) → Normal d bs ↔ (normal_form d bs ≡ bs)
normal_is bs d = (λ n. plain-made (fields file.format d) bs n.flags, λ e. record { flags = made_plain (fields file.format d) bs e })
