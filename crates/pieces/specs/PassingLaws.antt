-- A pass from a file's bytes to a table's words, by what its script comes to with its words counted.
use Rattle.std.specs.Prelude.{◌≡◌, refl, ℕ, zero, suc, ◌+◌, ◌-◌, ◌<◌, ◌≤◌, List, length, drop}
use Rattle.std.proofs.Common.{sym, ap, ◌∙◌, subst, arith, length-drop, drop-drop}
use Rattle.std.proofs.Math.Nat as Nat
use Rattle.format.specs.Codec.{Outcome, found, and_then}
use Rattle.format.specs.Codec as C
use Rattle.format.specs.Script.{Script, end, ask}
use Rattle.format.specs.Pass.{Passed, through, stopped, Route, onward, pass, put}
use Rattle.format.specs.PassLaws.{Placed, read_placed}
use Rattle.format.specs.FixedCodec.{spell_fixed}
use Rattle.drawing.specs.Codecs.{byte_fields, word_fields}
use Rattle.drawing.specs.Reading.{bytes}
use Rattle.pieces.specs.Tally.{plus, tallied}

-- From a file's bytes to a table's words.
abbrev pub to_words : Route
to_words = record { source = byte_fields; target = word_fields; refusal = λ n at. stopped n at }

-- What is passed is what the script comes to: it ends at a place, with so many words more, or is refused at one.
abbrev pub Says : {R : Type 0} → (us : List ℕ) → (to : ℕ) → Passed → Outcome (R × ℕ) → Type 0
Says us to p (found t rest) = (at : ℕ) × (m : List ℕ) × (at ≤ length us) × (rest ≡ drop at us) × (p ≡ through at (to + t.1) m)
Says us to p (C.refused n place) = (at : ℕ) × (at ≤ length us) × (place ≡ drop at us) × (p ≡ stopped n at)

says-plus : {R : Type 0} (us : List ℕ) (to w : ℕ) (p : Passed) (o : Outcome (R × ℕ)) → Says us (to + w) p o → Says us to p (plus w o)
says-plus us to w p (found t rest) s =
    let sum : to + w + t.1 ≡ to + (w + t.1) = omega arith in
    (s.0, s.1, s.2, s.3, s.4 ∙ ap (λ x. through s.0 x s.1) sum)
says-plus us to w p (C.refused n place) s = s

pub pass-says : {R : Type 0} (us : List ℕ) (s : Script R) (at to : ℕ) (m : List ℕ) → at ≤ length us → Says us to (pass to_words us s at to m) (tallied s (drop at us))
pass-says us (end r) at to m inside = (at, m, inside, refl, ap (λ x. through at x m) (sym (Nat.add-zero to)))
pass-says {R} us (ask k next) at to m inside =
    by (bytes.read k (drop at us)) (read_placed byte_fields k (drop at us)) (λ v there. pass-says us (next v) (at + wide) (to + words) (put to (spell_fixed word_fields k v) m) there)
  where
    wide : ℕ
    wide = byte_fields.width k.shape

    words : ℕ
    words = word_fields.width k.shape

    then : ℕ → Passed
    then v = pass to_words us (next v) (at + wide) (to + words) (put to (spell_fixed word_fields k v) m)

    by : (o : Outcome ℕ) → Placed byte_fields k (drop at us) o → ((v : ℕ) → at + wide ≤ length us → Says us (to + words) (then v) (tallied (next v) (drop (at + wide) us)))
        → Says us to (onward to_words at o then) (and_then o (λ v rest. plus words (tallied (next v) rest)))
    by (found v rest) placed step =
        let room : wide ≤ length us - at = rw length-drop at placed.0 in
        let same : rest ≡ drop (at + wide) us = placed.1 ∙ drop-drop wide at us in
        says-plus us to words (then v) (tallied (next v) rest) (subst (λ l. Says us (to + words) (then v) (tallied (next v) l)) (sym same) (step v (omega arith)))
    by (C.refused n place) placed step = (at, inside, placed, refl)
