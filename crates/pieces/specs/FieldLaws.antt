-- Going on over a field whose value tells what follows, over a layout, and over a run of fields of any value.
use Rattle.std.specs.Prelude.{◌≡◌, refl, Bool, true, false, cond, ℕ, zero, suc, ◌+◌, ◌-◌, ◌*◌, ◌/◌, ◌^◌, ◌<◌, ◌≤◌, List, [], ◌∷◌, ◌++◌, eqb, ltb, length, take, drop}
use Rattle.std.proofs.Common.{sym, ap, ◌∙◌, subst, arith, length-drop, drop-drop, lt-ltb, ne_eqb, add-one}
use Rattle.std.proofs.Math.Path.{fun_ext}
use Rattle.std.proofs.Math.Nat as Nat
use Rattle.std.proofs.Math.Option.{Option, none, some}
use Rattle.format.specs.FixedReading.{split_at, read_cut, verdict, conclude}
use Rattle.format.specs.Digits.{Below, number}
use Rattle.format.specs.LeafLaws.{below_drop, field_below}
use Rattle.format.specs.LiteralLaws.{read_value}
use Rattle.format.specs.Kind.{Kind, size, values, char}
use Rattle.format.specs.Codec.{Outcome, found, refused, and_then}
use Rattle.format.specs.Script.{Script, end, ask}
use Rattle.format.specs.Format.{script, script_many}
use Rattle.format.specs.Layout.{Layout, field, repeat, threaded, when, ◌▸◌}
use Rattle.format.specs.Pass.{◌⟫◌, done}
use Rattle.format.specs.ParsingLaws.{and_then_same, followed}
use Rattle.drawing.specs.Codecs.{meant, byte_fields, word_fields}
use Rattle.drawing.specs.FlagLaws.{meant-same}
use Rattle.drawing.specs.Reading.{bytes}
use Rattle.drawing.specs.Fields as F
use Rattle.drawing.specs.String.{chars}
use Rattle.ways.specs.Runs.{Any}
use Rattle.pieces.specs.Tally.{plus, tallied}
use Rattle.pieces.specs.TallyLaws.{plus-zero, Under}
use Rattle.pieces.specs.Going.{room, Goes, Stops, goes_nowhere, goes_on, goes_is, goes_same, stops_same, part_goes, part_stops, led}
use Rattle.pieces.specs.Parts.{any_of}

-- ---- one field

module _ {R : Type 0} (k : Kind) (next : ℕ → Script R) {us : List ℕ} where
  pub field-goes : {v : ℕ} {rest : List ℕ} → bytes.read k us ≡ found v rest → Goes (ask k next) (next v) us rest (word_fields.width k.shape)
  field-goes {v} {rest} reads =
      let w = word_fields.width k.shape in
      let none_more : w + 0 ≡ w = omega arith in
      part_goes (ask k (λ v. end v)) next
      (ap (λ o. and_then o (λ v rest. plus w (found (v, 0) rest))) reads ∙ ap (λ w. found (v, w) rest) none_more)

  pub field_stops : {n : ℕ} {place : List ℕ} → byte_fields.width k.shape ≤ room → bytes.read k us ≡ refused n place → Stops (ask k next) us n place
  field_stops fits reads = part_stops (ask k (λ v. end v)) next (fits, λ v. tt) (ap (λ o. and_then o (λ v rest. plus (word_fields.width k.shape) (found (v, 0) rest))) reads)

-- ---- a layout

module _ {A R : Type 0} (L : Layout A) (K : Script R) {us : List ℕ} where
  pub layout_goes : {w : ℕ} {rest : List ℕ} → tallied (L ⟫ done) us ≡ found (tt, w) rest → Goes (script L.format (λ a. K)) K us rest w
  layout_goes is = goes_same (led L K) refl (part_goes (L ⟫ done) (λ u. K) is)

  pub layout_stops : {n : ℕ} {place : List ℕ} → Under room (L ⟫ done) → tallied (L ⟫ done) us ≡ refused n place → Stops (script L.format (λ a. K)) us n place
  layout_stops under is = stops_same (led L K) (part_stops (L ⟫ done) (λ u. K) under is)

-- ---- runs

read_any : (w : ℕ) (k : Kind) → Any w k → (us : List ℕ) → Below 256 us → w ≤ length us → (v : ℕ) × (bytes.read k us ≡ found v (drop w us))
read_any w k any us below there =
    let inside : 0 + size k.shape ≤ length us = omega (arith, any.sized) in
    let v = number 256 (take (size k.shape) (drop 0 us)) in
    let small : v < 256 ^ size k.shape = field_below 256 us 0 (size k.shape) inside below in
    let fits : v < values k.shape = subst (λ b. v < b) (ap (λ n. 256 ^ n) any.sized ∙ sym any.all) small in
    let behind : 0 + size k.shape ≡ w = omega (arith, any.sized) in
    (v, read_value 256 size meant 2 5 us 0 k v inside (sym (meant-same k.shape v fits)) (record { fits = fits; faultless = any.faultless v }) ∙ ap (λ n. found v (drop n us)) behind)

module _ {R : Type 0} (w : ℕ) (k : Kind) (any : Any w k) (K : Script R) where
  abbrev many : ℕ → Script R
  many n = script (repeat n (field k)).format (λ vs. K)

  -- So many fields of a run that are there.
  pub run-goes : (taken left : ℕ) {us : List ℕ} → Below 256 us → taken * w ≤ length us → Goes (many (taken + left)) (many left) us (drop (taken * w) us) (taken * ((w + 3) / 4))
  run-goes zero left {us} below there = goes_same (ap many none_more) refl (goes_is (ap (λ n. drop n us) (zero-times w)) (zero-times ((w + 3) / 4)) goes_nowhere)
    where
      none_more : 0 + left ≡ left
      none_more = omega arith

      zero-times : (n : ℕ) → 0 ≡ 0 * n
      zero-times n = omega arith
  run-goes (suc t) left {us} below there =
      goes_same (ap many one_more) refl
      (goes_is (drop-drop (t * w) w us ∙ ap (λ n. drop n us) far) words
      (goes_on (field-goes k (λ v. many (t + left)) one.1) (run-goes t left (below_drop 256 w us below) behind)))
    where
      times : suc t * w ≡ t * w + w
      times = Nat.suc-mul t w

      one : (v : ℕ) × (bytes.read k us ≡ found v (drop w us))
      one = read_any w k any us below (omega (arith, times, there))

      one_more : suc t + left ≡ suc (t + left)
      one_more = omega arith

      behind : t * w ≤ length (drop w us)
      behind = rw length-drop (omega (arith, times, there))

      far : w + t * w ≡ suc t * w
      far = omega (arith, times)

      words : word_fields.width k.shape + t * ((w + 3) / 4) ≡ suc t * ((w + 3) / 4)
      words =
          let each : (size k.shape + 3) / 4 ≡ (w + 3) / 4 = ap (λ n. (n + 3) / 4) any.sized in
          let times' = Nat.suc-mul t ((w + 3) / 4) in
          omega (arith, each, times')

-- A string's chars are a run: that the last one knows that it is does not matter in a file.
read_char : (last : Bool) (us : List ℕ) → bytes.read (F.string_char last) us ≡ bytes.read (any_of 2) us
read_char last us = by (split_at 2 us)
  where
    one : (front back : List ℕ) (t : Bool)
        → conclude (verdict byte_fields (F.string_char last) (cond t (some (number 256 front)) none)) us back ≡ conclude (verdict byte_fields (any_of 2) (cond t (some (number 256 front)) none)) us back
    one front back true = refl
    one front back false = refl

    by : (o : Option (List ℕ × List ℕ)) → read_cut byte_fields (F.string_char last) us o ≡ read_cut byte_fields (any_of 2) us o
    by none = refl
    by (some parts) = one parts.0 parts.1 (ltb (number 256 parts.0) (256 ^ 2))

chars-run : {R : Type 0} (n left : ℕ) (K : Script R) (us : List ℕ)
    → tallied (script (threaded n (λ left. field (F.string_char (eqb left 1))) (λ left c. left - 1) left).format (λ cs. K)) us ≡ tallied (script (repeat n (field (any_of 2))).format (λ cs. K)) us
chars-run zero left K us = refl
chars-run (suc n) left K us =
    ap (λ o. and_then o (λ v rest. plus 1 (tallied (script (threaded n (λ left. field (F.string_char (eqb left 1))) (λ left c. left - 1) (left - 1)).format (λ cs. K)) rest))) (read_char (eqb left 1) us)
    ∙ and_then_same (bytes.read (any_of 2) us) (λ v rest. ap (plus 1) (chars-run n (left - 1) K rest))

pub chars-goes : {R : Type 0} (n : ℕ) (K : Script R) (us : List ℕ) → Goes (script (chars n).format (λ cs. K)) (script (repeat n (field (any_of 2))).format (λ cs. K)) us us 0
chars-goes n K us = record { same = λ more. chars-run n n K (us ++ more) ∙ sym (plus-zero (tallied (script (repeat n (field (any_of 2))).format (λ cs. K)) (us ++ more))) }
