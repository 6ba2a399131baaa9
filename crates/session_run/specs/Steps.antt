-- A step over a part of a file: what is left before it comes to what is left behind it, whatever comes behind the bytes that are there.
use Rattle.std.specs.Prelude.{◌≡◌, refl, Bool, true, false, cond, ℕ, ◌+◌, ◌-◌, ◌<◌, ◌≤◌, List, ltb, length, drop}
use Rattle.std.proofs.Common.{sym, ap, ◌∙◌, arith, length-drop, lt-ltb, le-ltb}
use Rattle.std.proofs.Math.Nat as Nat
use Rattle.format.specs.Digits.{Below}
use Rattle.format.specs.Kind.{Kind}
use Rattle.format.specs.Codec.{Outcome, found, and_then}
use Rattle.format.specs.Codec as C
use Rattle.format.specs.Script.{Script, ask}
use Rattle.format.specs.Format.{script}
use Rattle.format.specs.Layout.{Layout, field}
use Rattle.format.specs.ParsingLaws.{followed}
use Rattle.format.specs.Pass.{through, stopped, pass, ◌⟫◌, done}
use Rattle.drawing.specs.Codecs.{byte_fields, word_fields}
use Rattle.drawing.specs.Reading.{bytes}
use Rattle.laws.specs.CodecLaws.{bytes_sensible}
use Rattle.ways.specs.declared.FieldPass.{FieldPass}
use Rattle.ways.specs.Passes.{refused, Ready, behind_going}
use Rattle.ways.specs.Carries.{Asked, Laid}
use Rattle.ways.specs.LayoutLaws.{valued-laid}
use Rattle.ways.specs.LandLaws.{Takes, takes}
use Rattle.from_file.specs.Way.{way}
use Rattle.pieces.specs.Tally.{plus, tallied}
use Rattle.pieces.specs.TallyLaws.{Asks, found_shorter, asks_takes}
use Rattle.pieces.specs.PassingLaws.{to_words, Says, pass-says}
use Rattle.pieces.specs.Going.{room, Goes, Stops, goes_on, goes_is, goes_same, stops_same, goes-behind, stops_behind}
use Rattle.pieces.specs.FieldLaws.{field-goes, field_stops, layout_goes, layout_stops}
use Rattle.pieces.specs.BoundLaws.{Most, most_under}

-- From a place of some bytes to another, where a step has come; or it is refused, at a place that is told as passes tell it.
pub record StepsTo {R : Type 0} (s s' : Script R) (us : List ℕ) (at to at' to' : ℕ) : Type 0 where
  pub goes : at' < refused → Goes s s' (drop at us) (drop at' us) (to' - to)
  pub moves : at' < refused → (at < at') × (at' ≤ length us) × (to ≤ to') × (to' + at ≤ to + at')
  pub stops : refused ≤ at' → Stops s (drop at us) to' (drop (at' - refused) us) × (at' - refused ≤ length us)
  pub ready : Ready (length us) at' to'

-- Scripts said otherwise.
pub steps_same : {R : Type 0} {s t t' s' : Script R} {us : List ℕ} {at to at' to' : ℕ} → s ≡ t → t' ≡ s' → StepsTo t t' us at to at' to' → StepsTo s s' us at to at' to'
steps_same first last steps =
    record {
      goes = λ on. goes_same first last (steps.goes on);
      moves = steps.moves;
      stops = λ off. (stops_same first (steps.stops off).0, (steps.stops off).1);
      ready = steps.ready;
    }

-- What comes behind a part that is refused does not matter.
pub steps_gone : {R : Type 0} {s s' s'' : Script R} {us : List ℕ} {at to at' to' : ℕ} → refused ≤ at' → StepsTo s s' us at to at' to' → StepsTo s s'' us at to at' to'
steps_gone off steps =
    record { goes = λ on. absurd (omega arith); moves = λ on. absurd (omega arith); stops = steps.stops; ready = steps.ready }

-- What comes behind a part that was passed, said otherwise.
pub steps_end : {R : Type 0} {s t s' : Script R} {us : List ℕ} {at to at' to' : ℕ} → (at' < refused → t ≡ s') → StepsTo s t us at to at' to' → StepsTo s s' us at to at' to'
steps_end last steps =
    record { goes = λ on. goes_same refl (last on) (steps.goes on); moves = steps.moves; stops = steps.stops; ready = steps.ready }

-- With anything behind.
pub steps_behind : {A R : Type 0} (s s' : Script A) (then : A → Script R) {us : List ℕ} {at to at' to' : ℕ} → StepsTo s s' us at to at' to' → StepsTo (followed s then) (followed s' then) us at to at' to'
steps_behind s s' then steps =
    record {
      goes = λ on. goes-behind s then s' (steps.goes on);
      moves = steps.moves;
      stops = λ off. (stops_behind s then (steps.stops off).0, (steps.stops off).1);
      ready = steps.ready;
    }

-- And then without a field.
pub steps_silent : {R : Type 0} {s s' s'' : Script R} {us : List ℕ} {at to at' to' : ℕ} → StepsTo s s' us at to at' to' → (at' < refused → Goes s' s'' (drop at' us) (drop at' us) 0) → StepsTo s s'' us at to at' to'
steps_silent {to = to} {to' = to'} steps silent =
    record {
      goes = λ on. goes_is refl (Nat.add-zero (to' - to)) (goes_on (steps.goes on) (silent on));
      moves = steps.moves;
      stops = steps.stops;
      ready = steps.ready;
    }

-- ---- by the reader's functions

module _ {A : Type 0} (L : Layout A) {us m m' : List ℕ} {at to at' to' : ℕ} (inside : at ≤ length us) (laid : Laid L.format way us m m' at to at' to') where
  comes : (b : Bool) → ltb at' refused ≡ b → pass to_words us (L ⟫ done) at to m ≡ cond b (through at' to' m') (stopped to' (at' - refused))
  comes b e =
      let short = laid.carried.ready.short in
      sym (behind_going way us m at to (L ⟫ done) (omega arith)) ∙ laid.carried.runs done ∙ ap (λ b. cond b (through at' to' m') (stopped to' (at' - refused))) e

  says : Says us to (pass to_words us (L ⟫ done) at to m) (tallied (L ⟫ done) (drop at us))
  says = pass-says us (L ⟫ done) at to m inside

  layout_going : at' < refused → (w : ℕ) × (tallied (L ⟫ done) (drop at us) ≡ found (tt, w) (drop at' us)) × (to' ≡ to + w) × (at' ≤ length us)
  layout_going on = by (tallied (L ⟫ done) (drop at us)) says
    where
      went : pass to_words us (L ⟫ done) at to m ≡ through at' to' m'
      went = comes true (lt-ltb at' refused on)

      by : (o : Outcome (Unit {0} × ℕ)) → Says us to (pass to_words us (L ⟫ done) at to m) o → (w : ℕ) × (o ≡ found (tt, w) (drop at' us)) × (to' ≡ to + w) × (at' ≤ length us)
      by (found t rest) s =
          let same : through at' to' m' ≡ through s.0 (to + t.1) s.1 = sym went ∙ s.4 in
          let at-is : at' ≡ s.0 = cc in
          let to_is : to' ≡ to + t.1 = cc in
          let there = s.2 in
          (t.1, ap (λ l. found t l) (s.3 ∙ ap (λ n. drop n us) (sym at-is)), to_is, omega arith)
      by (C.refused n place) s = let same : through at' to' m' ≡ stopped n s.0 = sym went ∙ s.3 in let z : ◌≡◌ {A = ℕ} 0 1 = cc in absurd (omega arith)

  layout_gone : refused ≤ at' → (tallied (L ⟫ done) (drop at us) ≡ C.refused to' (drop (at' - refused) us)) × (at' - refused ≤ length us)
  layout_gone off = by (tallied (L ⟫ done) (drop at us)) says
    where
      went : pass to_words us (L ⟫ done) at to m ≡ stopped to' (at' - refused)
      went = comes false (le-ltb at' refused off)

      by : (o : Outcome (Unit {0} × ℕ)) → Says us to (pass to_words us (L ⟫ done) at to m) o → (o ≡ C.refused to' (drop (at' - refused) us)) × (at' - refused ≤ length us)
      by (found t rest) s = let same : stopped to' (at' - refused) ≡ through s.0 (to + t.1) s.1 = sym went ∙ s.4 in let z : ◌≡◌ {A = ℕ} 0 1 = cc in absurd (omega arith)
      by (C.refused n place) s =
          let same : stopped to' (at' - refused) ≡ stopped n s.0 = sym went ∙ s.3 in
          let number_is : n ≡ to' = cc in
          let at-is : at' - refused ≡ s.0 = cc in
          let there = s.1 in
          (ap (λ n. C.refused n place) number_is ∙ ap (λ l. C.refused to' l) (s.2 ∙ ap (λ n. drop n us) (sym at-is)), omega arith)

-- What was found moves on: it takes a byte, and no more words than bytes.
moved : {R : Type 0} (s : Script R) (us : List ℕ) {at at' to to' w : ℕ} {r : R} → Asks s → at ≤ length us → at' ≤ length us → to' ≡ to + w → tallied s (drop at us) ≡ found (r, w) (drop at' us)
    → (at < at') × (at' ≤ length us) × (to ≤ to') × (to' + at ≤ to + at')
moved s us {at} {at'} {r = r} asks inside there to_is is =
    let before : length (drop at us) ≡ length us - at = length-drop at us in
    let after : length (drop at' us) ≡ length us - at' = length-drop at' us in
    let less = asks_takes s asks (drop at us) (r, _) (drop at' us) is in
    let few = found_shorter s (drop at us) (r, _) (drop at' us) is in
    (omega arith, there, omega arith, omega arith)

-- A layout that is judged whole.
module _ {A R : Type 0} (L : Layout A) {n : ℕ} (most : Most n L) (fits : n ≤ room) (asks : Asks (L ⟫ done)) (K : Script R) {us m m' : List ℕ} {at to at' to' : ℕ} (inside : at ≤ length us) (laid : Laid L.format way us m m' at to at' to') where
  pub layout_steps : StepsTo (script L.format (λ a. K)) K us at to at' to'
  layout_steps =
      record {
        goes = λ on.
            let g = layout_going L inside laid on in
            let to_is = g.2 in
            let words : g.0 ≡ to' - to = omega arith in
            goes_is refl words (layout_goes L K g.1);
        moves = λ on. let g = layout_going L inside laid on in moved (L ⟫ done) us asks inside g.3 g.2 g.1;
        stops = λ off. let g = layout_gone L inside laid off in (layout_stops L K (most_under room fits most) g.0, g.1);
        ready = laid.carried.ready;
      }

-- A field whose value tells what follows.
module _ {R : Type 0} (k : Kind) (wide : 0 < byte_fields.width k.shape) (fits : byte_fields.width k.shape ≤ room) (next : ℕ → Script R) {us m m' : List ℕ} (below : Below 256 us) {at to : ℕ} {q : FieldPass} (inside : at ≤ length us) (asked : Asked k way us m m' at to q) where
  abbrev words : ℕ
  words = word_fields.width k.shape

  laid-field : Laid (field k).format way us m m' at to q.pass.at q.pass.to
  laid-field = valued-laid asked

  read_going : q.pass.at < refused → bytes.read k (drop at us) ≡ found q.value (drop q.pass.at us)
  read_going on = by (bytes.read k (drop at us)) refl (layout_going (field k) inside laid-field on).1 (takes k bytes_sensible below inside asked)
    where
      by : (o : Outcome ℕ) → bytes.read k (drop at us) ≡ o → and_then o (λ v rest. plus words (found (tt {0}, 0) rest)) ≡ found (tt {0}, (layout_going (field k) inside laid-field on).0) (drop q.pass.at us)
          → Takes k way us m m' to q o → o ≡ found q.value (drop q.pass.at us)
      by (found v rest) e h t =
          let there : rest ≡ drop q.pass.at us = cc in
          ap (λ v. found v rest) (sym t.0) ∙ ap (λ l. found q.value l) there
      by (C.refused n place) e h t = let z : ◌≡◌ {A = ℕ} 0 1 = cc in absurd (omega arith)

  read_gone : refused ≤ q.pass.at → (bytes.read k (drop at us) ≡ C.refused q.pass.to (drop (q.pass.at - refused) us)) × (q.pass.at - refused ≤ length us)
  read_gone off = let g = layout_gone (field k) inside laid-field off in (by (bytes.read k (drop at us)) g.0, g.1)
    where
      by : (o : Outcome ℕ) → and_then o (λ v rest. plus words (found (tt {0}, 0) rest)) ≡ C.refused q.pass.to (drop (q.pass.at - refused) us) → o ≡ C.refused q.pass.to (drop (q.pass.at - refused) us)
      by (found v rest) h = let z : ◌≡◌ {A = ℕ} 0 1 = cc in absurd (omega arith)
      by (C.refused n place) h = ap (λ o. and_then o (λ t l. found 0 l)) h

  pub field_steps : StepsTo (ask k next) (next q.value) us at to q.pass.at q.pass.to
  field_steps =
      record {
        goes = λ on.
            let g = layout_going (field k) inside laid-field on in
            let to_is = g.2 in
            let width : words ≡ q.pass.to - to = omega (arith, counted on) in
            goes_is refl width (field-goes k next (read_going on));
        moves = λ on. let g = layout_going (field k) inside laid-field on in moved (field k ⟫ done) us wide inside g.3 g.2 g.1;
        stops = λ off. let g = read_gone off in (field_stops k next fits g.0, g.1);
        ready = asked.ready;
      }
    where
      counted : (on : q.pass.at < refused) → (layout_going (field k) inside laid-field on).0 ≡ words
      counted on =
          let g = layout_going (field k) inside laid-field on in
          let both : ◌≡◌ {A = Outcome (Unit {0} × ℕ)} (found (tt, words + 0) (drop q.pass.at us)) (found (tt, g.0) (drop q.pass.at us)) = sym (ap (λ o. and_then o (λ v rest. plus words (found (tt {0}, 0) rest))) (read_going on)) ∙ g.1 in
          let pair : ◌≡◌ {A = Unit {0} × ℕ} (tt, words + 0) (tt, g.0) = cc in
          let same : words + 0 ≡ g.0 = ap (λ (t : Unit {0} × ℕ). t.1) pair in
          omega arith
