-- Going on from some bytes: what is left comes to the same, whatever comes behind.
use Rattle.std.specs.Prelude.{◌≡◌, refl, ◌⊎◌, ℕ, ◌+◌, ◌<◌, List, ◌++◌, length}
use Rattle.std.proofs.Common.{sym, ap, ◌∙◌, inl, inr}
use Rattle.format.specs.Codec.{Outcome, found, refused, and_then}
use Rattle.format.specs.Script.{Script, end, ask}
use Rattle.format.specs.Format.{script}
use Rattle.format.specs.Layout.{Layout}
use Rattle.format.specs.ParsingLaws.{followed, followed-script}
use Rattle.format.specs.Pass.{◌⟫◌, done}
use Rattle.drawing.specs.Codecs.{word_fields}
use Rattle.drawing.specs.Reading.{bytes}
use Rattle.format.specs.Kind.{Kind}
use Rattle.pieces.specs.Tally.{plus, tallied}
use Rattle.pieces.specs.TallyLaws.{plus-zero, plus-plus, found_more, Under, Halted, halted, tallied-followed}

-- The room for bytes of a part that is not all there.
abbrev pub room : ℕ
room = 184

-- From these bytes on one script comes to what the other does from those on, with so many words more.
pub record Goes {R : Type 0} (s s' : Script R) (us us' : List ℕ) (words : ℕ) : Type 0 where
  pub same : (more : List ℕ) → tallied s (us ++ more) ≡ plus words (tallied s' (us' ++ more))

-- It is refused here: for good, or cut, and what is there has room.
pub record Stops {R : Type 0} (s : Script R) (us : List ℕ) (n : ℕ) (place : List ℕ) : Type 0 where
  pub now : tallied s us ≡ refused n place
  pub then : Halted room s us n place

pub goes_nowhere : {R : Type 0} {s : Script R} {us : List ℕ} → Goes s s us us 0
goes_nowhere {s = s} {us} = record { same = λ more. sym (plus-zero (tallied s (us ++ more))) }

pub goes_on : {R : Type 0} {s s' s'' : Script R} {us us' us'' : List ℕ} {a b : ℕ} → Goes s s' us us' a → Goes s' s'' us' us'' b → Goes s s'' us us'' (a + b)
goes_on {s'' = s''} {us'' = us''} {a = a} {b} first second =
    record { same = λ more. first.same more ∙ ap (plus a) (second.same more) ∙ plus-plus a b (tallied s'' (us'' ++ more)) }

pub goes_is : {R : Type 0} {s s' : Script R} {us us' us'' : List ℕ} {a b : ℕ} → us' ≡ us'' → a ≡ b → Goes s s' us us' a → Goes s s' us us'' b
goes_is {s' = s'} {us'' = us''} {a = a} there so goes =
    record { same = λ more. goes.same more ∙ ap (λ l. plus a (tallied s' (l ++ more))) there ∙ ap (λ w. plus w (tallied s' (us'' ++ more))) so }

-- Scripts that come to the same, said otherwise.
pub goes_same : {R : Type 0} {s t t' s' : Script R} {us us' : List ℕ} {w : ℕ} → s ≡ t → t' ≡ s' → Goes t t' us us' w → Goes s s' us us' w
goes_same {us = us} {us'} {w} first last goes =
    record { same = λ more. ap (λ s. tallied s (us ++ more)) first ∙ goes.same more ∙ ap (λ s. plus w (tallied s (us' ++ more))) last }

pub stops_same : {R : Type 0} {s t : Script R} {us place : List ℕ} {n : ℕ} → s ≡ t → Stops t us n place → Stops s us n place
stops_same {R} {s} {t} {us} {place} {n} is stops = record { now = ap (λ s. tallied s us) is ∙ stops.now; then = by stops.then }
  where
    by : Halted room t us n place → Halted room s us n place
    by (inl stays) = inl (λ more. ap (λ s. tallied s (us ++ more)) is ∙ stays more)
    by (inr short) = inr short

-- ---- a part, and what comes behind it

module _ {A R : Type 0} (s : Script A) (then : A → Script R) {us : List ℕ} where
  pub part_goes : {a : A} {w : ℕ} {rest : List ℕ} → tallied s us ≡ found (a, w) rest → Goes (followed s then) (then a) us rest w
  part_goes {a} {w} {rest} is =
      record {
        same = λ more.
            tallied-followed s then (us ++ more)
            ∙ ap (λ o. and_then o (λ t rest. plus t.1 (tallied (then t.0) rest))) (found_more s us (a, w) rest is more);
      }

  pub part_stops : {n : ℕ} {place : List ℕ} → Under room s → tallied s us ≡ refused n place → Stops (followed s then) us n place
  part_stops {n} {place} under is =
      record {
        now = tallied-followed s then us ∙ ap (λ o. and_then o (λ t rest. plus t.1 (tallied (then t.0) rest))) is;
        then = by (halted room s under us n place is);
      }
    where
      by : Halted room s us n place → Halted room (followed s then) us n place
      by (inl stays) =
          inl (λ more. tallied-followed s then (us ++ more) ∙ ap (λ o. and_then o (λ t rest. plus t.1 (tallied (then t.0) rest))) (stays more))
      by (inr short) = inr short

-- What goes on or stops does so with anything behind its script.
module _ {A R : Type 0} (s : Script A) (then : A → Script R) {us : List ℕ} where
  pub goes-behind : (s' : Script A) {us' : List ℕ} {w : ℕ} → Goes s s' us us' w → Goes (followed s then) (followed s' then) us us' w
  goes-behind s' {us'} {w} goes =
      record {
        same = λ more.
            tallied-followed s then (us ++ more)
            ∙ ap (λ o. and_then o (λ t rest. plus t.1 (tallied (then t.0) rest))) (goes.same more)
            ∙ moved (tallied s' (us' ++ more))
            ∙ ap (plus w) (sym (tallied-followed s' then (us' ++ more)));
      }
    where
      moved : (o : Outcome (A × ℕ))
          → and_then (plus w o) (λ t rest. plus t.1 (tallied (then t.0) rest)) ≡ plus w (and_then o (λ t rest. plus t.1 (tallied (then t.0) rest)))
      moved (found t rest) = sym (plus-plus w t.1 (tallied (then t.0) rest))
      moved (refused n place) = refl

  pub stops_behind : {n : ℕ} {place : List ℕ} → Stops s us n place → Stops (followed s then) us n place
  stops_behind {n} {place} stops =
      record {
        now = tallied-followed s then us ∙ ap (λ o. and_then o (λ t rest. plus t.1 (tallied (then t.0) rest))) stops.now;
        then = by stops.then;
      }
    where
      by : Halted room s us n place → Halted room (followed s then) us n place
      by (inl stays) =
          inl (λ more. tallied-followed s then (us ++ more) ∙ ap (λ o. and_then o (λ t rest. plus t.1 (tallied (then t.0) rest))) (stays more))
      by (inr short) = inr short

-- ---- layouts and fields

-- A layout's fields, and then a script.
pub led : {A R : Type 0} (L : Layout A) (K : Script R) → script L.format (λ a. K) ≡ followed (L ⟫ done) (λ u. K)
led L K = sym (followed-script L.format (λ a. done) (λ u. K))
