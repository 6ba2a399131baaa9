-- What running over some bytes, part by part, promises.
use Rattle.std.specs.Prelude.{◌≡◌, refl, ◌⊎◌, cond, ℕ, ◌+◌, ◌-◌, ◌<◌, ◌≤◌, List, ltb, length, drop}
use Rattle.std.proofs.Common.{sym, ◌∙◌, subst, inl, inr, arith}
use Rattle.ways.specs.Passes.{refused, Ready}
use Rattle.pieces.specs.Going.{Goes, Stops, goes_nowhere, goes_on, goes_is}
use Rattle.pieces.specs.Parts.{rest}
use Rattle.session_run.specs.declared.place.Place.{Place}
use Rattle.session_run.specs.declared.cursor.Step.{Step}
use Rattle.session_run.specs.declared.run.Ran.{Ran}
use Rattle.session_run.specs.Objects.{standing_of, Sound, Over, PlaceSteps}

-- From the beginning of some bytes to a place in them: what is left comes to the same, with so many words more.
pub record Came (p : Place) (ms : List ℕ) (p' : Place) (ms' us : List ℕ) (to at to' : ℕ) : Type 0 where
  pub goes : Goes (rest (standing_of p ms)) (rest (standing_of p' ms')) us (drop at us) (to' - to)
  pub there : at ≤ length us
  pub few_words : (to ≤ to') × (to' ≤ to + at)
  pub few-rows : p'.rows ≤ p.rows + at
  pub sound : Sound p'
  pub sized : length ms' ≡ length ms
  pub ready : Ready (length us) at to'

-- It stopped there: at a field that is cut or at fault, or behind the outer group.
pub record Runs (p : Place) (ms ms' us : List ℕ) (to : ℕ) (r : Ran) : Type 0 where
  pub came : Came p ms r.place ms' us to r.at r.to
  pub inside : r.stop ≤ length us
  pub ended : Stops (rest (standing_of r.place ms')) (drop r.at us) r.number (drop r.stop us)
      ⊎ (Over r.place × (r.stop ≡ r.at) × (r.number ≡ cond (ltb r.at (length us)) 13 0))

pub came_nowhere : {p : Place} {ms us : List ℕ} {to : ℕ} → Sound p → Ready (length us) 0 to → Came p ms p ms us to 0 to
came_nowhere {us = us} {to} sound ready =
    let none_more : 0 ≡ to - to = omega arith in
    record { goes = goes_is refl none_more goes_nowhere; there = omega arith; few_words = (omega arith, omega arith); few-rows = omega arith; sound = sound; sized = refl; ready = ready }

module _ {p p' : Place} {ms ms' us : List ℕ} {to at to' : ℕ} (came : Came p ms p' ms' us to at to') where
  -- One part more.
  pub came_on : {ms'' : List ℕ} {r : Step Place} → r.pass.at < refused → PlaceSteps p' ms' ms'' us at to' r → Came p ms r.left ms'' us to r.pass.at r.pass.to
  came_on {ms''} {r} on step =
      let moves = step.steps.moves on in
      let further = moves.0 in
      let least = moves.2 in
      let few = moves.3 in
      let before = came.few_words in
      let low = before.0 in
      let high = before.1 in
      let rows = step.few-rows in
      let rows_before = came.few-rows in
      let sum : to' - to + (r.pass.to - to') ≡ r.pass.to - to = omega arith in
      record {
        goes = goes_is refl sum (goes_on came.goes (step.steps.goes on));
        there = moves.1;
        few_words = (omega arith, omega arith);
        few-rows = omega arith;
        sound = step.sound on;
        sized = step.sized ∙ came.sized;
        ready = step.steps.ready;
      }

  -- It is refused here.
  pub came_stopped : {ms'' : List ℕ} {r : Step Place} → refused ≤ r.pass.at → PlaceSteps p' ms' ms'' us at to' r → Runs p ms ms'' us to (record { place = p'; at = at; to = to'; number = r.pass.to; stop = r.pass.at - refused })
  came_stopped {ms''} {r} off step =
      subst (λ ms''. Runs p ms ms'' us to (record { place = p'; at = at; to = to'; number = r.pass.to; stop = r.pass.at - refused })) (sym (step.kept off))
      (let stops = step.steps.stops off in record { came = came; inside = stops.1; ended = inl stops.0 })

  -- Nothing is left.
  pub came_over : Over p' → {n : ℕ} → n ≡ cond (ltb at (length us)) 13 0 → Runs p ms ms' us to (record { place = p'; at = at; to = to'; number = n; stop = at })
  came_over over is = record { came = came; inside = came.there; ended = inr (over, refl, is) }
