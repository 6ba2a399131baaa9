-- Markers in parts, and a chain of them, one marker further.
use Rattle.std.specs.Prelude.{◌≡◌, refl, Bool, true, false, cond, ◌&&◌, ℕ, zero, suc, ◌+◌, ◌-◌, ◌<◌, ◌≤◌, List, eqb, leb, length}
use Rattle.std.proofs.Common.{ap, ◌∙◌, subst, arith, eq-eqb, ne_eqb, le-leb}
use Rattle.std.proofs.Math.Option.{Option, none}
use Rattle.format.specs.Digits.{Below}
use Rattle.format.specs.Kind.{Allowed}
use Rattle.format.specs.Script.{Script}
use Rattle.format.specs.Format.{one}
use Rattle.format.specs.Layout.{Layout, field, when, ◌&◌, ◌▸◌}
use Rattle.format.specs.Pass.{◌⟫◌}
use Rattle.drawing.specs.Choices.{if_flag, unless_flag}
use Rattle.drawing.specs.Fields.{flag, byte_in, float, marker_id}
use Rattle.drawing.specs.Marker.{last_marker, arrow, marker, marker_body}
use Rattle.drawing.specs.MarkerChain.{chain, markers}
use Rattle.ways.specs.declared.Pass.{Pass}
use Rattle.ways.specs.Way.{Way, source_units, value_at}
use Rattle.ways.specs.Passes.{Ready, behind}
use Rattle.ways.specs.Carries.{Progress, Carried, Laid, Valued}
use Rattle.ways.specs.LayoutLaws.{same-laid}
use Rattle.ways.specs.StepLaws.{there_below}
use Rattle.ways.specs.Moves.{Moved, moved_valued}

-- ---- parts of a marker

-- A flag, and a float where the flag has this value.
abbrev pub flagged_float : ℕ → Layout (ℕ × ℕ)
flagged_float value = field flag ▸ λ v. when (eqb v value) (field float) 0

-- Size, repeats and whether it is reversed.
abbrev pub marker_head : Layout (ℕ × (ℕ × ℕ))
marker_head = field float & field (byte_in 1 3) & field flag

-- The overlay flag, and from 1.4 on the offsets of a marker that is none.
abbrev pub overlay : ℕ → Layout (ℕ × (Option ℕ × Option ℕ))
overlay v = field flag ▸ λ is. when (leb 4 v && eqb is 0) (if_flag (field float) & if_flag (field float)) (none, none)

module _ {W : Way} {us m m' : List ℕ} {at to at' to' : ℕ} where
  pub if_flag_lem : Laid (flagged_float 1).format W us m m' at to at' to' → Laid (if_flag (field float)).format W us m m' at to at' to'
  if_flag_lem part = same-laid (λ K. refl) part

  pub unless-flag : Laid (flagged_float 0).format W us m m' at to at' to' → Laid (unless_flag (field float)).format W us m m' at to at' to'
  unless-flag part = same-laid (λ K. refl) part

-- ---- a chain

-- What follows an id that is not 0; it is the same for every id.
abbrev pub marked : (v left : ℕ) → Script (Unit {0}) → Script (Unit {0})
marked v left K = marker_body v 0 ⟫ cond (leb 1 v) (chain v left ⟫ K) K

module _ (v : ℕ) {high : ℕ} (high_is : high ≡ last_marker v) {W : Way} {us m m' : List ℕ} {at to at' to' id : ℕ} where
  asks : (more : Bool) → Valued (one (marker_id high more)) id W us m m' at to at' to' → Valued (one (marker_id (last_marker v) more)) id W us m m' at to at' to'
  asks more asked = subst (λ h. Valued (one (marker_id h more)) id W us m m' at to at' to') high_is asked

  -- An id of 0 ends it.
  pub chain-ends : (left : ℕ) → 0 < left → Valued (one (marker_id high true)) id W us m m' at to at' to' → id ≡ 0 → Carried (λ K. chain v left ⟫ K) W us m m' at to at' to'
  chain-ends zero some asked is = absurd (omega arith)
  chain-ends (suc n) some asked is =
      record {
        runs = λ K. (asks true asked).runs (λ i. cond (eqb i 0) K (marked v n K)) ∙ ap (λ t. behind W us m' at' to' (cond t K (marked v n K))) (eq-eqb id 0 is);
        ready = asked.ready;
        same_length = asked.same_length;
      }

  -- The chain is as long as it may be.
  pub chain-over : (left : ℕ) → (0 < left → ⊥) → Valued (one (marker_id high false)) id W us m m' at to at' to' → Carried (λ K. chain v left ⟫ K) W us m m' at to at' to'
  chain-over zero over asked =
      record { runs = λ K. (asks false asked).runs (λ i. K); ready = asked.ready; same_length = asked.same_length }
  chain-over (suc n) over asked = absurd (over (omega arith))

  -- A marker follows.
  pub chain-goes-on : (left : ℕ) → 0 < left → Valued (one (marker_id high true)) id W us m m' at to at' to' → (id ≡ 0 → ⊥) → Progress (λ K. chain v left ⟫ K) (marked v (left - 1)) W us m m' at to at' to'
  chain-goes-on zero some asked more = absurd (omega arith)
  chain-goes-on (suc n) some asked more =
      record {
        runs = λ K.
            (asks true asked).runs (λ i. cond (eqb i 0) K (marked v n K))
            ∙ ap (λ t. behind W us m' at' to' (cond t K (marked v n K))) (ne_eqb id 0 more)
            ∙ ap (λ left. behind W us m' at' to' (marked v left K)) (less_one n);
        ready = asked.ready;
        same_length = asked.same_length;
      }
    where
      less_one : (n : ℕ) → n ≡ suc n - 1
      less_one n = omega arith

-- The version tells what a marker's fields are, and whether a chain follows.
one_test : (new : Bool) (F G : Script (Unit {0}) → Script (Unit {0})) (X K : Script (Unit {0})) → cond new (F (cond new X K)) (G (cond new X K)) ≡ cond new (F X) (G K)
one_test true F G X K = refl
one_test false F G X K = refl

marked_by : (v left : ℕ) (new : Bool) → leb 1 v ≡ new → (K : Script (Unit {0})) → marked v left K ≡ cond new (marker v 0 ⟫ chain v left ⟫ K) (arrow 0 ⟫ K)
marked_by v left new e K =
    one_test (leb 1 v) (λ X. marker v 0 ⟫ X) (λ X. arrow 0 ⟫ X) (chain v left ⟫ K) K
    ∙ ap (λ t. cond t (marker v 0 ⟫ chain v left ⟫ K) (arrow 0 ⟫ K)) e

module _ (v left : ℕ) {W : Way} {us m m' : List ℕ} {at to at' to' : ℕ} where
  -- In 1.0 a marker is an arrow, and ends the chain.
  pub arrow-marked : leb 1 v ≡ false → Laid (arrow 0).format W us m m' at to at' to' → Carried (marked v left) W us m m' at to at' to'
  arrow-marked old part =
      record {
        runs = λ K. ap (behind W us m at to) (marked_by v left false old K) ∙ part.carried.runs K;
        ready = part.carried.ready;
        same_length = part.carried.same_length;
      }

  -- From 1.1 on another one may follow.
  pub marker-marked : leb 1 v ≡ true → Laid (marker v 0).format W us m m' at to at' to' → Progress (marked v left) (λ K. chain v left ⟫ K) W us m m' at to at' to'
  marker-marked new part =
      record {
        runs = λ K. ap (behind W us m at to) (marked_by v left true new K) ∙ part.carried.runs (chain v left ⟫ K);
        ready = part.carried.ready;
        same_length = part.carried.same_length;
      }

-- ---- a chain of none

none_allowed : (high id : ℕ) → id ≡ 0 → Allowed (marker_id high true) id
none_allowed high id is = rw is (record { fits = omega arith; faultless = rw (le-leb 0 high (omega arith)) })

-- An id of 0 that is there is only moved.
pub no_markers : (v : ℕ) {W : Way} {us m m' : List ℕ} {at to : ℕ} {r : Pass} → Below W.source.base us → Ready (length us) at to → at + source_units W 1 ≤ length us → value_at W 1 us at ≡ 0 → Moved W 1 1 us m m' at to r
    → Laid (markers v).format W us m m' at to r.at r.to
no_markers v {W} {us} {at = at} below ready inside is moved =
    record {
      carried =
          chain-ends v refl 4 (omega arith)
          (moved_valued (marker_id (last_marker v) true) refl (omega arith) (omega arith) ready (there_below W us at 1 below inside) (none_allowed (last_marker v) (value_at W 1 us at) is) moved) is;
    }
