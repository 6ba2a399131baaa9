-- How far a pass has come, as the code has it, and what is then still to come.
use Rattle.std.specs.Prelude.{◌≡◌, cond, ℕ, ◌+◌, ◌-◌, ◌*◌, ◌^◌, ◌<◌, ◌≤◌, List, ltb}
use Rattle.std.proofs.Common.{sym, ap, ◌∙◌, arith, lt-ltb, le-ltb}
use Rattle.std.proofs.Math.Nat as Nat
use Rattle.format.specs.Script.{Script}
use Rattle.format.specs.Pass.{Passed, stopped, pass}
use Rattle.drawing.specs.Limits.{length_limit}
use Rattle.ways.specs.declared.Pass.{Pass}
use Rattle.ways.specs.Way.{Way, route, source_units, target_units}

-- No source is so long. From here on a place is that of a refusal.
abbrev pub refused : ℕ
refused = 1_073_741_824

-- What comes of these fields behind what was passed, with the memory as it then is.
abbrev pub behind : Way → (us m : List ℕ) → (at to : ℕ) → Script (Unit {0}) → Passed
behind W us m at to K = cond (ltb at refused) (pass (route W) us K at to m) (stopped to (at - refused))

-- The source is not too long; a pass that goes on is in it, and its place in the target is small enough to go on counting.
pub record Ready (total at to : ℕ) : Type 0 where
  pub short : total ≤ length_limit
  pub near : at ≤ refused + total
  pub inside : at < refused → at ≤ total
  pub few : at < refused → to ≤ 2 ^ 40 + 8 * at

abbrev pub refusal_of : Way → (number at : ℕ) → Pass
refusal_of W n at = record { at = W.place at + refused; to = W.number n }

-- Behind so many fields of a size.
abbrev pub stepped : Way → (size count at to : ℕ) → Pass
stepped W size count at to = record { at = at + count * source_units W size; to = to + count * target_units W size }

-- Behind fields of so many bytes in a file and words in a table.
abbrev pub ahead_of : Way → (bytes words at to : ℕ) → Pass
ahead_of W bytes words at to = record { at = at + W.source.pick bytes words; to = to + W.target.pick bytes words }

-- ---- laws

pub behind_going : (W : Way) (us m : List ℕ) (at to : ℕ) (K : Script (Unit {0})) → at < refused → behind W us m at to K ≡ pass (route W) us K at to m
behind_going W us m at to K going = ap (λ b. cond b (pass (route W) us K at to m) (stopped to (at - refused))) (lt-ltb at refused going)

pub behind-stopped : (W : Way) (us m : List ℕ) (at to : ℕ) (K : Script (Unit {0})) → refused ≤ at → behind W us m at to K ≡ stopped to (at - refused)
behind-stopped W us m at to K gone = ap (λ b. cond b (pass (route W) us K at to m) (stopped to (at - refused))) (le-ltb at refused gone)

-- What has been refused stays so.
pub behind_gone : (W : Way) (us m m' : List ℕ) (at to : ℕ) (these those : Script (Unit {0})) → refused ≤ at → behind W us m at to these ≡ behind W us m' at to those
behind_gone W us m m' at to these those gone = behind-stopped W us m at to these gone ∙ sym (behind-stopped W us m' at to those gone)

-- A refusal has come of a pass, whatever was to come.
pub behind-refusal : (W : Way) (us m : List ℕ) (n at : ℕ) (K : Script (Unit {0})) → behind W us m (refusal_of W n at).at (refusal_of W n at).to K ≡ stopped (W.number n) (W.place at)
behind-refusal W us m n at K =
    let back : W.place at + refused - refused ≡ W.place at = omega arith in
    behind-stopped W us m (W.place at + refused) (W.number n) K (omega arith) ∙ ap (stopped (W.number n)) back

pub refusal_ready : (W : Way) (n at total : ℕ) → total ≤ length_limit → at ≤ total → Ready total (refusal_of W n at).at (refusal_of W n at).to
refusal_ready W n at total short inside =
    let before = W.before at in
    record { short = short; near = omega arith; inside = λ h. absurd (omega arith); few = λ h. absurd (omega arith) }

-- The sums stay small.
few-behind : (at to count wide far : ℕ) → to ≤ 2 ^ 40 + 8 * at → 0 < wide → far ≤ 8 → to + count * far ≤ 2 ^ 40 + 8 * (at + count * wide)
few-behind at to count wide far few positive small =
    let a : count * far ≤ count * 8 = Nat.mul-le-mul_left count small in
    let b : count * 1 ≤ count * wide = Nat.mul-le-mul_left count positive in
    omega arith

module _ (W : Way) (size count : ℕ) {total at to : ℕ} (ready : Ready total at to) (inside : at + count * source_units W size ≤ total) where
  -- Fields that are there are those of a pass that goes on.
  pub still_going : at < refused
  still_going = let short = ready.short in omega arith

  module _ (least : 0 < size) (most : size ≤ 8) where
    few-then : to + count * target_units W size ≤ 2 ^ 40 + 8 * (at + count * source_units W size)
    few-then = few-behind at to count (source_units W size) (target_units W size) (ready.few still_going) (W.source.least size least) (W.target.most size most)

    pub stepped_ready : Ready total (stepped W size count at to).at (stepped W size count at to).to
    stepped_ready =
        let short = ready.short in
        let few = few-then in
        record { short = short; near = omega arith; inside = λ h. inside; few = λ h. few }

    -- What a step needs.
    pub step_small : (at + count * source_units W size < 2 ^ 60) × (to + count * target_units W size < 2 ^ 60)
    step_small =
        let short = ready.short in
        let few = few-then in
        (omega arith, omega arith)
