-- What each way through the loops over points and segments comes to: what is left comes to the same.
use Rattle.std.specs.Prelude.{◌≡◌, Bool, true, false, cond, List, ◌∷◌, ◌++◌, length, get_or, eqb}
use Rattle.std.proofs.Common.{sym, subst, ◌∙◌}
use Rattle.std.proofs.Math.Path.{ap}
use Prim.Native.Nat.{ℕ, zero, suc, ◌+◌, ◌-◌, ◌*◌, ◌<◌, ◌≤◌}
use Prim.Native.Char.{code}
use native.Mathlib.Omega.{arith}
use Rattle.drawing.specs.declared.Extent.{Extent}
use Rattle.drawing.specs.declared.ExtentAnswer.{ExtentAnswer}
use Rattle.drawing.specs.Path.{Point}
use Rattle.drawing.specs.Extent.{widened}
use Rattle.extent.specs.Points.{point_at, nan_at, points_at, points_of, next_at, segments_at, segments_end, SegmentsInside, folded}
use Rattle.extent.specs.BoxLaws.{no_number, folded-none, folded_nan, folded_on, append-on, append-ends}

-- ---- points

before-one : (m : ℕ) → m ≡ suc m - 1
before-one m = omega arith

module _ (ws : List ℕ) (at : ℕ) where
  points-one : (n : ℕ) → 0 < n → points_at ws at n ≡ point_at ws at ∷ points_at ws (at + 4) (n - 1)
  unfolding points_at
  points-one zero more = absurd (omega arith)
  points-one (suc m) more = ap (λ k. point_at ws at ∷ points_at ws (at + 4) k) (before-one m)

module _ (ws : List ℕ) (b : Extent) (at : ℕ) where
  pub no_points : (n : ℕ) → n ≤ 0 → folded b (points_at ws at n) ≡ record { number = 0; extent = b }
  unfolding points_at
  no_points zero none = folded-none b
  no_points (suc m) none = absurd (omega arith)

  module _ (n : ℕ) (more : 0 < n) where
    pub point_nan : nan_at ws at ≡ true → folded b (points_at ws at n) ≡ no_number
    point_nan is = ap (folded b) (points-one ws at n more) ∙ folded_nan b (point_at ws at) (points_at ws (at + 4) (n - 1)) is

    pub point-on : nan_at ws at ≡ false → folded b (points_at ws at n) ≡ folded (widened b (point_at ws at)) (points_at ws (at + 4) (n - 1))
    point-on is = ap (folded b) (points-one ws at n more) ∙ folded_on b (point_at ws at) (points_at ws (at + 4) (n - 1)) is

-- ---- segments

module _ (ws : List ℕ) (own : ℕ) where
  -- No segment ends before it begins.
  later : (at n : ℕ) → at ≤ segments_end ws at own n
  unfolding segments_end
  later at zero = omega arith
  later at (suc n) = omega (arith, later (next_at ws at own) n)

  segments-one : (at n : ℕ) → 0 < n → segments_at ws at own n ≡ points_at ws (at + 1) (points_of (get_or ws at 0) own) ++ segments_at ws (next_at ws at own) own (n - 1)
  unfolding segments_at
  segments-one at zero more = absurd (omega arith)
  segments-one at (suc m) more = ap (λ k. points_at ws (at + 1) (points_of (get_or ws at 0) own) ++ segments_at ws (next_at ws at own) own k) (before-one m)

  ends-one : (at n : ℕ) → 0 < n → segments_end ws at own n ≡ segments_end ws (next_at ws at own) own (n - 1)
  unfolding segments_end
  ends-one at zero more = absurd (omega arith)
  ends-one at (suc m) more = ap (λ k. segments_end ws (next_at ws at own) own k) (before-one m)

  pub no_segments : (b : Extent) (at n : ℕ) → n ≤ 0 → folded b (segments_at ws at own n) ≡ record { number = 0; extent = b }
  unfolding segments_at
  no_segments b at zero none = folded-none b
  no_segments b at (suc m) none = absurd (omega arith)

  -- One segment, of k points.
  module _ (at n : ℕ) {k : ℕ} (k-is : k ≡ points_of (get_or ws at 0) own) (more : 0 < n) where
    module _ (inside : SegmentsInside ws at own n) where
      ends : segments_end ws (at + 1 + 4 * k) own (n - 1) ≡ segments_end ws at own n
      ends = ap (λ j. segments_end ws (at + 1 + 4 * j) own (n - 1)) k-is ∙ sym (ends-one at n more)

      pub segment-inside : at + 1 + 4 * k ≤ length ws
      segment-inside = omega (arith, later (at + 1 + 4 * k) (n - 1), ends, inside.inside)

      pub segments-left : SegmentsInside ws (at + 1 + 4 * k) own (n - 1)
      segments-left = record { own_is = inside.own_is; inside = subst (λ e. e ≤ length ws) (sym ends) inside.inside }

    module _ (b : Extent) {a : ExtentAnswer} (is : a ≡ folded b (points_at ws (at + 1) k)) where
      these : segments_at ws at own n ≡ points_at ws (at + 1) k ++ segments_at ws (at + 1 + 4 * k) own (n - 1)
      these = segments-one at n more ∙ sym (ap (λ j. points_at ws (at + 1) j ++ segments_at ws (at + 1 + 4 * j) own (n - 1)) k-is)

      pub segment-ends : (a.number ≡ 0 → ⊥) → folded b (segments_at ws at own n) ≡ a
      segment-ends bad = ap (folded b) these ∙ append-ends b (points_at ws (at + 1) k) (segments_at ws (at + 1 + 4 * k) own (n - 1)) is bad

      pub segment-on : a.number ≡ 0 → folded b (segments_at ws at own n) ≡ folded a.extent (segments_at ws (at + 1 + 4 * k) own (n - 1))
      segment-on good = ap (folded b) these ∙ append-on b (points_at ws (at + 1) k) (segments_at ws (at + 1 + 4 * k) own (n - 1)) is good

-- Where segments have starts of their own, the first of them is the first point.
pub own_first : (ws : List ℕ) (at n : ℕ) → 0 < n → (ps : List Point) × (segments_at ws at 1 n ≡ point_at ws (at + 1) ∷ ps)
own_first ws at n more =
    let it = by (eqb (get_or ws at 0) (code "B")) (segments_at ws (next_at ws at 1) 1 (n - 1)) in
    (it.0, segments-one ws 1 at n more ∙ it.1)
  where
    by : (t : Bool) (qs : List Point) → (ps : List Point) × (points_at ws (at + 1) (1 + cond t 3 1) ++ qs ≡ point_at ws (at + 1) ∷ ps)
    by true qs = (points_at ws (at + 1 + 4) 3 ++ qs, ap (λ l. l ++ qs) (points-one ws (at + 1) 4 (omega arith)))
    by false qs = (points_at ws (at + 1 + 4) 1 ++ qs, ap (λ l. l ++ qs) (points-one ws (at + 1) 2 (omega arith)))
