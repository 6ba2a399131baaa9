-- What a pass over a part of a body finds.
use Rattle.std.specs.Prelude.{ℕ, ◌≤◌, List, length}
use Rattle.format.specs.Layout.{Layout}
use Rattle.drawing.specs.Limits.{length_limit}
use Rattle.laws.specs.Standing.{Here, Behind}

-- A pass over it has found that place.
pub record Passed {A : Type 0} (L : Layout A) (ws : List ℕ) (at behind : ℕ) : Type 0 where
  pub is : Behind L ws at behind
  pub inside : behind ≤ length ws

-- Some good value stands here, among words that are not too many.
pub record Holds {A : Type 0} (L : Layout A) (ws : List ℕ) (at : ℕ) : Type 0 where
  pub short : length ws ≤ length_limit
  pub value : A
  pub here : Here L ws at value
