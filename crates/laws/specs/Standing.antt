-- What stands at a place of the bodies, and the place behind it: one notion for every part of a body.
use Rattle.std.specs.Prelude.{◌≡◌, ℕ, ◌+◌, ◌≤◌, List, ◌++◌, length, drop}
use Rattle.format.specs.Layout.{Layout}
use Rattle.drawing.specs.Table.{words_of}

-- These words stand here, and then those.
pub record WordsStand (ws : List ℕ) (at : ℕ) (these those : List ℕ) : Type 0 where
  pub within : at ≤ length ws
  pub words_are : drop at ws ≡ these ++ those

-- A good value of a layout stands here.
pub record Here {A : Type 0} (L : Layout A) (ws : List ℕ) (at : ℕ) (a : A) : Type 0 where
  pub good : L.Good a
  pub rest : List ℕ
  pub stands : WordsStand ws at (words_of L a) rest

-- The place behind whatever good value stands here.
abbrev pub Behind : {A : Type 0} → Layout A → List ℕ → (at behind : ℕ) → Type 0
Behind {A} L ws at behind = (a : A) → Here L ws at a → behind ≡ at + length (words_of L a)
