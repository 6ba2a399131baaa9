-- Groups that are passed in one step: what is picked of their bytes and words is what their fields take.
use Rattle.std.specs.Prelude.{◌≡◌, ℕ, ◌+◌, ◌*◌}
use Rattle.std.proofs.Common.{arith}
use Rattle.ways.specs.Way.{Units, width_of}
use Rattle.ways.specs.Picks.{Picks, picked}

module _ {U : Units} (picks : Picks U) where
  -- A letter and so many words.
  pub letter_words : (count : ℕ) → U.pick (2 + 4 * count) (1 + count) ≡ width_of U 2 + count * width_of U 4
  letter_words count = picked picks (λ pick. pick (2 + 4 * count) (1 + count) ≡ pick 2 1 + count * pick 4 1) (omega arith) (omega arith)

  -- A letter and so many points.
  pub letter_points : (points : ℕ) → U.pick (2 + 16 * points) (1 + 4 * points) ≡ width_of U 2 + 2 * points * width_of U 8
  letter_points points = picked picks (λ pick. pick (2 + 16 * points) (1 + 4 * points) ≡ pick 2 1 + 2 * points * pick 8 2) (omega arith) (omega arith)

  -- A transformation.
  pub six_doubles : U.pick 48 12 ≡ 6 * width_of U 8
  six_doubles = picked picks (λ pick. pick 48 12 ≡ 6 * pick 8 2) (omega arith) (omega arith)

  -- A text's face, and what of it stands before the size.
  pub face_units : U.pick 54 15 ≡ width_of U 1 + width_of U 1 + width_of U 4 + 6 * width_of U 8
  face_units = picked picks (λ pick. pick 54 15 ≡ pick 1 1 + pick 1 1 + pick 4 1 + 6 * pick 8 2) (omega arith) (omega arith)

  pub two_bytes : U.pick 2 2 ≡ width_of U 1 + width_of U 1
  two_bytes = picked picks (λ pick. pick 2 2 ≡ pick 1 1 + pick 1 1) (omega arith) (omega arith)

  -- A flag, and the length of a description.
  pub flag_length : U.pick 5 2 ≡ width_of U 1 + width_of U 4
  flag_length = picked picks (λ pick. pick 5 2 ≡ pick 1 1 + pick 4 1) (omega arith) (omega arith)
