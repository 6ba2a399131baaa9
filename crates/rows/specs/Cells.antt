-- The numbers that contents hold: the words themselves; or, in a sheet, two bytes each.
use Rattle.std.specs.Prelude.{ℕ, ◌≤◌, List, length}
use Rattle.std.proofs.Common.{arith}
use Rattle.format.specs.Packed.{unpacked}
use Rattle.format.specs.PackedLaws.{length-unpacked}

abbrev pub cells : List ℕ → List ℕ
cells cs = cs

abbrev pub packed : List ℕ → List ℕ
packed cs = unpacked 2 cs

pub words_fit : (cs : List ℕ) → length (cells cs) ≤ length cs
words_fit cs = omega arith

pub packed_fit : (cs : List ℕ) → length (packed cs) ≤ length cs
packed_fit cs = omega (arith, length-unpacked 2 cs)
