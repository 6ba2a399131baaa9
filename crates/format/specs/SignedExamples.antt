-- Worked examples of the two's complement reading of a 32-bit word: the ends of both ranges.
use Rattle.std.specs.Prelude.{◌≡◌, refl, pos, negsuc}
use Rattle.std.specs.Int.{w32}
use Rattle.std.proofs.Common.{to_z}

zero_word : to_z w32 0 ≡ pos 0
zero_word = refl

greatest : to_z w32 0x7FFF_FFFF ≡ pos 2147483647
greatest = refl

least : to_z w32 0x8000_0000 ≡ negsuc 2147483647
least = refl

minus_one_lem : to_z w32 0xFFFF_FFFF ≡ negsuc 0
minus_one_lem = refl
