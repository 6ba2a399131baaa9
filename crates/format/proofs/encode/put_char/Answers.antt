-- `format::encode::put_char` meets its contract: one digit, and then one. Assumes nothing.
use lib.Dec.{lit<}
use native.Mathlib.Omega.{arith}
use Prim.Native.Nat.{◌+◌, ◌*◌, ◌/◌, ◌%◌}
use mathlib.Core.Path.{◌≡◌}
use Rattle.format.specs.LeafLaws.{put-add}
use Rattle.format.proofs.encode.put_char.Goals as goal

pub returns : goal.returns
returns c =
    let v = c.args.value in
    let first : (v % 256 * 256 + v / 256 % 256) % 256 ≡ v / 256 = omega (arith, c.requires.1) in
    let second : (v % 256 * 256 + v / 256 % 256) / 256 ≡ v % 256 = omega (arith, c.requires.1) in
    put-add 256 c.args.out.now c.args.at (lit< tt) 1 1 v c.requires.0 first second c.put_byte.ensures c.put_byte-2.ensures
