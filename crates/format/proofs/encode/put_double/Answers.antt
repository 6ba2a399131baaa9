-- `format::encode::put_double` meets its contract: four digits, and then four. The halves in base 2^32 are what stands above four bytes, and the rest. Assumes nothing.
use mathlib.Core.Path.{◌≡◌}
use Prim.Native.Nat.{◌/◌, ◌%◌}
use native.Mathlib.Omega.{arith}
use lib.Dec.{lit<}
use Rattle.format.specs.LeafLaws.{put-add}
use Rattle.format.proofs.encode.put_double.Goals as goal

pub returns : goal.returns
returns c =
    let above : c.high.result ≡ c.args.value / 4294967296 = omega arith in
    let below : c.low.result ≡ c.args.value % 4294967296 = omega arith in
    put-add 256 c.args.out.now c.args.at (lit< tt) 4 4 c.args.value c.requires above below
    c.put_word.ensures c.put_word-2.ensures
