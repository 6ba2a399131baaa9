-- `format::encode::put_word` meets its contract: a digit more, three times. Assumes nothing.
use lib.Dec.{lit<}
use native.Mathlib.Omega.{arith}
use Prim.Native.Nat.{◌/◌, ◌%◌}
use mathlib.Core.Path.{◌≡◌, refl}
use Rattle.format.specs.LeafLaws.{put, put-add}
use Rattle.format.proofs.encode.put_word.Goals as goal

pub returns : goal.returns
returns c =
    let s = c.args.out.now in
    let at = c.args.at in
    let v = c.args.value in
    let is = c.exchanged_word-exchanged.ensures in
    let highest : c.exchanged_word-exchanged.result % 256 ≡ v / 65536 / 256 = omega (arith, is.0) in
    let two = put-add 256 s at (lit< tt) 1 1 (v / 65536) (omega (arith, c.requires)) highest is.1 c.put_byte.ensures c.put_byte-2.ensures in
    let above : v / 65536 ≡ v / 256 / 256 = omega arith in
    let three = put-add 256 s at (lit< tt) 2 1 (v / 256) (omega (arith, c.requires)) above is.2 two c.put_byte-3.ensures in
    put-add 256 s at (lit< tt) 3 1 v c.requires refl is.3 three c.put_byte-4.ensures
