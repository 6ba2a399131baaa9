-- `walks::bytes::put_opening` meets its contract.
use mathlib.Core.Path.{refl}
use Prim.Native.Char.{code}
use Rattle.format.specs.Digits.{digits}
use Rattle.ways.specs.Written.{put_written, both-written}
use Rattle.walks.proofs.bytes.put_opening.Goals as goal

pub returns : goal.returns
returns c =
    both-written refl (put_written (digits 256 2 (code "G")) c.write_value.ensures) (put_written (digits 256 4 c.args.count) c.write_value-2.ensures)
