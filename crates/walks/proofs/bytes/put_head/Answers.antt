-- `walks::bytes::put_head` meets its contract.
use mathlib.Core.Path.{refl}
use Rattle.format.specs.Digits.{digits}
use Rattle.ways.specs.Written.{put_written, both-written}
use Rattle.walks.proofs.bytes.put_head.Goals as goal

pub returns : goal.returns
returns c =
    both-written refl c.put_chars.ensures (both-written refl (put_written (digits 256 4 3) c.write_value.ensures) c.put_chars-2.ensures)
