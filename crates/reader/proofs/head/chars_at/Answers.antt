-- `reader::head::chars_at` meets its contract.
use native.Mathlib.Omega.{arith}
use Rattle.format.specs.LeafLaws.{field-add}
use Rattle.reader.proofs.head.chars_at.Goals as goal

pub returns : goal.returns
returns c =
    omega (arith, c.from_halves.ensures, c.char_at.ensures, c.word_at.ensures, field-add 256 c.args.file.now c.args.at 2 4 (omega arith))
