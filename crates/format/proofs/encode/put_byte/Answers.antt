-- `format::encode::put_byte` meets its contract: one digit is one store. Assumes nothing.
use Rattle.format.specs.LeafLaws.{put_one}
use Rattle.format.proofs.encode.put_byte.Goals as goal

pub returns : goal.returns
returns c = put_one 256 c.args.out.now c.args.at c.args.value c.requires.0 c.requires.1
