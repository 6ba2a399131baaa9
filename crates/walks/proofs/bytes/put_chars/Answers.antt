-- `walks::bytes::put_chars` meets its contract.
use Rattle.walks.specs.FileWalkLaws.{chars-written}
use Rattle.walks.proofs.bytes.put_chars.Goals as goal

pub returns : goal.returns
returns c =
    chars-written c.args.chars c.requires.1 c.high.ensures c.low.ensures c.write_value.ensures c.write_value-2.ensures
