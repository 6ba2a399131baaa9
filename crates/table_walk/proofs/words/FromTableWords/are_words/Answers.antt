use Rattle.from_table.specs.Way.{units_below}
use Rattle.table_walk.proofs.words.FromTableWords.are_words.Goals as goal

pub returns : goal.returns
returns c = units_below c.args.words.now c.type_inv.words
