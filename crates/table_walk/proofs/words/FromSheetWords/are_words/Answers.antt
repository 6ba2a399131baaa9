use Rattle.from_sheet.specs.Way.{units_below}
use Rattle.table_walk.proofs.words.FromSheetWords.are_words.Goals as goal

pub returns : goal.returns
returns c = units_below c.args.words.now c.type_inv.words
