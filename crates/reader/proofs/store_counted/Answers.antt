-- `reader::store_counted` meets its contract.
use mir.Syntax.{w8}
use Rattle.reader.specs.ReadLaws.{short-rows, short-words, read_stored}
use Rattle.format.specs.LeafLaws.{known_below}
use Rattle.reader.proofs.store_counted.Goals as goal

pub returns-then-contents-rows : goal.returns-then-contents-rows
returns-then-contents-rows c =
    short-rows c.args.file.now c.args.contents.now c.args.bodies.now (known_below w8 c.args.file.now c.type_inv.file) c.args.at c.args.rows c.args.words c.requires c.if-contents-rows.true c.counted.ensures

pub returns-then-bodies-words : goal.returns-then-bodies-words
returns-then-bodies-words c =
    short-words c.args.file.now c.args.contents.now c.args.bodies.now (known_below w8 c.args.file.now c.type_inv.file) c.args.at c.args.rows c.args.words c.requires c.if-contents-rows.false c.if-bodies-words.true c.counted-then-bodies-words.ensures

pub returns : goal.returns
returns c =
    read_stored c.args.file.now c.args.contents.now c.args.bodies.now (known_below w8 c.args.file.now c.type_inv.file) c.args.at c.args.rows c.args.words c.requires c.if-contents-rows.false c.if-bodies-words.false c.pass_file.ensures c.counted-2.ensures
