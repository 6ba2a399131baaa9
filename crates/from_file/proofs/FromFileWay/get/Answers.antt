use borrow.Author.Rules.{rules}
use mathlib.Core.Path.{◌≡◌}
use Rattle.memory.specs.SizeLaws.{field_eight}
use Rattle.ways.specs.StepLaws.{there_below}
use Rattle.ways.specs.Way.{value_at}
use Rattle.from_file.specs.Way.{way, units_below}
use Rattle.from_file.proofs.FromFileWay.get.Goals as goal

pub returns-in-1 : goal.returns-in-1
returns-in-1 c =
    let us = c.args.src.now in
    let value : c.byte_at.result ≡ value_at way c.args.size us c.args.at = rw c.in-1.is c.byte_at.ensures in
    record { value = (value, rw value (there_below way us c.args.at c.args.size (units_below us c.type_inv.src) c.requires.1).small); below = units_below us c.type_inv.src }

pub returns-in-2 : goal.returns-in-2
returns-in-2 c =
    let us = c.args.src.now in
    let value : c.char_at.result ≡ value_at way c.args.size us c.args.at = rw c.in-2.is c.char_at.ensures in
    record { value = (value, rw value (there_below way us c.args.at c.args.size (units_below us c.type_inv.src) c.requires.1).small); below = units_below us c.type_inv.src }

pub returns-in-4 : goal.returns-in-4
returns-in-4 c =
    let us = c.args.src.now in
    let value : c.word_at.result ≡ value_at way c.args.size us c.args.at = rw c.in-4.is c.word_at.ensures in
    record { value = (value, rw value (there_below way us c.args.at c.args.size (units_below us c.type_inv.src) c.requires.1).small); below = units_below us c.type_inv.src }

pub returns-in_default : goal.returns-in_default
returns-in_default c =
    let eight : c.args.size ≡ 8 = field_eight c.args.size c.requires.0 (search rules) (search rules) (search rules) in
    let us = c.args.src.now in
    let value : c.double_at.result ≡ value_at way c.args.size us c.args.at = rw eight c.double_at.ensures in
    record { value = (value, rw value (there_below way us c.args.at c.args.size (units_below us c.type_inv.src) c.requires.1).small); below = units_below us c.type_inv.src }
