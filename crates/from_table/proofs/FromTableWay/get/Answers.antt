use native.Mathlib.Omega.{arith}
use mathlib.Core.Path.{◌≡◌}
use lib.ListN.{get_or}
use Rattle.memory.specs.WordLaws.{one_word, two-words}
use Rattle.memory.specs.SizeLaws.{field-size}
use Rattle.ways.specs.StepLaws.{there_below}
use Rattle.ways.specs.Way.{value_at}
use Rattle.from_table.specs.Way.{way, units_below}
use Rattle.from_table.proofs.FromTableWay.get.Goals as goal

pub bounds-src-at : goal.bounds-src-at
bounds-src-at c =
    let sizes = field-size c.args.size c.requires.0 in
    omega (arith, sizes.0, c.requires.1, c.if-size-le4.true)

pub overflow_cast-result : goal.overflow_cast-result
overflow_cast-result c = omega (arith, c.type_inv.src c.args.at)

pub returns-then-size-le4 : goal.returns-then-size-le4
returns-then-size-le4 c =
    let us = c.args.src.now in
    let sizes = field-size c.args.size c.requires.0 in
    let value : get_or us c.args.at 0 ≡ value_at way c.args.size us c.args.at = one_word us c.args.at c.args.size c.requires.1 sizes.0 c.if-size-le4.true in
    record { value = (value, rw value (there_below way us c.args.at c.args.size (units_below us c.type_inv.src) c.requires.1).small); below = units_below us c.type_inv.src }

pub returns : goal.returns
returns c =
    let us = c.args.src.now in
    let sizes = field-size c.args.size c.requires.0 in
    let value : c.from_halves.result ≡ value_at way c.args.size us c.args.at = two-words us c.args.at c.args.size c.requires.1 c.from_halves.result c.if-size-le4.false sizes.1 c.from_halves.ensures in
    record { value = (value, rw value (there_below way us c.args.at c.args.size (units_below us c.type_inv.src) c.requires.1).small); below = units_below us c.type_inv.src }
