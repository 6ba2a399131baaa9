use native.Mathlib.Omega.{arith}
use Rattle.ways.specs.EndLaws.{newer_end, newer_end_nowhere}
use Rattle.ways.specs.PickLaws.{flag_length}
use Rattle.layout_objects.proofs.end.newer_end.Goals as goal

pub ahead-requires : goal.ahead-requires
ahead-requires g c =
    let zero = c.end_is_plain.ensures.plain c.if-end_is_plain.true in
    let few = c.requires.begins.few (omega (arith, zero.0.inside, c.requires.begins.short)) in
    let one = g.W.Way.way.target.most 1 (omega arith) in
    let four = g.W.Way.way.target.most 4 (omega arith) in
    (omega (arith, zero.1.inside, flag_length g.met.W.Way.sources, c.requires.begins.short), omega (arith, few, one, four, zero.0.inside, flag_length g.met.W.Way.targets, c.requires.begins.short))

pub returns-then-dst-eq0 : goal.returns-then-dst-eq0
returns-then-dst-eq0 g c =
    let zero = c.end_is_plain.ensures.plain c.if-end_is_plain.true in
    newer_end_nowhere c.end_is_plain.ensures.below c.args.version c.requires.begins (omega (arith, g.met.W.Way.kept_length c.args.dst.now, c.if-dst-eq0.true)) c.requires.le_version zero.0 zero.1 (flag_length g.met.W.Way.sources) (flag_length g.met.W.Way.targets) c.ahead.ensures

pub returns-then-end_is_plain : goal.returns-then-end_is_plain
returns-then-end_is_plain g c =
    let zero = c.end_is_plain.ensures.plain c.if-end_is_plain.true in
    newer_end c.keep-flow.ensures.below c.requires.begins zero.0 c.keep-flow.ensures.moved c.args.version c.requires.le_version zero.1 c.keep.ensures.moved
