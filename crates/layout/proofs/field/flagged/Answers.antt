use Rattle.ways.specs.FieldPassLaws.{flag_kind, seen_flag, seen_asked}
use Rattle.ways.specs.StepLaws.{not_there}
use Rattle.ways.specs.Faults.{file_fault}
use mathlib.Core.Path.{refl}
use Rattle.layout.proofs.field.flagged.Goals as goal

pub returns-then-there : goal.returns-then-there
returns-then-there g c =
    let judges = file_fault g.W.Way.way (flag_kind c.args.fault) c.get_flag-value.ensures.1 c.flag_fault.ensures in
    seen_asked (seen_flag (flag_kind c.args.fault).fault c.there.ensures.below refl c.requires c.there.ensures.fits c.if-there.true c.get_flag-value.ensures.0 judges) c.kept.ensures.0

pub returns : goal.returns
returns g c = not_there c.requires (flag_kind c.args.fault) refl c.there.ensures.fits c.if-there.false c.cut.ensures.0
