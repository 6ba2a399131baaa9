use Rattle.session_run.specs.Wholes.{doubles-whole, any-double}
use Rattle.ways.specs.LayoutLaws.{valued-laid}
use Rattle.drawing.specs.Fields as F
use Rattle.session_run.proofs.whole.doubles.Goals as goal

pub returns : goal.returns
returns c =
    doubles-whole c.args.count c.requires.0 c.requires.1 c.args.here.inside (valued-laid (c.run.ensures.values F.double any-double))
