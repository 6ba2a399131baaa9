use borrow.Author.Tests.{le-leb, lt-leb}
use Rattle.ways.specs.LayoutLaws.{laid, else, then, told, nothing-laid}
use Rattle.layout_objects.proofs.end.object_end.Goals as goal

pub returns-then-version-lt-V1_2 : goal.returns-then-version-lt-V1_2
returns-then-version-lt-V1_2 g c =
    laid (told c.flow_flag-flow.ensures (laid (else (lt-leb 2 c.args.version c.if-version-lt-V1_2.true) (nothing-laid c.flow_flag-flow.ensures.ready))))

pub returns : goal.returns
returns g c =
    laid (told c.flow_flag-flow.ensures (laid (then (le-leb 2 c.args.version c.if-version-lt-V1_2.false) c.string.ensures)))
