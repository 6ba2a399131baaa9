use Rattle.from_file.specs.Way.{way, exact}
use Rattle.ways.specs.RunLaws.{exact_small}
use mathlib.Core.Bool.{false≢true}
use Rattle.from_file.proofs.FromFileWay.has_wide.Goals as goal

pub returns : goal.returns
returns c =
    record { none = λ e below. exact_small way exact c.args.size c.args.src.now c.args.at c.args.count below c.requires.1; one = λ e. absurd (false≢true e) }
