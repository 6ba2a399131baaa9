-- `places::row::Row::end` meets its contract.
use Rattle.places.specs.EndLaws.{group_end, leaf_end}
use Rattle.places.proofs.row.Row.end.Goals as goal

pub returns-then-kind-eq-GROUP_KIND-clause-is : goal.returns-then-kind-eq-GROUP_KIND-clause-is
returns-then-kind-eq-GROUP_KIND-clause-is c =
    λ o body. group_end c.args.self.now.contents.now c.args.self.now.words.now c.args.self.now.version c.args.self.now.row c.kind-kind.ensures c.start-start.ensures.is o body c.if-kind-eq-GROUP_KIND.true c.behind.ensures.is

pub returns-clause-is : goal.returns-clause-is
returns-clause-is c =
    λ o body. leaf_end c.args.self.now.contents.now c.args.self.now.words.now c.args.self.now.version c.args.self.now.row c.kind-kind.ensures c.start-start.ensures.is o body c.if-kind-eq-GROUP_KIND.false c.letter_of.ensures.0 c.behind-2.ensures.is
