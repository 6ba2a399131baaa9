use Rattle.round_trip.specs.Cuts.{given_more}
use native.Mathlib.Omega.{arith}
use borrow.Author.Rules.{rules}
-- src/cuts.rt:55:9
use Rattle.round_trip.proofs.cuts.given_to.Goals as goal

pub returns-then-end-at : goal.returns-then-end-at
returns-then-end-at c =
    search rules

-- src/cuts.rt:58:9

pub returns-then-file-end : goal.returns-then-file-end
returns-then-file-end c =
    search rules

-- src/cuts.rt:60:26

pub pieced-next-requires : goal.pieced-next-requires
pieced-next-requires c =
    search rules

-- src/cuts.rt:49:1

pub returns : goal.returns
returns c = given_more c.requires (omega arith) (omega arith) c.pieced-next.ensures
