use borrow.Author.Tests.{leb-true, leb-false}
use Prim.Native.Nat.{◌+◌}
use native.Mathlib.Omega.{arith}
use Rattle.from_sheet.specs.Way.{units_below}
use Rattle.from_sheet.proofs.FromSheetWay.there.Goals as goal

pub returns : goal.returns
returns c =
    record { fits = record { yes = λ e. omega (arith, leb-true (c.args.at + c.args.words) c.source_length.result e, c.source_length.ensures); no = λ e. omega (arith, leb-false (c.args.at + c.args.words) c.source_length.result e, c.source_length.ensures) }; below = units_below c.args.src.now c.type_inv.src }
