-- `questions::description::description_of` meets its contract.
use Prim.Native.Nat.{◌≤◌}
use native.Mathlib.Omega.{arith}
use Rattle.std.proofs.Math.Logic.{∥∥₁_elim}
use Rattle.std.specs.Coded.{le_prop}
use Rattle.questions.specs.DescriptionLaws.{description_inside, late_answered}
use Rattle.places.specs.EndLaws.{described}
use Rattle.places.specs.RowLaws.{row_short}
use Rattle.questions.proofs.description.description_of.Goals as goal

pub chars_at-requires : goal.chars_at-requires
chars_at-requires c =
    let row = c.args.row.now in (
      ∥∥₁_elim row.stands le_prop (λ has.
          description_inside row.contents.now row.words.now row.version row.row has.object has.body
          (described row.contents.now row.words.now row.version row.row (omega (arith, c.if-row-lt-V1_2.false)) has.object (c.end-end.ensures.is has.object has.body) c.behind-description.ensures.is)),
      row_short row.stands,
    )

pub returns : goal.returns
returns c =
    let row = c.args.row.now in
    let late : 2 ≤ row.version = omega (arith, c.if-row-lt-V1_2.false) in
    λ o body.
    late_answered row.contents.now row.words.now row.version row.row o body (described row.contents.now row.words.now row.version row.row late o (c.end-end.ensures.is o body) c.behind-description.ensures.is) late c.chars_at.ensures
