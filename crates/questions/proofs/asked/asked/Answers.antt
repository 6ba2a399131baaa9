-- `questions::asked::asked` meets its contract.
use mathlib.Core.Path.{refl}
use mir.Syntax.{w32}
use native.Mathlib.Omega.{arith}
use Rattle.format.specs.LeafLaws.{known_below}
use Rattle.places.specs.RowLaws.{checked-drawing}
use Rattle.questions.specs.RowQuestions.{asked}
use Rattle.questions.proofs.asked.asked.Goals as goal

pub returns-then-counts-row : goal.returns-then-counts-row
returns-then-counts-row c = let it = checked-drawing c.in-Some.ensures refl in (it.0, (it.1.0, omega (arith, it.1.1, c.if-counts-row.true)))

pub row_of-requires : goal.row_of-requires
row_of-requires c = (asked c.in-Some.ensures c.args.row refl (known_below w32 c.args.words.now c.type_inv.words) (omega (arith, c.if-counts-row.false))).has

pub returns : goal.returns
returns c =
    record {
      contents-are = c.row_of.ensures.contents_are;
      bodies-are = c.row_of.ensures.words_are;
      version-is = c.row_of.ensures.version_is;
      row_is = c.row_of.ensures.row_is;
      asked = asked c.in-Some.ensures c.args.row refl (known_below w32 c.args.words.now c.type_inv.words) (omega (arith, c.if-counts-row.false));
    }
