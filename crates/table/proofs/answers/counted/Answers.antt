-- `table::answers::counted` meets its contract.
use mathlib.Core.Logic.{inl, inr}
use mathlib.Core.Path.{refl}
use mir.Syntax.{w32}
use native.Mathlib.Omega.{arith}
use Rattle.format.specs.LeafLaws.{known_below}
use Rattle.table.specs.AnswerLaws.{long-refused, walk_refused, walk_small, walk_checked}
use Rattle.table.proofs.answers.counted.Goals as goal
use Rattle.table.proofs.answers.counted.Goals.{then-contents-via-then-contents, then-contents-via-else-contents+then-words-gt-LENGTH_LIMIT}

pub returns-then-walked-ge-REFUSED : goal.returns-then-walked-ge-REFUSED
returns-then-walked-ge-REFUSED c =
    walk_refused c.args.contents.now c.args.words.now (known_below w32 c.args.words.now c.type_inv.words) c.walk_table-walked.ensures c.if-walked-ge-REFUSED.true refl

pub overflow_cast-result : goal.overflow_cast-result
overflow_cast-result c =
    let small = walk_small c.args.contents.now c.args.words.now (known_below w32 c.args.words.now c.type_inv.words) c.walk_table-walked.ensures (omega (arith, c.if-walked-ge-REFUSED.false)) in omega (arith, small.0, small.1)

pub overflow_cast-result-2 : goal.overflow_cast-result-2
overflow_cast-result-2 c =
    let small = walk_small c.args.contents.now c.args.words.now (known_below w32 c.args.words.now c.type_inv.words) c.walk_table-walked.ensures (omega (arith, c.if-walked-ge-REFUSED.false)) in omega (arith, small.0, small.1)

pub returns : goal.returns
returns c =
    walk_checked c.args.contents.now c.args.words.now (known_below w32 c.args.words.now c.type_inv.words) c.walk_table-walked.ensures (omega (arith, c.if-walked-ge-REFUSED.false))

pub returns-then-contents : goal.returns-then-contents
returns-then-contents c =
    let below = known_below w32 c.args.words.now c.type_inv.words in
    elim c.then-contents.branch [
      | then-contents-via-then-contents w ↦ long-refused c.args.contents.now c.args.words.now below (inl w.if-contents.true) refl
      | then-contents-via-else-contents+then-words-gt-LENGTH_LIMIT w ↦ long-refused c.args.contents.now c.args.words.now below (inr w.if-words-gt-LENGTH_LIMIT.true) refl
    ]
