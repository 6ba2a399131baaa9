-- `sheets::read::stored` meets its contract.
use mathlib.Core.Path.{ap, ◌∙◌}
use Rattle.drawing.specs.Answers.{answer}
use Rattle.sheets.specs.ReadingLaws.{short-rows, short-words, all-copied}
use Rattle.format.specs.LeafLaws.{known_below}
use mir.Syntax.{w8}
use native.Mathlib.Omega.{arith}
use Rattle.sheets.proofs.read.stored.Goals as goal

pub returns-then-contents-rows : goal.returns-then-contents-rows
returns-then-contents-rows c =
    short-rows c.requires.0 c.args.contents.now c.args.bodies.now (known_below w8 c.args.sheet.now c.type_inv.sheet) c.if-contents-rows.true (c.answer.ensures ∙ ap (λ n. answer 14 n c.args.counts.rows c.args.counts.words) c.requires.1)

pub returns-then-bodies-words : goal.returns-then-bodies-words
returns-then-bodies-words c =
    short-words c.requires.0 c.args.contents.now c.args.bodies.now (known_below w8 c.args.sheet.now c.type_inv.sheet) (omega (arith, c.if-contents-rows.false)) c.if-bodies-words.true (c.answer-then-bodies-words.ensures ∙ ap (λ n. answer 15 n c.args.counts.rows c.args.counts.words) c.requires.1)

pub returns : goal.returns
returns c =
    all-copied c.requires.0 c.args.contents.now c.args.bodies.now (known_below w8 c.args.sheet.now c.type_inv.sheet) (omega (arith, c.if-contents-rows.false)) (omega (arith, c.if-bodies-words.false)) (c.answer-2.ensures ∙ ap (λ n. answer 0 n c.args.counts.rows c.args.counts.words) c.requires.1) c.copy.ensures
