-- `questions::paint_words::paint_at` meets its contract.
use Rattle.questions.specs.PaintLaws.{linear_is, radial_is, paint_is_plain, start_is, end_is, last_is}
use Rattle.drawing.specs.Questions.{part, plain_value, paint_value}
use mathlib.Core.Path.{ap, ◌∙◌}
use Rattle.questions.proofs.paint_words.paint_at.Goals as goal

pub plain_at-requires : goal.plain_at-requires
plain_at-requires c = (start_is (linear_is c.args.version c.requires.value c.requires.here c.if-letter-eq-LINEAR.true)).here

pub plain_at-requires-then-letter-eq-LINEAR : goal.plain_at-requires-then-letter-eq-LINEAR
plain_at-requires-then-letter-eq-LINEAR c =
    (end_is (linear_is c.args.version c.requires.value c.requires.here c.if-letter-eq-LINEAR.true) c.behind-second.ensures.is).here

pub bounds-words-last : goal.bounds-words-last
bounds-words-last c =
    (last_is (linear_is c.args.version c.requires.value c.requires.here c.if-letter-eq-LINEAR.true) c.behind-second.ensures.is c.behind-last.ensures.is).0

pub returns-then-letter-eq-LINEAR : goal.returns-then-letter-eq-LINEAR
returns-then-letter-eq-LINEAR c =
    λ p here.
    let it = linear_is c.args.version p here c.if-letter-eq-LINEAR.true in
    let start = c.plain_at.ensures ∙ ap plain_value (start_is it).is in
    let end = c.plain_at-then-letter-eq-LINEAR.ensures ∙ ap plain_value (end_is it c.behind-second.ensures.is).is in
    let last = (last_is it c.behind-second.ensures.is c.behind-last.ensures.is).1 in
    let same = ap (λ x. paint_value (part x)) it.is in
    cc

pub plain_at-requires-then-letter-eq-RADIAL : goal.plain_at-requires-then-letter-eq-RADIAL
plain_at-requires-then-letter-eq-RADIAL c = (start_is (radial_is c.args.version c.requires.value c.requires.here c.if-letter-eq-RADIAL.true)).here

pub plain_at-requires-then-letter-eq-RADIAL-2 : goal.plain_at-requires-then-letter-eq-RADIAL-2
plain_at-requires-then-letter-eq-RADIAL-2 c =
    (end_is (radial_is c.args.version c.requires.value c.requires.here c.if-letter-eq-RADIAL.true) c.behind-second-then-letter-eq-RADIAL.ensures.is).here

pub bounds-words-last-then-letter-eq-RADIAL : goal.bounds-words-last-then-letter-eq-RADIAL
bounds-words-last-then-letter-eq-RADIAL c =
    (last_is (radial_is c.args.version c.requires.value c.requires.here c.if-letter-eq-RADIAL.true) c.behind-second-then-letter-eq-RADIAL.ensures.is c.behind-last-then-letter-eq-RADIAL.ensures.is).0

pub returns-then-letter-eq-RADIAL : goal.returns-then-letter-eq-RADIAL
returns-then-letter-eq-RADIAL c =
    λ p here.
    let it = radial_is c.args.version p here c.if-letter-eq-RADIAL.true in
    let start = c.plain_at-then-letter-eq-RADIAL.ensures ∙ ap plain_value (start_is it).is in
    let end = c.plain_at-then-letter-eq-RADIAL-2.ensures ∙ ap plain_value (end_is it c.behind-second-then-letter-eq-RADIAL.ensures.is).is in
    let last = (last_is it c.behind-second-then-letter-eq-RADIAL.ensures.is c.behind-last-then-letter-eq-RADIAL.ensures.is).1 in
    let same = ap (λ x. paint_value (part x)) it.is in
    cc

pub plain_at-requires-2 : goal.plain_at-requires-2
plain_at-requires-2 c =
    (paint_is_plain c.args.version c.requires.value c.requires.here c.if-letter-eq-LINEAR.false c.if-letter-eq-RADIAL.false).1.1.here

pub returns : goal.returns
returns c =
    λ p here.
    let it = paint_is_plain c.args.version p here c.if-letter-eq-LINEAR.false c.if-letter-eq-RADIAL.false in
    let one = c.plain_at-2.ensures ∙ ap plain_value it.1.1.is in
    let same = ap (λ x. paint_value (part x)) it.1.0 in
    cc
