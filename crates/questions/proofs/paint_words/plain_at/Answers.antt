-- `questions::paint_words::plain_at` meets its contract.
use native.Mathlib.Omega.{arith}
use mathlib.Core.Path.{sym, ap}
use Rattle.drawing.specs.Questions.{plain_value}
use Rattle.questions.specs.PaintLaws.{plain_here, plain-lettered, plain_other}
use Rattle.questions.proofs.paint_words.plain_at.Goals as goal

pub float_at-requires : goal.float_at-requires
float_at-requires c =
    let here = plain_here c.args.words.now c.args.at c.if-letter-eq-RGB.true c.requires in (omega (arith, here.0), here.1.0)

pub float_at-requires-then-letter-eq-RGB : goal.float_at-requires-then-letter-eq-RGB
float_at-requires-then-letter-eq-RGB c =
    let here = plain_here c.args.words.now c.args.at c.if-letter-eq-RGB.true c.requires in (omega (arith, here.0), here.1.1.0)

pub float_at-requires-then-letter-eq-RGB-2 : goal.float_at-requires-then-letter-eq-RGB-2
float_at-requires-then-letter-eq-RGB-2 c =
    let here = plain_here c.args.words.now c.args.at c.if-letter-eq-RGB.true c.requires in (omega (arith, here.0), here.1.1.1.0)

pub float_at-requires-then-letter-eq-RGB-3 : goal.float_at-requires-then-letter-eq-RGB-3
float_at-requires-then-letter-eq-RGB-3 c =
    let here = plain_here c.args.words.now c.args.at c.if-letter-eq-RGB.true c.requires in (omega (arith, here.0), here.1.1.1.1.0)

pub returns-then-letter-eq-RGB : goal.returns-then-letter-eq-RGB
returns-then-letter-eq-RGB c =
    rw (c.float_at.ensures, c.float_at-then-letter-eq-RGB.ensures, c.float_at-then-letter-eq-RGB-2.ensures, c.float_at-then-letter-eq-RGB-3.ensures) (sym (ap plain_value (plain-lettered c.args.words.now c.args.at c.if-letter-eq-RGB.true)))

pub float_at-requires-then-letter-eq-CMYK : goal.float_at-requires-then-letter-eq-CMYK
float_at-requires-then-letter-eq-CMYK c =
    let here = plain_here c.args.words.now c.args.at c.if-letter-eq-CMYK.true c.requires in (omega (arith, here.0), here.1.0)

pub float_at-requires-then-letter-eq-CMYK-2 : goal.float_at-requires-then-letter-eq-CMYK-2
float_at-requires-then-letter-eq-CMYK-2 c =
    let here = plain_here c.args.words.now c.args.at c.if-letter-eq-CMYK.true c.requires in (omega (arith, here.0), here.1.1.0)

pub float_at-requires-then-letter-eq-CMYK-3 : goal.float_at-requires-then-letter-eq-CMYK-3
float_at-requires-then-letter-eq-CMYK-3 c =
    let here = plain_here c.args.words.now c.args.at c.if-letter-eq-CMYK.true c.requires in (omega (arith, here.0), here.1.1.1.0)

pub float_at-requires-then-letter-eq-CMYK-4 : goal.float_at-requires-then-letter-eq-CMYK-4
float_at-requires-then-letter-eq-CMYK-4 c =
    let here = plain_here c.args.words.now c.args.at c.if-letter-eq-CMYK.true c.requires in (omega (arith, here.0), here.1.1.1.1.0)

pub float_at-requires-then-letter-eq-CMYK-5 : goal.float_at-requires-then-letter-eq-CMYK-5
float_at-requires-then-letter-eq-CMYK-5 c =
    let here = plain_here c.args.words.now c.args.at c.if-letter-eq-CMYK.true c.requires in (omega (arith, here.0), here.1.1.1.1.1.0)

pub returns-then-letter-eq-CMYK : goal.returns-then-letter-eq-CMYK
returns-then-letter-eq-CMYK c =
    rw (c.float_at-then-letter-eq-CMYK.ensures, c.float_at-then-letter-eq-CMYK-2.ensures, c.float_at-then-letter-eq-CMYK-3.ensures, c.float_at-then-letter-eq-CMYK-4.ensures, c.float_at-then-letter-eq-CMYK-5.ensures) (sym (ap plain_value (plain-lettered c.args.words.now c.args.at c.if-letter-eq-CMYK.true)))

pub float_at-requires-then-letter-eq-GREY : goal.float_at-requires-then-letter-eq-GREY
float_at-requires-then-letter-eq-GREY c =
    let here = plain_here c.args.words.now c.args.at c.if-letter-eq-GREY.true c.requires in (omega (arith, here.0), here.1.0)

pub float_at-requires-then-letter-eq-GREY-2 : goal.float_at-requires-then-letter-eq-GREY-2
float_at-requires-then-letter-eq-GREY-2 c =
    let here = plain_here c.args.words.now c.args.at c.if-letter-eq-GREY.true c.requires in (omega (arith, here.0), here.1.1.0)

pub returns-then-letter-eq-GREY : goal.returns-then-letter-eq-GREY
returns-then-letter-eq-GREY c =
    rw (c.float_at-then-letter-eq-GREY.ensures, c.float_at-then-letter-eq-GREY-2.ensures) (sym (ap plain_value (plain-lettered c.args.words.now c.args.at c.if-letter-eq-GREY.true)))

pub float_at-requires-then-letter-eq-HSB : goal.float_at-requires-then-letter-eq-HSB
float_at-requires-then-letter-eq-HSB c =
    let here = plain_here c.args.words.now c.args.at c.if-letter-eq-HSB.true c.requires in (omega (arith, here.0), here.1.0)

pub float_at-requires-then-letter-eq-HSB-2 : goal.float_at-requires-then-letter-eq-HSB-2
float_at-requires-then-letter-eq-HSB-2 c =
    let here = plain_here c.args.words.now c.args.at c.if-letter-eq-HSB.true c.requires in (omega (arith, here.0), here.1.1.0)

pub float_at-requires-then-letter-eq-HSB-3 : goal.float_at-requires-then-letter-eq-HSB-3
float_at-requires-then-letter-eq-HSB-3 c =
    let here = plain_here c.args.words.now c.args.at c.if-letter-eq-HSB.true c.requires in (omega (arith, here.0), here.1.1.1.0)

pub float_at-requires-then-letter-eq-HSB-4 : goal.float_at-requires-then-letter-eq-HSB-4
float_at-requires-then-letter-eq-HSB-4 c =
    let here = plain_here c.args.words.now c.args.at c.if-letter-eq-HSB.true c.requires in (omega (arith, here.0), here.1.1.1.1.0)

pub returns-then-letter-eq-HSB : goal.returns-then-letter-eq-HSB
returns-then-letter-eq-HSB c =
    rw (c.float_at-then-letter-eq-HSB.ensures, c.float_at-then-letter-eq-HSB-2.ensures, c.float_at-then-letter-eq-HSB-3.ensures, c.float_at-then-letter-eq-HSB-4.ensures) (sym (ap plain_value (plain-lettered c.args.words.now c.args.at c.if-letter-eq-HSB.true)))

pub returns : goal.returns
returns c =
    sym (ap plain_value (plain_other c.args.words.now c.args.at c.if-letter-eq-RGB.false c.if-letter-eq-CMYK.false c.if-letter-eq-GREY.false c.if-letter-eq-HSB.false))
