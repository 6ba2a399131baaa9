use Rattle.ways.specs.PaintLaws.{letter_fault, transparent_led, rgb-led, cmyk_led, grey-led, hsb-led, plain-refused, no_letter}
use Rattle.ways.specs.Moves.{led, moved_ready}
use Rattle.ways.specs.LayoutLaws.{nothing-laid}
use lib.ListN.{length}
use Prim.Native.Nat.{◌+◌, ◌*◌, ◌≤◌}
use Rattle.ways.specs.Way.{source_units, value_at}
use native.Mathlib.Omega.{arith}
use mathlib.Core.Path.{◌≡◌, sym, ap, ◌∙◌}
use Rattle.layout_styles.proofs.paint.plain.Goals as goal

pub returns-then-letter-eq-TRANSPARENT : goal.returns-then-letter-eq-TRANSPARENT
returns-then-letter-eq-TRANSPARENT g c =
    let is : value_at g.W.Way.way 2 (g.W.Way.units c.args.src.now) c.args.at ≡ 84 = sym c.get-letter.ensures.value.0 ∙ c.if-letter-eq-TRANSPARENT.true in
    let some : c.args.at + 1 * source_units g.W.Way.way 2 ≤ length (g.W.Way.units c.args.src.now) = omega (arith, c.requires.way_in_bounds) in
    let after = moved_ready 2 1 c.requires.begins some (omega arith) (omega arith) c.keep.ensures.moved in
    transparent_led c.args.version is (led c.keep.ensures.below c.requires.begins c.requires.way_in_bounds c.keep.ensures.moved (nothing-laid after))

pub returns-then-letter-eq-RGB : goal.returns-then-letter-eq-RGB
returns-then-letter-eq-RGB g c =
    let is : value_at g.W.Way.way 2 (g.W.Way.units c.args.src.now) c.args.at ≡ 82 = sym c.get-letter.ensures.value.0 ∙ c.if-letter-eq-RGB.true in
    rgb-led c.args.version is c.color.ensures

pub returns-then-letter-eq-CMYK : goal.returns-then-letter-eq-CMYK
returns-then-letter-eq-CMYK g c =
    let is : value_at g.W.Way.way 2 (g.W.Way.units c.args.src.now) c.args.at ≡ 67 = sym c.get-letter.ensures.value.0 ∙ c.if-letter-eq-CMYK.true in
    cmyk_led c.args.version is c.color-then-letter-eq-CMYK.ensures

pub returns-then-version-lt-V1_4 : goal.returns-then-version-lt-V1_4
returns-then-version-lt-V1_4 g c =
    plain-refused c.args.version c.get-letter.ensures.below c.requires.begins c.requires.way_in_bounds (ap (letter_fault c.args.version) (sym c.get-letter.ensures.value.0) ∙ no_letter c.args.version c.get-letter.result c.if-letter-eq-TRANSPARENT.false c.if-letter-eq-RGB.false c.if-letter-eq-CMYK.false (λ new. absurd (omega (arith, new, c.if-version-lt-V1_4.true)))) c.refusal.ensures

pub returns-then-letter-eq-GREY : goal.returns-then-letter-eq-GREY
returns-then-letter-eq-GREY g c =
    let is : value_at g.W.Way.way 2 (g.W.Way.units c.args.src.now) c.args.at ≡ 89 = sym c.get-letter.ensures.value.0 ∙ c.if-letter-eq-GREY.true in
    grey-led c.args.version (omega (arith, c.if-version-lt-V1_4.false)) is c.color-then-letter-eq-GREY.ensures

pub returns-then-letter-eq-HSB : goal.returns-then-letter-eq-HSB
returns-then-letter-eq-HSB g c =
    let is : value_at g.W.Way.way 2 (g.W.Way.units c.args.src.now) c.args.at ≡ 83 = sym c.get-letter.ensures.value.0 ∙ c.if-letter-eq-HSB.true in
    hsb-led c.args.version (omega (arith, c.if-version-lt-V1_4.false)) is c.hsb.ensures

pub returns : goal.returns
returns g c =
    plain-refused c.args.version c.get-letter.ensures.below c.requires.begins c.requires.way_in_bounds (ap (letter_fault c.args.version) (sym c.get-letter.ensures.value.0) ∙ no_letter c.args.version c.get-letter.result c.if-letter-eq-TRANSPARENT.false c.if-letter-eq-RGB.false c.if-letter-eq-CMYK.false (λ new. (c.if-letter-eq-GREY.false, c.if-letter-eq-HSB.false))) c.refusal-2.ensures
