-- `jdr_c::paint::given` meets its contract: in each arm the answer is that variant, and its plain paints are given as colours.
use mathlib.Core.Path.{ap}
use Rattle.drawing.specs.Questions.{paint_given}
use Rattle.jdr_c.specs.Values.{paint_struct}
use Rattle.jdr_c.proofs.paint.given.Goals as goal

pub returns-in-Refused : goal.returns-in-Refused
returns-in-Refused c =
    let first = c.color_of.ensures in
    let second = c.color_of-in-Refused.ensures in
    let same = ap (λ a. paint_struct (paint_given a)) c.in-Refused.is in
    cc

pub returns-in-Plain : goal.returns-in-Plain
returns-in-Plain c =
    let first = c.color_of-in-Plain.ensures in
    let second = c.color_of-in-Plain-2.ensures in
    let same = ap (λ a. paint_struct (paint_given a)) c.in-Plain.is in
    cc

pub returns-in-Linear : goal.returns-in-Linear
returns-in-Linear c =
    let first = c.color_of-in-Linear.ensures in
    let second = c.color_of-in-Linear-2.ensures in
    let same = ap (λ a. paint_struct (paint_given a)) c.in-Linear.is in
    cc

pub returns-in-Radial : goal.returns-in-Radial
returns-in-Radial c =
    let first = c.color_of-in-Radial.ensures in
    let second = c.color_of-in-Radial-2.ensures in
    let same = ap (λ a. paint_struct (paint_given a)) c.in-Radial.is in
    cc
