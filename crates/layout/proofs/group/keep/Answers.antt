use Rattle.ways.specs.StepLaws.{steps_small}
use Rattle.ways.specs.Moves.{moved_one}
use Rattle.ways.specs.Way.{target_units}
use Rattle.memory.specs.SizeLaws.{field-size}
use Rattle.format.specs.Pass.{put}
use Rattle.format.specs.Digits.{digits}
use native.Mathlib.Omega.{arith}
use mathlib.Core.Path.{ap, ◌∙◌}
use Rattle.layout.proofs.group.keep.Goals as goal

pub put-requires : goal.put-requires
put-requires g c =
    let sizes = field-size c.args.size c.requires.size_value.0 in
    let small = steps_small {W = g.W.Way.way} c.args.size 1 c.requires.begins (omega (arith, c.requires.size_value.1)) sizes.0 sizes.1 in
    (omega (arith, small.to-small), c.requires.size_value.0, rw c.get-value.ensures.value.0 (c.requires.size_value.2 c.get-value.ensures.below))

pub step-requires : goal.step-requires
step-requires g c =
    let sizes = field-size c.args.size c.requires.size_value.0 in
    let small = steps_small {W = g.W.Way.way} c.args.size 1 c.requires.begins (omega (arith, c.requires.size_value.1)) sizes.0 sizes.1 in
    (sizes.1, small)

pub returns : goal.returns
returns g c =
    record { moved = moved_one g.W.Way.way c.args.size (g.W.Way.units c.args.src.now) c.step.ensures (c.put.ensures ∙ ap (λ v. put c.args.to (digits g.W.Way.way.target.base (target_units g.W.Way.way c.args.size) v) (g.W.Way.kept c.args.dst.now)) c.get-value.ensures.value.0); below = c.get-value.ensures.below }
