use Rattle.session_run.specs.Cursors.{units_below}
use Rattle.session_run.specs.Objects.{count-counted, count_went, place_gone}
use Rattle.format.specs.Kind as K
use native.Mathlib.Omega.{arith}
use mathlib.Core.Path.{refl}
use Rattle.session_run.proofs.place.count_step.Goals as goal

pub returns-then-counted-ge-REFUSED : goal.returns-then-counted-ge-REFUSED
returns-then-counted-ge-REFUSED c =
    place_gone c.if-counted-ge-REFUSED.true (count-counted c.args.p c.args.members.now c.requires.0 (let full = c.requires.2 in let less = c.requires.1 in omega arith) (units_below c.args.here) c.args.here.inside (c.count-counted.ensures.asks K.integer refl refl)) refl

pub returns : goal.returns
returns c =
    let left = c.if-counted-ge-REFUSED.false in count_went c.args.p c.args.members.now c.requires.0 (let full = c.requires.2 in let less = c.requires.1 in omega arith) (units_below c.args.here) c.args.here.inside (c.count-counted.ensures.asks K.integer refl refl) (omega arith) c.requires.1 refl refl
