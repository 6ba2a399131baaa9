use Rattle.session_run.specs.Objects.{between_done, id_steps, object_leaf, object_group, place_gone}
use native.Mathlib.Omega.{arith}
use mathlib.Core.Path.{refl}
use Rattle.session_run.proofs.place.object_step.Goals as goal

pub returns-then-told-ge-REFUSED : goal.returns-then-told-ge-REFUSED
returns-then-told-ge-REFUSED c =
    let r = c.requires.between_objects in place_gone c.if-told-ge-REFUSED.true (id_steps c.args.p c.args.members.now r.0 (between_done c.args.p r.1) c.requires.depth_nonzero.0 c.requires.depth_nonzero.1 r.4 r.2 c.judged-told.ensures.around) refl

pub returns-then-told-eq-GROUP : goal.returns-then-told-eq-GROUP
returns-then-told-eq-GROUP c =
    let r = c.requires.between_objects in let left = c.if-told-ge-REFUSED.false in object_group c.args.p c.args.members.now r.0 (between_done c.args.p r.1) c.requires.depth_nonzero.0 c.requires.depth_nonzero.1 r.4 r.2 c.judged-told.ensures.around (omega arith) c.if-told-eq-GROUP.true refl refl

pub returns : goal.returns
returns c =
    let r = c.requires.between_objects in let left = c.if-told-ge-REFUSED.false in object_leaf c.args.p c.args.members.now r.0 (between_done c.args.p r.1) c.requires.depth_nonzero.0 c.requires.depth_nonzero.1 r.4 r.2 c.judged-told.ensures.around (omega arith) c.if-told-eq-GROUP.false c.leaf_parts.ensures refl refl refl
