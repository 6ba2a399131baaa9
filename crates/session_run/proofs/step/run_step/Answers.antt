use Rattle.session_run.specs.Cursors.{units_below}
use Rattle.session_run.specs.Insides.{fields_fit, none-fits, run_inside, run-cut}
use Prim.Native.Nat.{◌-◌}
use lib.ListN.{length}
use native.Mathlib.Omega.{arith}
use Rattle.session_run.proofs.step.run_step.Goals as goal

pub returns-then-there-eq0 : goal.returns-then-there-eq0
returns-then-there-eq0 c =
    let h = c.args.here in run-cut c.args.version c.args.s c.field_bytes-bytes.ensures (units_below h) h.ready h.inside c.requires (none-fits (length h.src.now - h.at) c.field_bytes-bytes.result c.field_bytes-bytes.ensures.some c.if-there-eq0.true) c.refusal.ensures

pub returns : goal.returns
returns c =
    let h = c.args.here in let n = length h.src.now - h.at in let bytes = c.field_bytes-bytes.result in let least = c.min-taken.ensures in let some = c.if-there-eq0.false in let more = c.requires in run_inside c.args.version c.args.s c.field_bytes-bytes.ensures (units_below h) h.ready h.inside c.min-taken.result (c.args.s.run - c.min-taken.result) (omega arith) (omega arith) (fields_fit n bytes c.min-taken.result c.field_bytes-bytes.ensures.some (omega arith)).0
