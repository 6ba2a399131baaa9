use Rattle.from_sheet.specs.Way.{way, units}
use Rattle.ways.specs.Way.{source_units}
use Rattle.memory.specs.SizeLaws.{run-size}
use Rattle.memory.specs.FitLaws.{run_nowhere, run_room, run-stored}
use Prim.Native.Nat.{◌^◌}
use native.Mathlib.Omega.{arith}
use Rattle.from_sheet.proofs.FromSheetWay.copy.Goals as goal

pub fitting-n-requires : goal.fitting-n-requires
fitting-n-requires c = (run-size c.args.size c.requires.0).0

pub copy_fields-requires : goal.copy_fields-requires
copy_fields-requires c =
    record { size_value = (c.requires.0, run_room (2 ^ 32) (source_units way c.args.size) 256 c.args.size (units c.args.src.now) c.args.dst.now c.args.at c.args.to c.fitting-n.ensures c.requires.1); all_small = λ i less. c.requires.2 i (omega (arith, less, c.fitting-n.ensures.most)) }

pub returns-then-dst-gt0 : goal.returns-then-dst-gt0
returns-then-dst-gt0 c =
    run-stored (2 ^ 32) (source_units way c.args.size) 256 c.args.size (units c.args.src.now) c.args.dst.now c.args.at c.args.to c.fitting-n.ensures c.copy_fields.ensures

pub returns-else-dst-gt0 : goal.returns-else-dst-gt0
returns-else-dst-gt0 c =
    run_nowhere (2 ^ 32) (source_units way c.args.size) 256 c.args.size (units c.args.src.now) c.args.dst.now c.args.at c.args.to c.args.count (omega (arith, c.if-dst-gt0.false))
