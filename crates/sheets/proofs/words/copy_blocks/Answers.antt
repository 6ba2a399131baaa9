use Prim.Native.Nat.{◌+◌, ◌-◌, ◌*◌, ◌<◌, ◌≤◌}
use native.Mathlib.Omega.{arith}
use Rattle.memory.specs.StoreLaws.{storing_on, storing_from, storing_last}
use Rattle.sheets.proofs.words.copy_blocks.Goals as goal

pub loop-block-preserved : goal.loop-block-preserved
loop-block-preserved c =
    let most = c.requires.0 in
    let some : 16 ≤ c.args.count - 16 * c.loop-block.block = omega (arith, most, c.loop-block-test.true) in
    let more : 0 < c.args.count - 16 * c.loop-block.block = omega (arith, some) in
    storing_from (storing_on c.loop-block.invariant 16 more some c.copy_block.ensures) (omega arith) (omega arith) (omega arith)

pub returns : goal.returns
returns c =
    let last = c.args.count - 16 in
    storing_last c.loop-block.invariant last 16 (omega (arith, c.requires.0)) (omega arith) (omega (arith, c.requires.0, c.loop-block-test.false))
    {a = c.args.from + 4 * last} {p = c.args.to + last} (omega arith) (omega arith) c.copy_block-2.ensures
