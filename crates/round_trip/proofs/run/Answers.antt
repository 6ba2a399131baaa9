use lib.ListN.{take, drop}
use native.Mathlib.Omega.{arith}
use Prim.Native.Nat.{◌+◌, ◌-◌}
use mathlib.Core.Path.{◌≡◌, ap}
use Rattle.round_trip.proofs.run.Goals as goal

pub returns : goal.returns
returns c =
    let same : c.args.start + c.args.count - c.args.start ≡ c.args.count = omega arith in ap (λ n. take n (drop c.args.start c.args.words.now)) same
