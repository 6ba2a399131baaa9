-- `format::encode::exchanged_word` meets its contract. Assumes nothing.
use native.Mathlib.Omega.{arith}
use native.Mathlib.Nat as Nat
use Prim.Native.Nat.{ℕ, ◌+◌, ◌*◌, ◌/◌, ◌%◌, ◌<◌}
use mathlib.Core.Path.{◌≡◌}
-- The bytes of a number, lowest first.
use Rattle.format.proofs.encode.exchanged_word.Goals as goal

bytes : (a b c d : ℕ) → a < 256 → b < 256 → c < 256 → d < 256
    → ((a * 16777216 + b * 65536 + c * 256 + d) % 256 ≡ d) × ((a * 16777216 + b * 65536 + c * 256 + d) / 256 % 256 ≡ c) × ((a * 16777216 + b * 65536 + c * 256 + d) / 65536 % 256 ≡ b) × ((a * 16777216 + b * 65536 + c * 256 + d) / 16777216 ≡ a)
bytes a b c d ha hb hc hd = (omega arith, omega arith, omega arith, omega arith)

pub returns : goal.returns
returns c =
    let v = c.args.value in
    bytes (v % 256) (v / 256 % 256) (v / 65536 % 256) (v / 16777216) (Nat.mod-lt v (omega arith)) (Nat.mod-lt (v / 256) (omega arith)) (Nat.mod-lt (v / 65536) (omega arith)) (omega (arith, c.ranges.value))
