-- `format::decode::exchanged_char_at` meets its contract: two bytes, each of them below 256. Assumes nothing.
use mathlib.Core.Path.{◌≡◌}
use Prim.Native.Nat.{ℕ, ◌+◌, ◌*◌, ◌<◌, ◌≤◌}
use native.Mathlib.Omega.{arith}
use mathlib.Core.List.{List}
use lib.ListN.{length, take, drop, get_or}
use mir.Syntax.{w8}
use mir.Val.{Fits}
use Rattle.format.specs.Digits.{number}
use Rattle.format.specs.LeafLaws.{byte_parts, field-one}
-- A char's two bytes, the high one first.
use Rattle.format.proofs.decode.exchanged_char_at.Goals as goal

abbrev Bytes : List ℕ → ℕ → Type 0
Bytes s at = (number 256 (take 2 (drop at s)) ≡ get_or s at 0 * 256 + get_or s (at + 1) 0) × (get_or s at 0 < 256) × (get_or s (at + 1) 0 < 256)

bytes : (s : List ℕ) (at : ℕ) → ((i : ℕ) → Fits w8 (get_or s i 0)) → at + 2 ≤ length s → Bytes s at
bytes s at known inside =
    let first = field-one 256 s at (omega (arith, inside)) in
    let second = field-one 256 s (at + 1) (omega (arith, inside)) in
    (omega (arith, byte_parts s at 1 2 known inside, first, second), omega (arith, known at), omega (arith, known (at + 1)))

both : (c : goal.After-shared_slice_known-2-1) → Bytes c.args.file.now c.args.at
both c =
    bytes c.args.file.now c.args.at c.type_inv.file c.requires

pub overflow_cast-first : goal.overflow_cast-first
overflow_cast-first c = omega (arith, c.type_inv.file c.args.at)

pub overflow_cast-second : goal.overflow_cast-second
overflow_cast-second c = omega (arith, both c)

pub overflow_mul-result : goal.overflow_mul-result
overflow_mul-result c = omega (arith, both c)

pub overflow_add-result : goal.overflow_add-result
overflow_add-result c = omega (arith, both c)

pub returns : goal.returns
returns c = omega (arith, both c)
