use Rattle.sheets.specs.PackingLaws.{counts-small, sheet-short, sheet-packed, checked_table}
use Rattle.format.specs.LeafLaws.{known_below}
use Rattle.promises.specs.Promises.{WritesSheet}
use Prim.Native.Nat.{◌+◌, ◌*◌}
use mir.Syntax.{w32}
use mathlib.Core.Path.{refl, sym, subst, ap}
use native.Mathlib.Omega.{arith}
use Rattle.sheets.proofs.write.write.Goals as goal

pub bytes_before-requires : goal.bytes_before-requires
bytes_before-requires c =
    (counts-small (checked_table c.args.contents.now c.args.bodies.now (known_below w32 c.args.bodies.now c.type_inv.bodies) c.in-Some.ensures refl)).0

pub returns-then-sheet-needed : goal.returns-then-sheet-needed
returns-then-sheet-needed c =
    subst (λ a. WritesSheet c.args.contents.now c.args.bodies.now c.args.sheet.now a c.args.sheet.now) (sym c.refused-then-sheet-needed.ensures)
    (sheet-short (checked_table c.args.contents.now c.args.bodies.now (known_below w32 c.args.bodies.now c.type_inv.bodies) c.in-Some.ensures refl) (known_below w32 c.args.bodies.now c.type_inv.bodies) c.args.sheet.now (ap (λ n. n + 4 * c.in-Some.counts.words) c.bytes_before.ensures) c.if-sheet-needed.true)

pub pack-requires : goal.pack-requires
pack-requires c =
    record { tabled = checked_table c.args.contents.now c.args.bodies.now (known_below w32 c.args.bodies.now c.type_inv.bodies) c.in-Some.ensures refl; words_in_bounds = omega (arith, c.if-sheet-needed.false, c.bytes_before.ensures) }

pub returns : goal.returns
returns c =
    subst (λ a. WritesSheet c.args.contents.now c.args.bodies.now c.args.sheet.now a c.pack.new.sheet) (sym c.answer.ensures)
    (sheet-packed (checked_table c.args.contents.now c.args.bodies.now (known_below w32 c.args.bodies.now c.type_inv.bodies) c.in-Some.ensures refl) (known_below w32 c.args.bodies.now c.type_inv.bodies) c.args.sheet.now (ap (λ n. n + 4 * c.in-Some.counts.words) c.bytes_before.ensures) (omega (arith, c.if-sheet-needed.false)) c.pack.ensures)

pub overflow_cast-needed-then-sheet-needed : goal.overflow_cast-needed-then-sheet-needed
overflow_cast-needed-then-sheet-needed c =
    let few = counts-small (checked_table c.args.contents.now c.args.bodies.now (known_below w32 c.args.bodies.now c.type_inv.bodies) c.in-Some.ensures refl) in omega (arith, few.0, few.1, c.bytes_before.ensures)

pub overflow_cast-packed : goal.overflow_cast-packed
overflow_cast-packed c =
    let few = counts-small (checked_table c.args.contents.now c.args.bodies.now (known_below w32 c.args.bodies.now c.type_inv.bodies) c.in-Some.ensures refl) in omega (arith, few.0, few.1, c.bytes_before.ensures)
