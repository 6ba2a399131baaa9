-- `listing::list::list` meets its contract.
use mathlib.Core.Path.{refl, sym, subst}
use Rattle.listing.specs.ListLaws.{table_here, count_small, list_short, list_stored, list_stored-at_once}
use Rattle.format.specs.LeafLaws.{known_below}
use Rattle.promises.specs.Promises.{Lists}
use native.Mathlib.Omega.{arith}
use mir.Syntax.{w32}
use Rattle.listing.proofs.list.list.Goals as goal

pub entries-requires : goal.entries-requires
entries-requires c =
    table_here (known_below w32 c.args.words.now c.type_inv.words) c.in-Some.ensures c.args.label.now c.args.room.now refl

pub listed-requires : goal.listed-requires
listed-requires c =
    omega (arith, count_small (known_below w32 c.args.words.now c.type_inv.words) c.in-Some.ensures c.args.label.now c.args.room.now refl c.entries.ensures)

pub returns-then-rows-room : goal.returns-then-rows-room
returns-then-rows-room c =
    subst (λ a. Lists c.args.contents.now c.args.words.now c.args.label.now c.args.room.now a c.entries.new.room) (sym c.listed.ensures)
    (list_stored-at_once (known_below w32 c.args.words.now c.type_inv.words) c.in-Some.ensures c.args.label.now c.args.room.now refl (omega (arith, c.if-rows-room.true)) c.entries.ensures)

pub entries-count-requires : goal.entries-count-requires
entries-count-requires c =
    table_here (known_below w32 c.args.words.now c.type_inv.words) c.in-Some.ensures c.args.label.now c.args.room.now refl

pub overflow_cast-count : goal.overflow_cast-count
overflow_cast-count c =
    omega (arith, count_small (known_below w32 c.args.words.now c.type_inv.words) c.in-Some.ensures c.args.label.now c.args.room.now refl c.entries-count.ensures)

pub returns-then-room-count : goal.returns-then-room-count
returns-then-room-count c =
    subst (λ a. Lists c.args.contents.now c.args.words.now c.args.label.now c.args.room.now a c.args.room.now) (sym c.refused-then-room-count.ensures)
    (list_short (known_below w32 c.args.words.now c.type_inv.words) c.in-Some.ensures c.args.label.now c.args.room.now refl c.entries-count.ensures c.if-room-count.true)

pub entries-requires-2 : goal.entries-requires-2
entries-requires-2 c =
    table_here (known_below w32 c.args.words.now c.type_inv.words) c.in-Some.ensures c.args.label.now c.args.room.now refl

pub returns : goal.returns
returns c =
    subst (λ a. Lists c.args.contents.now c.args.words.now c.args.label.now c.args.room.now a c.entries-2.new.room) (sym c.listed-2.ensures)
    (list_stored (known_below w32 c.args.words.now c.type_inv.words) c.in-Some.ensures c.args.label.now c.args.room.now refl c.entries-count.ensures (λ short. omega (arith, short, c.if-room-count.false)) c.entries-2.ensures)
