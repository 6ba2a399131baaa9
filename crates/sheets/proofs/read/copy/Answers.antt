use Rattle.sheets.specs.ReadingLaws.{small, contents-room, bodies-room}
use lib.ListN.{length}
use mathlib.Core.Path.{refl}
use Rattle.sheets.proofs.read.copy.Goals as goal

pub bytes_before-before-requires : goal.bytes_before-before-requires
bytes_before-before-requires c = (small c.requires.counted).0

pub store_fields-requires : goal.store_fields-requires
store_fields-requires c = (refl, contents-room c.requires.counted (length c.args.contents.now) c.requires.rows_in_bounds.0)

pub copy_words-requires : goal.copy_words-requires
copy_words-requires c =
    bodies-room c.requires.counted (length c.args.bodies.now) c.requires.rows_in_bounds.1 c.bytes_before-before.ensures
