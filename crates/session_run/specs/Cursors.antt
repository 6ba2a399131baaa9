-- What is known of a place in a file's bytes.
use Rattle.std.proofs.Common.{w8}
use Rattle.format.specs.Digits.{Below}
use Rattle.format.specs.LeafLaws.{known_below}
use Rattle.session_run.specs.declared.cursor.Cursor.{Cursor}

-- The bytes are below 256.
pub units_below : (c : Cursor) → Below 256 c.src.now
units_below c = known_below w8 c.src.now (λ i. record { fits = c.units i })
