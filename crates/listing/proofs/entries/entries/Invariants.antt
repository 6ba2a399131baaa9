use Rattle.listing.specs.Entries.{Listing}
use Rattle.listing.proofs.entries.entries.Given as goal

abbrev pub invariant-loop-row : goal.invariant-loop-row
invariant-loop-row l = Listing l.contents l.words l.label l.rows l.version l.row l.count l.initial.room l.room
