use Rattle.listing.specs.CharLaws.{left}
use Rattle.drawing.specs.String.{equal}
use Rattle.std.proofs.Common.{◌≡◌, length, take, drop}
use Rattle.listing.proofs.label.same_chars.Given as goal

abbrev pub invariant-loop-i : goal.invariant-loop-i
invariant-loop-i l = equal (take (length l.label) (drop l.from l.words)) l.label ≡ left l.words l.label l.from l.i
