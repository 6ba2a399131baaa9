-- `text_out::TextOut::put_each`: what is held now and the bytes to come make what all of them make.
use Rattle.std.proofs.Common.{drop, ◌≡◌}
use Rattle.text_out.specs.Held.{held_after_all}
use Rattle.text_out.proofs.TextOut.put_each.Given as goal

abbrev pub invariant-loop-byte : goal.invariant-loop-byte
invariant-loop-byte l = held_after_all l.self.held.items (drop l.byte-index l.bytes) ≡ held_after_all l.initial.self.held.items l.bytes
