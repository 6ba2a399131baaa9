-- `text_out::lent::put_all` stays in the buffer.
use Rattle.std.proofs.Common.{◌≤◌}
use Rattle.text_out.proofs.lent.put_all.Given as goal

abbrev pub invariant-loop-byte : goal.invariant-loop-byte
invariant-loop-byte l = l.at ≤ 4096
