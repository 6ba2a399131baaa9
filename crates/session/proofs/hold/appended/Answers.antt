use Rattle.pieces.specs.Held.{first_of}
use Rattle.session.specs.Holding.{written-long, written_first}
use Prim.Native.Nat.{◌+◌, ◌-◌}
use lib.ListN.{length, take, drop, length-take, length-drop}
use mathlib.Core.List.{◌++◌}
use mathlib.Core.Path.{◌≡◌, ap, ◌∙◌}
use native.Mathlib.Omega.{arith}
use Rattle.session.proofs.hold.appended.Goals as goal

pub returns : goal.returns
returns c =
    let a = c.args in let new = c.copy_from_slice.new.self in let slice : a.from + a.count - a.from ≡ a.count = omega arith in let is = c.copy_from_slice.ensures.after ∙ ap (λ n. take n (drop a.from a.src.now)) slice in let left = length-drop a.from a.src.now in let taken = length-take a.count (drop a.from a.src.now) in let sized = ap length is in let long : length new ≡ a.count = omega arith in (written-long a.old a.at a.count (omega arith) new long ∙ c.requires.0, written_first a.old a.at a.count (omega arith) new long ∙ ap (λ l. first_of a.at a.old ++ l) is)
