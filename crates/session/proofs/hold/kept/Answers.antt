use Rattle.pieces.specs.HeldLaws.{take-first}
use Rattle.pieces.specs.Held.{first_of}
use Rattle.std.proofs.Common.{rules}
use native.Mathlib.Nat.{zero-add}
use mathlib.Core.Path.{ap, sym, ◌∙◌}
use Rattle.session.proofs.hold.kept.Goals as goal

pub returns : goal.returns
returns c =
    let n = c.args.count in (c.appended.ensures.0, ap (λ n. first_of n c.appended.result) (sym (zero-add n)) ∙ c.appended.ensures.1 ∙ take-first n c.args.old (search rules))
