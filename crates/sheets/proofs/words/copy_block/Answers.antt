use mathlib.Core.Path.{ap, ◌∙◌}
use native.Mathlib.Omega.{arith}
use mir.Syntax.{w8}
use Rattle.format.specs.LeafLaws.{known_below}
use Rattle.format.specs.Pass.{splice}
use Rattle.memory.specs.StoreLaws.{storing_again, storing_from, storing_ends}
use Rattle.sheets.specs.CopyingLaws.{eight_doubles}
use Rattle.sheets.proofs.words.copy_block.Goals as goal

pub loop-pair-preserved : goal.loop-pair-preserved
loop-pair-preserved c =
    storing_from (storing_again c.loop-pair.invariant (omega (arith, c.loop-pair-test.true)) c.copy_pair.ensures) (omega arith) (omega arith) (omega arith)

pub returns : goal.returns
returns c =
    let sheet = c.args.sheet.now in
    storing_ends c.loop-pair.invariant (λ h. omega (arith, h, c.loop-pair-test.false))
    ∙ ap (λ ws. splice c.args.to ws c.args.bodies.now)
    (eight_doubles sheet c.args.from c.requires.0 (known_below w8 sheet c.type_inv.sheet))
