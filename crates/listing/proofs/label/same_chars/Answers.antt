-- `listing::label::same_chars` meets its contract.
use Rattle.listing.specs.CharLaws.{left, one_char}
use borrow.Author.Tests.{eq-eqb, ne_eqb}
use lib.ListN.{get_or}
use Prim.Native.Nat.{◌+◌}
use mathlib.Core.Bool.{◌&&◌}
use mathlib.Core.Path.{sym, ap, ◌∙◌}
use Rattle.listing.proofs.label.same_chars.Goals as goal

pub returns-then-words-from : goal.returns-then-words-from
returns-then-words-from c =
    sym (c.loop-i.invariant ∙ one_char c.args.words.now c.args.label.now c.args.from c.loop-i.i c.loop-i-test.true c.requires ∙ ap (λ t. t && left c.args.words.now c.args.label.now c.args.from (c.loop-i.i + 1)) (ne_eqb (get_or c.args.words.now (c.args.from + c.loop-i.i) 0) (get_or c.args.label.now c.loop-i.i 0) (λ e. c.if-words-from.true (e ∙ sym c.from.ensures))))

pub loop-i-preserved : goal.loop-i-preserved
loop-i-preserved c =
    c.loop-i.invariant ∙ one_char c.args.words.now c.args.label.now c.args.from c.loop-i.i c.loop-i-test.true c.requires ∙ ap (λ t. t && left c.args.words.now c.args.label.now c.args.from (c.loop-i.i + 1)) (eq-eqb (get_or c.args.words.now (c.args.from + c.loop-i.i) 0) (get_or c.args.label.now c.loop-i.i 0) (c.if-words-from.false ∙ c.from.ensures))
