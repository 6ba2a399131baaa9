-- `jdr_c::paint::asked` meets its contract: each test tells which part the number stands for.
use mathlib.Core.Option.{none}
use mathlib.Core.Path.{◌≡◌, sym, ap, ◌∙◌}
use mathlib.Core.List.{List}
use Prim.Native.Nat.{ℕ}
use borrow.Author.Tests.{ne_eqb}
use Rattle.drawing.specs.declared.PaintAnswer.{PaintAnswer}
use Rattle.jdr_c.specs.Values.{part_numbered}
use Rattle.jdr_c.specs.PaintComputed.{paint_computed}
use Rattle.jdr_c.proofs.paint.asked.Goals as goal

no-such-part : (n : ℕ) → (n ≡ 0 → ⊥) → (n ≡ 1 → ⊥) → (n ≡ 2 → ⊥) → part_numbered n ≡ none
no-such-part n no_line no-fill no_text = simp (ne_eqb n 0 no_line, ne_eqb n 1 no-fill, ne_eqb n 2 no_text)

module _ (contents bodies : List ℕ) (row : ℕ) where
  numbered : (m : ℕ) {n : ℕ} {r : PaintAnswer} → r ≡ paint_computed contents bodies row (part_numbered m) → n ≡ m
      → r ≡ paint_computed contents bodies row (part_numbered n)
  numbered m answered is = answered ∙ sym (ap (λ n. paint_computed contents bodies row (part_numbered n)) is)

pub returns-then-which-eq0 : goal.returns-then-which-eq0
returns-then-which-eq0 c =
    let args = c.args in
    numbered args.contents.now args.bodies.now args.row 0 c.paint.ensures.says c.if-which-eq0.true

pub returns-then-which-eq1 : goal.returns-then-which-eq1
returns-then-which-eq1 c =
    let args = c.args in
    numbered args.contents.now args.bodies.now args.row 1 c.paint-then-which-eq1.ensures.says c.if-which-eq1.true

pub returns-then-which-eq2 : goal.returns-then-which-eq2
returns-then-which-eq2 c =
    let args = c.args in
    numbered args.contents.now args.bodies.now args.row 2 c.paint-then-which-eq2.ensures.says c.if-which-eq2.true

pub returns : goal.returns
returns c =
    let args = c.args in
    let no_part = no-such-part args.which c.if-which-eq0.false c.if-which-eq1.false c.if-which-eq2.false in
    c.no_part.ensures ∙ sym (ap (paint_computed args.contents.now args.bodies.now args.row) no_part)
