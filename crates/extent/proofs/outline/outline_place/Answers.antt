-- `extent::outline::outline_place` meets its contract.
use mathlib.Core.Path.{refl, sym, ◌∙◌}
use Rattle.extent.specs.ExtentLaws.{outline-of-path, outline-of-text-path}
use Rattle.extent.proofs.outline.outline_place.Goals as goal

pub returns-then-kind-eq-TEXT_PATH_KIND : goal.returns-then-kind-eq-TEXT_PATH_KIND
returns-then-kind-eq-TEXT_PATH_KIND c =
    let row = c.args.row.now in
    outline-of-text-path row.contents.now row.words.now row.version row.row refl (sym c.kind.ensures ∙ c.if-kind-eq-TEXT_PATH_KIND.true) c.in_text_path.ensures

pub returns : goal.returns
returns c =
    let row = c.args.row.now in
    outline-of-path row.contents.now row.words.now row.version row.row refl (λ is. c.if-kind-eq-TEXT_PATH_KIND.false (c.kind.ensures ∙ is)) c.in_path.ensures
