-- `questions::text_places::text_places` meets its contract.
use mathlib.Core.Path.{refl, sym, ◌∙◌}
use Rattle.questions.specs.TextLaws.{places_of-text, places_of-text-path}
use Rattle.questions.proofs.text_places.text_places.Goals as goal

pub returns-then-kind-eq-TEXT_PATH_KIND : goal.returns-then-kind-eq-TEXT_PATH_KIND
returns-then-kind-eq-TEXT_PATH_KIND c =
    let row = c.args.row.now in
    places_of-text-path row.contents.now row.words.now row.version row.row refl (sym c.kind.ensures ∙ c.if-kind-eq-TEXT_PATH_KIND.true) c.in_text_path.ensures

pub returns : goal.returns
returns c =
    let row = c.args.row.now in
    places_of-text row.contents.now row.words.now row.version row.row refl (λ is. c.if-kind-eq-TEXT_PATH_KIND.false (c.kind.ensures ∙ is)) c.in_text.ensures
