-- The plans that settle an argument (01), by what `read` promises: of every row of the table of marked plans, whatever meets the promise for its file and its
-- room is the result that is expected.
use Rattle.std.specs.Prelude.{◌≡◌, List, [], ◌∷◌, map, ℕ}
use Rattle.std.proofs.Common.{◌∙◌}
use Rattle.drawing.specs.declared.Answer.{Answer}
use Rattle.drawing.specs.Computed.{read_result}
use Rattle.drawing.specs.MarkedPlans.{Case, marked, all-marked}
use Rattle.promises.specs.Promises.{read_to, Reads}

abbrev All : (Case → Type 0) → List Case → Type 0
All P [] = Unit {0}
All P (c ∷ cs) = P c × All P cs

abbrev AsExpected : Case → Type 0
AsExpected c =
    (r : Answer) (contents' bodies' : List ℕ) → Reads c.file c.contents c.bodies r contents' bodies' → read_to r contents' bodies' ≡ c.expected

by_rows : (cs : List Case) → map (λ c. read_result c.file c.contents c.bodies) cs ≡ map (λ c. c.expected) cs → All AsExpected cs
by_rows [] e = tt
by_rows (c ∷ cs) e =
    let here : read_result c.file c.contents c.bodies ≡ c.expected = cc in
    let others : map (λ c. read_result c.file c.contents c.bodies) cs ≡ map (λ c. c.expected) cs = cc in
    (λ r contents' bodies' read. read.says ∙ here, by_rows cs others)

pub marked_read : All AsExpected marked
marked_read = by_rows marked all-marked
