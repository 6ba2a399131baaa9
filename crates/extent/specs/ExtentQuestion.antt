-- How the question about a box is answered, and where an outline stands.
use Rattle.std.specs.Prelude.{◌≡◌, Bool, ◌||◌, ℕ, List, eqb, Result, Ok, Err}
use Rattle.std.proofs.Math.Option.{some}
use Rattle.format.specs.Layout.{◌&◌}
use Rattle.drawing.specs.declared.Extent.{Extent}
use Rattle.drawing.specs.declared.ExtentAnswer.{ExtentAnswer}
use Rattle.drawing.specs.String.{String, string}
use Rattle.drawing.specs.Paint as P
use Rattle.drawing.specs.LineStyle.{line_style}
use Rattle.drawing.specs.Path.{Path, Outline, outline}
use Rattle.drawing.specs.Text as T
use Rattle.drawing.specs.TextPath.{TextPath}
use Rattle.drawing.specs.Object.{Leaf, leaf}
use Rattle.drawing.specs.Table.{path_kind, text_path_kind}
use Rattle.drawing.specs.Questions.{part}
use Rattle.drawing.specs.Extent.{no_extent, extent_of, outline_in}
use Rattle.drawing.specs.Computed.{extent_value}
use Rattle.laws.specs.RowBodies.{RowBody}
use Rattle.laws.specs.Standing.{Here}
use Rattle.questions.specs.declared.asked.Refusal.{Refusal}
use Rattle.questions.specs.Asking.{number_of}

-- The answer with what was found: the box, or a refusal.
abbrev pub extent_found : Result Extent Refusal → ExtentAnswer
extent_found (Ok b) = record { number = 0; extent = b }
extent_found (Err e) = extent_value (no_extent (number_of e))

-- The answer for the outline that stands here.
abbrev pub OutlineRead : (bodies : List ℕ) → (version at : ℕ) → ExtentAnswer → Type 0
OutlineRead bs v at r = (o : Outline) → Here (outline v) bs at o → r ≡ extent_value (extent_of v (part o))

-- The kinds of objects that have an outline.
abbrev pub has_outline : ℕ → Bool
has_outline kind = eqb kind path_kind || eqb kind text_path_kind

-- This is the place of the outline of whatever path, or text along a path, stands here.
abbrev pub InPath : (bodies : List ℕ) → (version start : ℕ) → ℕ → Type 0
InPath bs v start r =
    (p : Path) → Here (P.paint v & P.paint v & line_style v & outline v) bs start (p.line_paint, (p.fill_paint, (p.style, p.outline))) → Here (outline v) bs r p.outline

abbrev pub InTextPath : (bodies : List ℕ) → (version start : ℕ) → ℕ → Type 0
InTextPath bs v start r =
    (x : TextPath) → Here (P.paint v & T.text_style & string 1 & outline v) bs start (x.text.paint, (x.text.style, (x.text.text, x.outline))) → Here (outline v) bs r x.outline

-- This is the place of a row's outline, if it has one.
abbrev pub OutlineOf : (contents bodies : List ℕ) → (version row : ℕ) → ℕ → Type 0
OutlineOf c bs v row r = (l : Leaf) (o : Outline) (d : String) → outline_in l ≡ some o → RowBody c bs v row (leaf l d) → Here (outline v) bs r o
