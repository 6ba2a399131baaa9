-- How the text question is answered, and how the strings that stand at places are read.
use Rattle.std.specs.Prelude.{◌≡◌, Bool, ◌||◌, ℕ, ◌+◌, List, eqb, length, Result, Ok, Err}
use Rattle.std.proofs.Math.Option.{Option, none, some}
use Rattle.format.specs.Layout.{◌&◌}
use Rattle.questions.specs.declared.text_places.TextPlaces.{TextPlaces}
use Rattle.drawing.specs.declared.Span.{Span}
use Rattle.drawing.specs.declared.TextAnswer.{TextAnswer}
use Rattle.drawing.specs.String.{String, string}
use Rattle.drawing.specs.Choices.{if_flag}
use Rattle.drawing.specs.Paint as P
use Rattle.drawing.specs.Path.{outline}
use Rattle.drawing.specs.Text as T
use Rattle.drawing.specs.TextPath.{TextPath}
use Rattle.drawing.specs.Object.{Leaf, leaf}
use Rattle.drawing.specs.Table.{text_kind, text_path_kind, words_of, start_in}
use Rattle.drawing.specs.Questions.{span, no_span, no_text, wording, before_style, before_text}
use Rattle.drawing.specs.Computed.{text_value}
use Rattle.laws.specs.RowBodies.{RowBody}
use Rattle.laws.specs.Standing.{Here}
use Rattle.laws.specs.TextPlaceLaws.{latex_front, latex_parts}
use Rattle.questions.specs.declared.asked.Refusal.{Refusal}
use Rattle.questions.specs.Asking.{number_of}

-- The answer with what was found: the places of the alternative and of the text, or a refusal.
abbrev pub text_found : Result (Span × Span) Refusal → TextAnswer
text_found (Ok t) = record { number = 0; alternative = t.0; text = t.1 }
text_found (Err e) = text_value (no_text (number_of e))

-- The kinds of objects that have a text.
abbrev pub has_text : ℕ → Bool
has_text kind = eqb kind text_kind || eqb kind text_path_kind

-- The parts of a text stand at these places; so many words before its style are those of its body.
pub record TextStands (bodies : List ℕ) (v start before : ℕ) (t : T.Text) (r : TextPlaces) : Type 0 where
  pub paint : Here (P.paint v) bodies r.paint t.paint
  pub latex : Here (if_flag T.latex) bodies r.latex t.style.latex
  pub latex-is : r.latex ≡ start + before + length (words_of T.font (T.font_of t.style))
  pub chars : Here (string 1) bodies r.chars t.text
  pub chars-are : r.chars + 1 ≡ start + before_text v t

-- These are the places of whatever text, or text along a path, stands here.
abbrev pub InText : (bodies : List ℕ) → (version start : ℕ) → TextPlaces → Type 0
InText bs v start r =
    (t : T.Text) → Here (T.text_style & P.paint v & string 1) bs start (t.style, (t.paint, t.text)) → TextStands bs v start 0 t r

abbrev pub InTextPath : (bodies : List ℕ) → (version start : ℕ) → TextPlaces → Type 0
InTextPath bs v start r =
    (x : TextPath) → Here (P.paint v & T.text_style & string 1 & outline v) bs start (x.text.paint, (x.text.style, (x.text.text, x.outline)))
    → TextStands bs v start (length (words_of (P.paint v) x.text.paint)) x.text r

-- These are the places of a row's text, if it has one.
abbrev pub TextPlacesOf : (contents bodies : List ℕ) → (version row : ℕ) → TextPlaces → Type 0
TextPlacesOf c bs v row r =
    (l : Leaf) (t : T.Text) (d : String) → wording l ≡ some t → RowBody c bs v row (leaf l d) → TextStands bs v (start_in c row) (before_style v l) t r

-- The chars of the string that stands here.
abbrev pub CharsRead : (bodies : List ℕ) → ℕ → Span → Type 0
CharsRead bs at r = (least : ℕ) (s : String) → Here (string least) bs at s → r ≡ span (at + 1) s

-- The alternative's chars, in the LaTeX fields whose flag stands here.
abbrev pub alternative_in : ℕ → Option T.Latex → Span
alternative_in at none = no_span
alternative_in at (some l) = span (at + 1 + length (words_of latex_front (latex_parts l).0) + 1) l.alternative

abbrev pub AlternativeRead : (bodies : List ℕ) → ℕ → Span → Type 0
AlternativeRead bs at r = (o : Option T.Latex) → Here (if_flag T.latex) bs at o → r ≡ alternative_in at o
