-- What the questions about a paint, a text and a description answer, and which of two texts is shown (01, 'Paint', 'Text to show').
use Rattle.std.specs.Prelude.{◌≡◌, cond, ℕ, ◌+◌, ◌-◌, ◌≤◌, List, [], length, take, drop, ltb, leb, Float}
use Rattle.std.proofs.Math.Option.{Option, none, some, map}
use Rattle.std.proofs.Math.ListN.{get_elem?}
use Rattle.std.specs.Float.{binary32}
use Rattle.std.specs.Float.Ieee.{of_bits}
use Rattle.drawing.specs.Limits.{v1_2}
use Rattle.drawing.specs.Numbers.{no_row, no_part}
use Rattle.drawing.specs.declared.Paint as PaintEnum
use Rattle.drawing.specs.declared.Paint.TheVariants as PaintCase
use Rattle.drawing.specs.declared.PaintAnswer.{PaintAnswer}
use Rattle.drawing.specs.declared.PaintAnswer.TheVariants.{Refused, Plain, Linear, Radial}
use Rattle.drawing.specs.declared.Which.{Which}
use Rattle.drawing.specs.declared.Which.TheVariants.{Line, Fill, Text}
use Rattle.drawing.specs.declared.Span.{Span}
use Rattle.drawing.specs.declared.TextAnswer.{TextAnswer}
use Rattle.drawing.specs.declared.DescriptionAnswer.{DescriptionAnswer}
use Rattle.drawing.specs.declared.Answer.{Answer}
use Rattle.drawing.specs.String.{String, string}
use Rattle.drawing.specs.Paint as P
use Rattle.drawing.specs.Text as T
use Rattle.drawing.specs.Object.{Object, leaf, group, Leaf, path, text, bitmap, text_path}
use Rattle.drawing.specs.ObjectId.{path_of}
use Rattle.drawing.specs.Drawing.{Drawing}
use Rattle.drawing.specs.Table.{words_of, start_in, end_in, contents_of}
use Rattle.drawing.specs.Order.{objects_of, description_of}
use Rattle.drawing.specs.Answers.{answer}

-- ---- asking about a part of a row's object

-- A part, or the refusal's number: 6 for a row out of range, 7 for an object with no such part.
pub data Found (A : Type 0) : Type 0 where
  part : A → Found A
  refusal : ℕ → Found A

abbrev pub or_refusal : {A : Type 0} → ℕ → Option A → Found A
or_refusal n none = refusal n
or_refusal n (some a) = part a

abbrev pub part_at : {A : Type 0} → (Object → Option A) → Option Object → Found A
part_at has none = refusal no_row
part_at has (some o) = or_refusal no_part (has o)

-- The part of the object with this row number in a drawing.
abbrev pub part_of : {A : Type 0} → (Object → Option A) → ℕ → Drawing → Found A
part_of has row d = part_at has (get_elem? (objects_of d) row)

-- ---- the paint question

-- A float component, as the value that its bits stand for.
abbrev pub float_of : ℕ → Float
float_of bits = of_bits binary32 bits

-- A plain paint as the public enum has it.
abbrev pub plain_value : P.Plain → PaintEnum.Paint
plain_value P.transparent = PaintCase.Transparent
plain_value (P.rgb r g b a) = PaintCase.Rgb (float_of r) (float_of g) (float_of b) (float_of a)
plain_value (P.cmyk c m y k a) = PaintCase.Cmyk (float_of c) (float_of m) (float_of y) (float_of k) (float_of a)
plain_value (P.grey g a) = PaintCase.Grey (float_of g) (float_of a)
plain_value (P.hsb h s b a) = PaintCase.Hsb (float_of h) (float_of s) (float_of b) (float_of a)

abbrev pub paint_value : Found P.Paint → PaintAnswer
paint_value (refusal n) = Refused n
paint_value (part (P.plain p)) = Plain (plain_value p)
paint_value (part (P.linear start end d)) = Linear (plain_value start) (plain_value end) d
paint_value (part (P.radial start end l)) = Radial (plain_value start) (plain_value end) l

-- What 01 asks of the answer: the number, with offset and counts 0; the form (0 plain, 1 linear, 2 radial); the one or two plain paints; and a gradient's
-- integer, the direction of a linear one or the location of a radial one. With a refusal the paint is transparent.
pub record PaintGiven : Type 0 where
  pub answer : Answer
  pub form : ℕ
  pub first : PaintEnum.Paint
  pub second : PaintEnum.Paint
  pub direction_or_location : ℕ

abbrev pub given : (number form : ℕ) (first second : PaintEnum.Paint) → ℕ → PaintGiven
given n form first second integer = record { answer = answer n 0 0 0; form = form; first = first; second = second; direction_or_location = integer }

-- It, for each case of the public answer.
abbrev pub paint_given : PaintAnswer → PaintGiven
paint_given (Refused n) = given n 0 PaintCase.Transparent PaintCase.Transparent 0
paint_given (Plain p) = given 0 0 p PaintCase.Transparent 0
paint_given (Linear start end d) = given 0 1 start end d
paint_given (Radial start end l) = given 0 2 start end l

-- And for the paint of a drawing itself.
abbrev pub paint_of : Found P.Paint → PaintGiven
paint_of (refusal n) = given n 0 PaintCase.Transparent PaintCase.Transparent 0
paint_of (part (P.plain p)) = given 0 0 (plain_value p) PaintCase.Transparent 0
paint_of (part (P.linear start end d)) = given 0 1 (plain_value start) (plain_value end) d
paint_of (part (P.radial start end l)) = given 0 2 (plain_value start) (plain_value end) l

-- A part that leaves of some kinds have; a group has none.
abbrev pub leaf_part : {A : Type 0} → (Leaf → Option A) → Object → Option A
leaf_part has (leaf l d) = has l
leaf_part has (group os d) = none

-- The text that a leaf has: a text's own, or that of a text along a path.
abbrev pub wording : Leaf → Option T.Text
wording (path p) = none
wording (text t) = some t
wording (bitmap b) = none
wording (text_path x) = some x.text

-- The paint of this part, where an object has the part.
abbrev pub paint_part : Which → Object → Option P.Paint
paint_part Line o = map (λ p. p.line_paint) (leaf_part path_of o)
paint_part Fill o = map (λ p. p.fill_paint) (leaf_part path_of o)
paint_part Text o = map (λ t. t.paint) (leaf_part wording o)

abbrev pub paint_asked : Which → ℕ → Drawing → PaintAnswer
paint_asked which row d = paint_value (part_of (paint_part which) row d)

-- ---- the text question

abbrev pub span : ℕ → String → Span
span start chars = record { start = start; length = length chars }

abbrev pub no_span : Span
no_span = span 0 []

-- The words of a string in a body: its length and its chars.
abbrev pub string_words : String → ℕ
string_words s = length (words_of (string 0) s)

-- The words of a style before the alternative's chars: the font, the flag, four strings, two bytes, and the length.
abbrev pub before_alternative : T.TextStyle → T.Latex → ℕ
before_alternative s l =
    length (words_of T.font (T.font_of s)) + 1 + string_words l.family + string_words l.series + string_words l.shape + string_words l.size + 2 + 1

-- The words of a body before the style: none in a text, those of the paint in a text along a path.
abbrev pub before_style : ℕ → Leaf → ℕ
before_style v (path p) = 0
before_style v (text t) = 0
before_style v (bitmap b) = 0
before_style v (text_path x) = length (words_of (P.paint v) x.text.paint)

-- The words of a body before the text's chars: the style and the paint, in either order, and the length.
abbrev pub before_text : ℕ → T.Text → ℕ
before_text v t = length (words_of T.text_style t.style) + length (words_of (P.paint v) t.paint) + 1

-- Where the alternative's chars stand, of a style that begins here.
abbrev pub alternative_span : ℕ → T.TextStyle → Option T.Latex → Span
alternative_span start s none = no_span
alternative_span start s (some l) = span (start + before_alternative s l) l.alternative

-- What 01 asks of the answer: the number, with offset and counts 0, and the two places.
pub record TextGiven : Type 0 where
  pub answer : Answer
  pub alternative : Span
  pub text : Span

-- It, for the public answer.
abbrev pub text_given : TextAnswer → TextGiven
text_given r = record { answer = answer r.number 0 0 0; alternative = r.alternative; text = r.text }

-- With a refusal the places are 0.
abbrev pub no_text : ℕ → TextGiven
no_text n = record { answer = answer n 0 0 0; alternative = no_span; text = no_span }

-- A text, with the words before its style.
abbrev pub text_part : ℕ → Object → Option (ℕ × T.Text)
text_part v o = leaf_part (λ l. map (λ t. (before_style v l, t)) (wording l)) o

-- And for a text in a drawing of this version, with a body that begins here.
abbrev pub text_places : (start version : ℕ) → Found (ℕ × T.Text) → TextGiven
text_places start v (refusal n) = no_text n
text_places start v (part (before, t)) =
    record {
      answer = answer 0 0 0 0;
      alternative = alternative_span (start + before) t.style t.style.latex;
      text = span (start + before_text v t) t.text;
    }

-- A body begins where its row says.
abbrev pub text_asked : ℕ → Drawing → TextGiven
text_asked row d = text_places (start_in (contents_of d) row) d.version (part_of (text_part d.version) row d)

-- The alternative's chars; none without LaTeX fields.
abbrev pub alternative_of : Option T.Latex → String
alternative_of none = []
alternative_of (some l) = l.alternative

-- A place in the bodies holds these chars.
pub record CharsAt (bodies : List ℕ) (place : Span) (chars : String) : Type 0 where
  pub inside : place.start + place.length ≤ length bodies
  pub chars-are : take place.length (drop place.start bodies) ≡ chars

-- ---- the description question

-- A description's chars are the last words of its body, which ends here. Below 1.2 a body has none.
abbrev pub description_span : (version end : ℕ) → String → Span
description_span v end chars = cond (leb v1_2 v) (span (end - length chars) chars) no_span

-- With a refusal the place is 0.
abbrev pub no_description : ℕ → DescriptionAnswer
no_description n = record { number = n; chars = no_span }

abbrev pub description_place : (version end : ℕ) → Found String → DescriptionAnswer
description_place v end (refusal n) = no_description n
description_place v end (part chars) = record { number = 0; chars = description_span v end chars }

-- Every object has a description.
abbrev pub description_part : Object → Option String
description_part o = some (description_of o)

abbrev pub description_asked : ℕ → Drawing → DescriptionAnswer
description_asked row d = description_place d.version (end_in (contents_of d) row) (part_of description_part row d)

-- ---- the text to show

-- The alternative if it has a char, otherwise the plain text. A is the type of the lent runs themselves: what is shown is that very run.
abbrev pub shown : {A : Type 0} → ℕ → (alternative plain : A) → A
shown alternative_length alternative plain = cond (ltb 0 alternative_length) alternative plain

-- The chars that are shown for a text.
abbrev pub shown_chars : T.Text → String
shown_chars t = shown (length (alternative_of t.style.latex)) (alternative_of t.style.latex) t.text
