-- The parts of a body that are passed, and their layouts.
use Rattle.std.proofs.Math.Option.{Option}
use Rattle.std.specs.Prelude.{ℕ, List}
use Rattle.format.specs.Alternative.{chosen}
use Rattle.format.specs.Layout.{Layout, field, ◌&◌}
use Rattle.drawing.specs.Fields.{byte_in, flow_flag, member_count}
use Rattle.drawing.specs.String.{String, string}
use Rattle.drawing.specs.Choices.{if_flag}
use Rattle.drawing.specs.Paint as P
use Rattle.drawing.specs.LineStyle as L
use Rattle.drawing.specs.Text as T
use Rattle.drawing.specs.Object as O
use Rattle.drawing.specs.LeafLayout.{path_case, other_cases}
use Rattle.places.specs.declared.Part.{Part}
use Rattle.places.specs.declared.Part.TheVariants.{Count, Leaf, FlowFlag, Paint, PlainPaint, Font, Latex, BeforeAlternative, Chars, LineStyle}

-- What stands where a part stands.
abbrev pub ValueOf : Part → Type 0
ValueOf Count = ℕ
ValueOf (Leaf letter) = O.Leaf
ValueOf FlowFlag = ℕ
ValueOf Paint = P.Paint
ValueOf PlainPaint = P.Plain
ValueOf Font = String × (ℕ × (ℕ × (ℕ × List ℕ)))
ValueOf Latex = Option T.Latex
ValueOf BeforeAlternative = String × (String × (String × (String × (ℕ × ℕ))))
ValueOf Chars = String
ValueOf LineStyle = L.LineStyle

-- The layout of a part, in a drawing of this version.
abbrev pub layout_of : (part : Part) → ℕ → Layout (ValueOf part)
layout_of Count v = field member_count
layout_of (Leaf letter) v = chosen (path_case v) (other_cases v) letter
layout_of FlowFlag v = field flow_flag
layout_of Paint v = P.paint v
layout_of PlainPaint v = P.plain_paint v
layout_of Font v = T.font
layout_of Latex v = if_flag T.latex
layout_of BeforeAlternative v = string 0 & string 0 & string 0 & string 0 & field (byte_in 0 2) & field (byte_in 0 3)
layout_of Chars v = string 1
layout_of LineStyle v = L.line_style v
