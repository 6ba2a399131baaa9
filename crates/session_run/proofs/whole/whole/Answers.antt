use Rattle.session_run.specs.Wholes.{laid-whole, whole_part, part_at}
use Rattle.pieces.specs.PartBounds.{paint_50, markers_181, float_4}
use Rattle.pieces.specs.PartLaws as P
use Rattle.ways.specs.LayoutLaws.{valued-laid}
use Rattle.drawing.specs.MarkerChain.{markers}
use Rattle.drawing.specs.Paint.{paint}
use Rattle.drawing.specs.Fields as F
use Rattle.format.specs.Layout.{field}
use Rattle.session_run.specs.Digit.{digit}
use mathlib.Core.Path.{ap}
use native.Mathlib.Omega.{arith}
use Rattle.session_run.proofs.whole.whole.Goals as goal

pub returns-in-Paint : goal.returns-in-Paint
returns-in-Paint c =
    let a = c.args in part_at (ap digit c.in-Paint.is) (whole_part (λ n K. P.is_paint a.version n a.x a.y K) (laid-whole (paint a.version) (paint_50 a.version) (omega arith) (omega arith) a.here.inside c.paint.ensures))

pub returns-in-Width : goal.returns-in-Width
returns-in-Width c =
    let a = c.args in part_at (ap digit c.in-Width.is) (whole_part (λ n K. P.is_width a.version n a.x a.y K) (laid-whole (field F.float) float_4 (omega arith) (omega arith) a.here.inside (valued-laid c.float.ensures)))

pub returns-in-LineEnd : goal.returns-in-LineEnd
returns-in-LineEnd c = let a = c.args in part_at (ap digit c.in-LineEnd.is) (whole_part (λ n K. P.is_line_end a.version n a.x a.y K) c.line_end.ensures)

pub returns-in-Markers : goal.returns-in-Markers
returns-in-Markers c =
    let a = c.args in part_at (ap digit c.in-Markers.is) (whole_part (λ n K. P.is_markers a.version n a.x a.y K) (laid-whole (markers a.version) (markers_181 a.version) (omega arith) (omega arith) a.here.inside c.markers.ensures))

pub returns-in-Point : goal.returns-in-Point
returns-in-Point c = let a = c.args in part_at (ap digit c.in-Point.is) (whole_part (λ n K. P.is_point a.version n a.x a.y K) c.doubles.ensures)

pub returns-in-Controls : goal.returns-in-Controls
returns-in-Controls c = let a = c.args in part_at (ap digit c.in-Controls.is) (whole_part (λ n K. P.is_controls a.version n a.x a.y K) c.doubles-in-Controls.ensures)

pub returns-in-Join : goal.returns-in-Join
returns-in-Join c = let a = c.args in part_at (ap digit c.in-Join.is) (whole_part (λ n K. P.is_join a.version n a.x a.y K) c.joined_start.ensures)

pub returns-in-Face : goal.returns-in-Face
returns-in-Face c = let a = c.args in part_at (ap digit c.in-Face.is) (whole_part (λ n K. P.is_face a.version n a.x a.y K) c.face.ensures)

pub returns-in-Transformation : goal.returns-in-Transformation
returns-in-Transformation c = let a = c.args in part_at (ap digit c.in-Transformation.is) (whole_part (λ n K. P.is_transformation a.version n a.x a.y K) c.doubles-in-Transformation.ensures)

pub returns-in-Alignment : goal.returns-in-Alignment
returns-in-Alignment c = let a = c.args in part_at (ap digit c.in-Alignment.is) (whole_part (λ n K. P.is_alignment a.version n a.x a.y K) c.alignment.ensures)
