-- `places::behind::pass` meets its contract.
use mathlib.Core.Path.{refl}
use Rattle.format.specs.Kind.{integer}
use Rattle.ways.specs.LayoutLaws.{valued-laid}
use Rattle.places.specs.PartLaws.{this_part}
use Rattle.places.proofs.behind.pass.Goals as goal

pub returns-in-Count : goal.returns-in-Count
returns-in-Count c = this_part c.args.version c.in-Count.is (valued-laid (c.count-counted.ensures.asks integer refl refl))

pub returns-in-Leaf : goal.returns-in-Leaf
returns-in-Leaf c = this_part c.args.version c.in-Leaf.is c.leaf_parts.ensures

pub returns-in-FlowFlag : goal.returns-in-FlowFlag
returns-in-FlowFlag c = this_part c.args.version c.in-FlowFlag.is (valued-laid c.flow_flag-flow.ensures)

pub returns-in-Paint : goal.returns-in-Paint
returns-in-Paint c = this_part c.args.version c.in-Paint.is c.paint.ensures

pub returns-in-PlainPaint : goal.returns-in-PlainPaint
returns-in-PlainPaint c = this_part c.args.version c.in-PlainPaint.is c.plain_paint.ensures

pub returns-in-Font : goal.returns-in-Font
returns-in-Font c = this_part c.args.version c.in-Font.is c.font.ensures

pub returns-in-Latex : goal.returns-in-Latex
returns-in-Latex c = this_part c.args.version c.in-Latex.is c.latex_if.ensures

pub returns-in-BeforeAlternative : goal.returns-in-BeforeAlternative
returns-in-BeforeAlternative c = this_part c.args.version c.in-BeforeAlternative.is c.before_alternative.ensures

pub returns-in-Chars : goal.returns-in-Chars
returns-in-Chars c = this_part c.args.version c.in-Chars.is c.string.ensures

pub returns-in-LineStyle : goal.returns-in-LineStyle
returns-in-LineStyle c = this_part c.args.version c.in-LineStyle.is c.line_style.ensures
