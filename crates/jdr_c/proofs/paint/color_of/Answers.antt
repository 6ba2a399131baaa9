-- `jdr_c::paint::color_of` meets its contract: in each arm the paint is that variant.
use mathlib.Core.Path.{sym, ap}
use Rattle.jdr_c.specs.Values.{color_of}
use Rattle.jdr_c.proofs.paint.color_of.Goals as goal

pub returns-in-Transparent : goal.returns-in-Transparent
returns-in-Transparent c = sym (ap color_of c.in-Transparent.is)

pub returns-in-Rgb : goal.returns-in-Rgb
returns-in-Rgb c = sym (ap color_of c.in-Rgb.is)

pub returns-in-Cmyk : goal.returns-in-Cmyk
returns-in-Cmyk c = sym (ap color_of c.in-Cmyk.is)

pub returns-in-Grey : goal.returns-in-Grey
returns-in-Grey c = sym (ap color_of c.in-Grey.is)

pub returns-in-Hsb : goal.returns-in-Hsb
returns-in-Hsb c = sym (ap color_of c.in-Hsb.is)
