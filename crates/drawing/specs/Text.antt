-- Texts (01, 'Object', T), and the transformations that texts and bitmaps have. Texts along paths (R-1, X) have the same style.
use Rattle.std.specs.Prelude.{refl, ℕ, List}
use Rattle.std.proofs.Math.Option.{Option}
use Rattle.format.specs.Layout.{Layout, field, repeat, renamed, ◌&◌}
use Rattle.drawing.specs.Fields.{double, byte_in, font_size}
use Rattle.drawing.specs.String.{String, string}
use Rattle.drawing.specs.Choices.{if_flag}
use Rattle.drawing.specs.Paint.{Paint, paint}

-- The LaTeX fields of a text.
pub record Latex : Type 0 where
  pub family : String
  pub series : String
  pub shape : String
  pub size : String
  pub horizontal : ℕ
  pub vertical : ℕ
  pub alternative : String

-- A font with its transformation and its LaTeX fields.
pub record TextStyle : Type 0 where
  pub family : String
  pub shape : ℕ
  pub series : ℕ
  pub size : ℕ
  -- the bits of six doubles
  pub transformation : List ℕ
  pub latex : Option Latex

pub record Text : Type 0 where
  pub style : TextStyle
  pub paint : Paint
  pub text : String

abbrev pub transformation : Layout (List ℕ)
transformation = repeat 6 (field double)

abbrev pub latex : Layout Latex
latex =
    renamed
    (string 0 & string 0 & string 0 & string 0 & field (byte_in 0 2) & field (byte_in 0 3) & string 0)
    (λ (family, (series, (shape, (size, (horizontal, (vertical, alternative)))))).
    record { family = family; series = series; shape = shape; size = size; horizontal = horizontal; vertical = vertical; alternative = alternative })
    (λ l. (l.family, (l.series, (l.shape, (l.size, (l.horizontal, (l.vertical, l.alternative)))))))
    (λ t good. refl)

-- The fields before the LaTeX flag: family, shape, series, size and transformation.
abbrev pub font : Layout (String × (ℕ × (ℕ × (ℕ × List ℕ))))
font = string 0 & field (byte_in 0 1) & field (byte_in 0 1) & field font_size & transformation

abbrev pub font_of : TextStyle → String × (ℕ × (ℕ × (ℕ × List ℕ)))
font_of s = (s.family, (s.shape, (s.series, (s.size, s.transformation))))

abbrev pub text_style : Layout TextStyle
text_style =
    renamed
    (font & if_flag latex)
    (λ ((family, (shape, (series, (size, transformation)))), latex).
    record { family = family; shape = shape; series = series; size = size; transformation = transformation; latex = latex })
    (λ s. (font_of s, s.latex))
    (λ t good. refl)

abbrev pub text : ℕ → Layout Text
text v =
    renamed
    (text_style & paint v & string 1)
    (λ (style, (paint, text)). record { style = style; paint = paint; text = text })
    (λ t. (t.style, (t.paint, t.text)))
    (λ t good. refl)
