-- Texts along paths (R-1, X; the order is that of source document 004), from 1.5 on.
use Rattle.std.specs.Prelude.{refl, ℕ}
use Rattle.format.specs.Layout.{Layout, renamed, ◌&◌}
use Rattle.drawing.specs.String.{string}
use Rattle.drawing.specs.Paint.{paint}
use Rattle.drawing.specs.Text.{Text, text_style}
use Rattle.drawing.specs.Path.{Outline, outline}

-- A text, and the outline along which it runs.
pub record TextPath : Type 0 where
  pub text : Text
  pub outline : Outline

-- Its paint comes first, before the style.
abbrev pub text_path : ℕ → Layout TextPath
text_path v =
    renamed
    (paint v & text_style & string 1 & outline v)
    (λ (paint, (style, (text, outline))). record { text = record { style = style; paint = paint; text = text }; outline = outline })
    (λ x. (x.text.paint, (x.text.style, (x.text.text, x.outline))))
    (λ t good. refl)
