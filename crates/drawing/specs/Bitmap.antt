-- Bitmaps (01, 'Object', I).
use Rattle.std.specs.Prelude.{refl, ℕ, List}
use Rattle.std.proofs.Math.Option.{Option}
use Rattle.format.specs.Layout.{Layout, renamed, ◌&◌}
use Rattle.drawing.specs.String.{String, string}
use Rattle.drawing.specs.Choices.{if_flag}
use Rattle.drawing.specs.Text.{transformation}

-- The LaTeX fields of a bitmap: the link to its file and the command that includes it.
pub record BitmapLatex : Type 0 where
  pub link : String
  pub command : String

pub record Bitmap : Type 0 where
  pub name : String
  pub latex : Option BitmapLatex
  -- the bits of six doubles
  pub transformation : List ℕ

abbrev pub bitmap_latex : Layout BitmapLatex
bitmap_latex =
    renamed (string 0 & string 0) (λ (link, command). record { link = link; command = command }) (λ l. (l.link, l.command)) (λ t good. refl)

abbrev pub bitmap : Layout Bitmap
bitmap =
    renamed
    (string 1 & if_flag bitmap_latex & transformation)
    (λ (name, (latex, transformation)). record { name = name; latex = latex; transformation = transformation })
    (λ b. (b.name, (b.latex, b.transformation)))
    (λ t good. refl)
