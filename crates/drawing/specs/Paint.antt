-- Paints (01, 'Paint'): plain ones, and gradients of two plain ones.
use Rattle.std.specs.Prelude.{refl, true, ℕ, List, [], ◌∷◌, ◌++◌, map, leb}
use Rattle.std.proofs.Math.Option.{Option, none, some}
use Prim.Native.Char.{code}
use Rattle.format.specs.Layout.{Layout, field, nothing, ◌&◌}
use Rattle.format.specs.Alternative.{Alternative}
use Rattle.format.specs.Choice.{alternative, within}
use Rattle.drawing.specs.Limits.{v1_3, v1_4}
use Rattle.drawing.specs.Fields.{component, hue, integer_in}
use Rattle.drawing.specs.Choices.{by_char}

-- The components are the bits of floats.
pub data Plain : Type 0 where
  transparent : Plain
  rgb : (red green blue alpha : ℕ) → Plain
  cmyk : (cyan magenta yellow black alpha : ℕ) → Plain
  grey : (grey alpha : ℕ) → Plain
  hsb : (hue saturation brightness alpha : ℕ) → Plain

pub data Paint : Type 0 where
  plain : Plain → Paint
  linear : (start end : Plain) (direction : ℕ) → Paint
  radial : (start end : Plain) (location : ℕ) → Paint

abbrev pub plain_letter : Plain → ℕ
plain_letter transparent = code "T"
plain_letter (rgb r g b a) = code "R"
plain_letter (cmyk c m y k a) = code "C"
plain_letter (grey g a) = code "Y"
plain_letter (hsb h s b a) = code "S"

abbrev pub paint_letter : Paint → ℕ
paint_letter (plain p) = plain_letter p
paint_letter (linear start end d) = code "G"
paint_letter (radial start end l) = code "D"

-- The components in file order, with 0 for those that a paint does not have.
abbrev pub components : Plain → ℕ × (ℕ × (ℕ × (ℕ × ℕ)))
components transparent = (0, (0, (0, (0, 0))))
components (rgb r g b a) = (r, (g, (b, (a, 0))))
components (cmyk c m y k a) = (c, (m, (y, (k, a))))
components (grey g a) = (g, (a, (0, (0, 0))))
components (hsb h s b a) = (h, (s, (b, (a, 0))))

abbrev pub first_two : Plain → ℕ × ℕ
first_two p = let c = components p in (c.0, c.1.0)

abbrev pub first_four : Plain → ℕ × (ℕ × (ℕ × ℕ))
first_four p = let c = components p in (c.0, (c.1.0, (c.1.1.0, c.1.1.1.0)))

abbrev pub plain_of : Paint → Option Plain
plain_of (plain p) = some p
plain_of (linear start end d) = none
plain_of (radial start end l) = none

abbrev pub gradient_of : Paint → Option (Plain × (Plain × ℕ))
gradient_of (plain p) = none
gradient_of (linear start end d) = some (start, (end, d))
gradient_of (radial start end l) = some (start, (end, l))

-- ---- plain paints

-- the components of each colour, in file order
abbrev pub rgb_components : Layout (ℕ × (ℕ × (ℕ × ℕ)))
rgb_components = field component & field component & field component & field component

abbrev pub cmyk_components : Layout (ℕ × (ℕ × (ℕ × (ℕ × ℕ))))
cmyk_components = field component & field component & field component & field component & field component

abbrev pub grey_components : Layout (ℕ × ℕ)
grey_components = field component & field component

abbrev pub hsb_components : Layout (ℕ × (ℕ × (ℕ × ℕ)))
hsb_components = field hue & field component & field component & field component

-- An alternative is a letter, whether the version has it, and the fields behind the letter; then how a paint is made of their values, and how a paint is
-- taken apart into them again. A paint is good for an alternative only if making what it was taken apart into gives it back, so taking apart need not tell the
-- cases of the type from each other. The two proofs say that what was made is taken apart into the same values, and has the alternative's letter.
abbrev pub transparent_case : Alternative Plain plain_letter
transparent_case = alternative (code "T") true (nothing {A = Unit {0}} tt) (λ u. transparent) (λ p. some tt) (λ u. refl) (λ u. refl)

abbrev pub plain_cases : ℕ → List (Alternative Plain plain_letter)
plain_cases v =
    alternative (code "R") true rgb_components
    (λ (r, (g, (b, a))). rgb r g b a) (λ p. some (first_four p)) (λ c. refl) (λ c. refl)
    ∷ alternative (code "C") true cmyk_components
    (λ (c, (m, (y, (k, a)))). cmyk c m y k a) (λ p. some (components p)) (λ c. refl) (λ c. refl)
    ∷ alternative (code "Y") (leb v1_4 v) grey_components
    (λ (g, a). grey g a) (λ p. some (first_two p)) (λ c. refl) (λ c. refl)
    ∷ alternative (code "S") (leb v1_4 v) hsb_components
    (λ (h, (s, (b, a))). hsb h s b a) (λ p. some (first_four p)) (λ c. refl) (λ c. refl)
    ∷ []

abbrev pub plain_paint : ℕ → Layout Plain
plain_paint v = by_char plain_letter transparent_case (plain_cases v)

-- ---- paints

-- A case of a plain paint, as a case of a paint.
abbrev pub as_paint : Alternative Plain plain_letter → Alternative Paint paint_letter
as_paint = within plain plain_of (λ p. refl) (λ p. refl)

abbrev pub gradient_cases : ℕ → List (Alternative Paint paint_letter)
gradient_cases v =
    alternative (code "G") true (plain_paint v & plain_paint v & field (integer_in 0 7))
    (λ (start, (end, direction)). linear start end direction) gradient_of (λ g. refl) (λ g. refl)
    ∷ alternative (code "D") (leb v1_3 v) (plain_paint v & plain_paint v & field (integer_in 0 8))
    (λ (start, (end, location)). radial start end location) gradient_of (λ g. refl) (λ g. refl)
    ∷ []

abbrev pub paint_cases : ℕ → List (Alternative Paint paint_letter)
paint_cases v = map as_paint (plain_cases v) ++ gradient_cases v

abbrev pub paint : ℕ → Layout Paint
paint v = by_char paint_letter (as_paint transparent_case) (paint_cases v)
