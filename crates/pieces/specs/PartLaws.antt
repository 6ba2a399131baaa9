-- The parts by their digits, and what is left of an object, part by part.
use Rattle.std.specs.Prelude.{◌≡◌, true, false, List}
use Rattle.std.proofs.Math.Path.{refl, ap}
use Rattle.std.proofs.Common.{sym, ◌∙◌}
use Rattle.std.proofs.Math.Option.{none, some}
use Prim.Native.Nat.{ℕ, zero, suc, ◌+◌, ◌/◌, ◌%◌, ◌^◌, ◌<◌, ◌≤◌}
use Rattle.std.proofs.Math.Nat as Nat
use native.Mathlib.Omega.{arith}
use Rattle.format.specs.Script.{Script, end, ask}
use Rattle.format.specs.Layout.{field, repeat, ◌&◌}
use Rattle.format.specs.Pass.{◌⟫◌, done}
use Rattle.drawing.specs.Fields as F
use Rattle.drawing.specs.String.{string}
use Rattle.drawing.specs.Choices.{if_flag}
use Rattle.drawing.specs.Paint.{paint}
use Rattle.drawing.specs.MarkerChain.{markers}
use Rattle.drawing.specs.Path.{outline, counted_segments}
use Rattle.drawing.specs.Text.{latex, transformation}
use Rattle.drawing.specs.Bitmap.{bitmap_latex}
use Rattle.ways.specs.LineStyleLaws.{dashes, join}
use Rattle.ways.specs.Segments.{segments_of}
use Rattle.ways.specs.TextLaws.{face}
use Rattle.pieces.specs.declared.Inside.{Inside}
use Rattle.pieces.specs.Parts.{any_of, end_on, joined_on, part_then, parts_on, inside}

-- ---- digits

module _ (v n x y : ℕ) where
  -- A number of few digits is all of its digits.
  digits_enough : (digits p : ℕ) → p < 25 ^ digits → parts_on v n x y (suc digits) p ≡ parts_on v n x y digits p
  unfolding parts_on part_then
  digits_enough zero p few = let z : p ≡ 0 = omega arith in ap (λ p. part_then v n x y (p % 25) done) z
  digits_enough (suc digits) p few =
      let power = Nat.pow-succ' 25 digits in
      let less : p / 25 < 25 ^ digits = omega (arith, power) in
      ap (part_then v n x y (p % 25)) (digits_enough digits (p / 25) less)

  split : (digits p : ℕ) → parts_on v n x y (suc digits) p ≡ part_then v n x y (p % 25) (parts_on v n x y digits (p / 25))
  unfolding parts_on
  split digits p = refl

  first_digit : (p : ℕ) → p < 2 ^ 64 → parts_on v n x y 14 p ≡ part_then v n x y (p % 25) (parts_on v n x y 14 (p / 25))
  first_digit p small = split 13 p ∙ ap (part_then v n x y (p % 25)) (sym (digits_enough 13 (p / 25) (omega arith)))

-- The same with other parts to come, and no run before them.
abbrev pub with_parts : Inside → ℕ → Inside
with_parts s p = record { parts = p; run = 0; width = s.width; segments = s.segments; x = s.x; y = s.y }

-- The next part is that of the lowest digit.
pub next_part : (v : ℕ) (s : Inside) (c : ℕ) → s.run ≡ 0 → s.parts % 25 ≡ c → s.parts < 2 ^ 64
    → inside v s ≡ part_then v s.segments s.x s.y c (inside v (with_parts s (s.parts / 25)))
unfolding inside
next_part v s c no_run digit small =
    ap (λ n. repeat n (field (any_of s.width)) ⟫ parts_on v s.segments s.x s.y 14 s.parts) no_run
    ∙ first_digit v s.segments s.x s.y s.parts small
    ∙ ap (λ c. part_then v s.segments s.x s.y c (parts_on v s.segments s.x s.y 14 (s.parts / 25))) digit

-- ---- what each digit stands for

module _ (v n x y : ℕ) (K : Script (Unit {0})) where
  pub is_paint : part_then v n x y 1 K ≡ paint v ⟫ K
  unfolding part_then
  is_paint = refl

  pub is_width : part_then v n x y 2 K ≡ field F.float ⟫ K
  unfolding part_then
  is_width = refl

  pub is_line_end : part_then v n x y 3 K ≡ (field (F.byte_in 0 2) & join & field (F.byte_in 0 1)) ⟫ K
  unfolding part_then
  is_line_end = refl

  pub is_markers : part_then v n x y 4 K ≡ markers v ⟫ K
  unfolding part_then
  is_markers = refl

  pub is_point : part_then v n x y 5 K ≡ repeat 2 (field F.double) ⟫ K
  unfolding part_then
  is_point = refl

  pub is_controls : part_then v n x y 6 K ≡ repeat 4 (field F.double) ⟫ K
  unfolding part_then
  is_controls = refl

  pub is_join : part_then v n x y 7 K ≡ (field (F.joined x) & field (F.joined y)) ⟫ K
  unfolding part_then
  is_join = refl

  pub is_face : part_then v n x y 8 K ≡ face ⟫ K
  unfolding part_then
  is_face = refl

  pub is_transformation : part_then v n x y 9 K ≡ transformation ⟫ K
  unfolding part_then
  is_transformation = refl

  pub is_alignment : part_then v n x y 10 K ≡ (field (F.byte_in 0 2) & field (F.byte_in 0 3)) ⟫ K
  unfolding part_then
  is_alignment = refl

  pub is_dashes : part_then v n x y 11 K ≡ dashes ⟫ K
  unfolding part_then
  is_dashes = refl

  pub is_string : part_then v n x y 12 K ≡ string 0 ⟫ K
  unfolding part_then
  is_string = refl

  pub is_words : part_then v n x y 13 K ≡ string 1 ⟫ K
  unfolding part_then
  is_words = refl

  pub is_latex : part_then v n x y 14 K ≡ if_flag latex ⟫ paint v ⟫ string 1 ⟫ end_on v
  unfolding part_then
  is_latex = refl

  pub is_latex_along : part_then v n x y 15 K ≡ if_flag latex ⟫ string 1 ⟫ outline v ⟫ end_on v
  unfolding part_then
  is_latex_along = refl

  pub is_links : part_then v n x y 16 K ≡ if_flag bitmap_latex ⟫ transformation ⟫ end_on v
  unfolding part_then
  is_links = refl

  pub is_outline : part_then v n x y 17 K ≡ outline v ⟫ end_on v
  unfolding part_then
  is_outline = refl

  pub is_count : part_then v n x y 18 K ≡ counted_segments v ⟫ end_on v
  unfolding part_then
  is_count = refl

  pub is_segment : part_then v n x y 19 K ≡ segments_of false (suc n) none ⟫ end_on v
  unfolding part_then
  is_segment = refl

  pub is_first : part_then v n x y 20 K ≡ segments_of true (suc n) none ⟫ end_on v
  unfolding part_then
  is_first = refl

  pub is_joined : part_then v n x y 21 K ≡ joined_on v (suc n) x y
  unfolding part_then
  is_joined = refl

  pub is_end_x : part_then v n x y 22 K ≡ ask F.double (λ x'. ask F.double (λ y'. joined_on v n x' y'))
  unfolding part_then
  is_end_x = refl

  pub is_end_y : part_then v n x y 23 K ≡ ask F.double (λ y'. joined_on v n x y')
  unfolding part_then
  is_end_y = refl

  pub is_end : part_then v n x y 24 K ≡ end_on v
  unfolding part_then
  is_end = refl
