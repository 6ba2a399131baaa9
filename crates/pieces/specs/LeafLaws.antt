-- The numbers of leaves: their parts are the layouts of the leaves, taken apart. Said over variables first, since the layouts themselves are too large to compare.
use Rattle.std.specs.Prelude.{◌≡◌, refl, Bool, true, false, ◌&&◌, ℕ, zero, suc, ◌+◌, ◌*◌, ◌<◌, ◌≤◌, List, [], ◌∷◌, eqb, leb}
use Rattle.std.proofs.Common.{sym, ◌∙◌, arith, le-leb}
use Rattle.std.proofs.Math.Path.{ap, fun_ext}
use Rattle.std.proofs.Math.Bool.{cond}
use Rattle.std.proofs.Math.Option.{Option, none, some}
use Rattle.std.proofs.lemmas.Bool.{lt-leb}
use Rattle.format.specs.Kind.{Kind}
use Rattle.format.specs.Script.{Script, end, ask}
use Rattle.format.specs.Format.{script}
use Rattle.format.specs.Layout.{Layout, field, when, repeat, renamed, ◌&◌, ◌▸◌}
use Rattle.format.specs.Pass.{◌⟫◌, done}
use Rattle.drawing.specs.Fields as F
use Rattle.drawing.specs.String.{string}
use Rattle.drawing.specs.Choices.{if_flag}
use Rattle.drawing.specs.Paint.{paint}
use Rattle.drawing.specs.MarkerChain.{markers}
use Rattle.drawing.specs.Marker.{Marker}
use Rattle.drawing.specs.LineStyle.{LineStyle, line_style}
use Rattle.drawing.specs.Path.{Path, path, outline}
use Rattle.drawing.specs.Text.{Latex, TextStyle, Text, latex, font, text_style, text, transformation}
use Rattle.drawing.specs.Bitmap.{BitmapLatex, Bitmap, bitmap_latex, bitmap}
use Rattle.drawing.specs.TextPath.{TextPath, text_path}
use Rattle.ways.specs.LineStyleLaws.{dashes, join}
use Rattle.ways.specs.TextLaws.{face}
use Rattle.pieces.specs.declared.Inside.{Inside}
use Rattle.pieces.specs.Parts.{end_on, part_then, parts_on, inside}
use Rattle.pieces.specs.PartLaws.{with_parts}

-- ---- several parts are one script

module _ {A B C D E G H Z : Type 0} (a : Layout A) (b : Layout B) (c : Layout C) (d : Layout D) (e : Layout E) (f : Layout G) (g : Layout H) (K : Script (Unit {0})) where
  two : (make : A × B → Z) (back : Z → A × B) (same : (t : A × B) → (a & b).Good t → back (make t) ≡ t) → renamed (a & b) make back same ⟫ K ≡ (a ⟫ b ⟫ K)
  two make back same = refl

  three : (make : A × (B × C) → Z) (back : Z → A × (B × C)) (same : (t : A × (B × C)) → (a & b & c).Good t → back (make t) ≡ t) → renamed (a & b & c) make back same ⟫ K ≡ (a ⟫ b ⟫ c ⟫ K)
  three make back same = refl

  four : (make : A × (B × (C × D)) → Z) (back : Z → A × (B × (C × D))) (same : (t : A × (B × (C × D))) → (a & b & c & d).Good t → back (make t) ≡ t)
      → renamed (a & b & c & d) make back same ⟫ K ≡ (a ⟫ b ⟫ c ⟫ d ⟫ K)
  four make back same = refl

  -- the LaTeX fields: two of the parts are one
  seven : (make : A × (B × (C × (D × (E × (G × H))))) → Z) (back : Z → A × (B × (C × (D × (E × (G × H)))))) (same : (t : A × (B × (C × (D × (E × (G × H)))))) → (a & b & c & d & e & f & g).Good t → back (make t) ≡ t)
      → renamed (a & b & c & d & e & f & g) make back same ⟫ K ≡ (a ⟫ b ⟫ c ⟫ d ⟫ (e & f) ⟫ g ⟫ K)
  seven make back same = refl

  -- a font and what follows it: all but the first part of the font are one
  styled : (make : (A × (B × (C × (D × E)))) × G → Z) (back : Z → (A × (B × (C × (D × E)))) × G) (same : (t : (A × (B × (C × (D × E)))) × G) → ((a & b & c & d & e) & f).Good t → back (make t) ≡ t)
      → renamed ((a & b & c & d & e) & f) make back same ⟫ K ≡ (a ⟫ (b & c & d & e) ⟫ f ⟫ K)
  styled make back same = refl

  -- a line style: three of the parts are one, and one is there by a test
  lined : (t : Bool) (x : G) (make : A × (B × (C × (D × (E × (G × (G × G)))))) → Z) (back : Z → A × (B × (C × (D × (E × (G × (G × G)))))))
      (same : (p : A × (B × (C × (D × (E × (G × (G × G))))))) → (a & b & c & d & e & f & when t f x & f).Good p → back (make p) ≡ p)
      → renamed (a & b & c & d & e & f & when t f x & f) make back same ⟫ K ≡ (a ⟫ b ⟫ (c & d & e) ⟫ f ⟫ cond t (f ⟫ f ⟫ K) (f ⟫ K))
  lined t x make back same = refl

-- ---- the layouts, taken apart

abbrev pub line_end : Layout (ℕ × ((ℕ × ℕ) × ℕ))
line_end = field (F.byte_in 0 2) & join & field (F.byte_in 0 1)

abbrev pub alignment : Layout (ℕ × ℕ)
alignment = field (F.byte_in 0 2) & field (F.byte_in 0 3)

module _ (K : Script (Unit {0})) where
  pub if_flag_lem : {A : Type 0} (L : Layout A) → if_flag L ⟫ K ≡ ask F.flag (λ v. cond (eqb v 1) (L ⟫ K) K)
  if_flag_lem L = refl

  path_apart : (v : ℕ) → path v ⟫ K ≡ (paint v ⟫ paint v ⟫ line_style v ⟫ outline v ⟫ K)
  path_apart v =
      four {Z = Path} (paint v) (paint v) (line_style v) (outline v) (outline v) (outline v) (outline v) K
      (λ (line_paint, (fill_paint, (style, outline))). record { line_paint = line_paint; fill_paint = fill_paint; style = style; outline = outline })
      (λ p. (p.line_paint, (p.fill_paint, (p.style, p.outline)))) (λ t good. refl)

  line_apart : (v : ℕ) → line_style v ⟫ K ≡ (field F.float ⟫ dashes ⟫ line_end ⟫ markers v ⟫ cond (leb 1 v) (markers v ⟫ markers v ⟫ K) (markers v ⟫ K))
  line_apart v =
      lined {Z = LineStyle} (field F.float) dashes (field (F.byte_in 0 2)) join (field (F.byte_in 0 1)) (markers v) (markers v) K (leb 1 v) []
      (λ (width, ((dashes, dash_offset), (cap, ((join, mitre_limit), (winding, (start, (mid, last))))))).
      record { width = width; dashes = dashes; dash_offset = dash_offset; cap = cap; join = join; mitre_limit = mitre_limit; winding = winding; start = start; mid = mid; end = last })
      (λ s. (s.width, ((s.dashes, s.dash_offset), (s.cap, ((s.join, s.mitre_limit), (s.winding, (s.start, (s.mid, s.end)))))))) (λ t good. refl)

  style_apart : text_style ⟫ K ≡ (string 0 ⟫ face ⟫ if_flag latex ⟫ K)
  style_apart =
      styled {Z = TextStyle} (string 0) (field (F.byte_in 0 1)) (field (F.byte_in 0 1)) (field F.font_size) transformation (if_flag latex) (if_flag latex) K
      (λ ((family, (shape, (series, (size, transformation)))), latex).
      record { family = family; shape = shape; series = series; size = size; transformation = transformation; latex = latex })
      (λ s. ((s.family, (s.shape, (s.series, (s.size, s.transformation)))), s.latex)) (λ t good. refl)

  pub latex_apart : latex ⟫ K ≡ (string 0 ⟫ string 0 ⟫ string 0 ⟫ string 0 ⟫ alignment ⟫ string 0 ⟫ K)
  latex_apart =
      seven {Z = Latex} (string 0) (string 0) (string 0) (string 0) (field (F.byte_in 0 2)) (field (F.byte_in 0 3)) (string 0) K
      (λ (family, (series, (shape, (size, (horizontal, (vertical, alternative)))))).
      record { family = family; series = series; shape = shape; size = size; horizontal = horizontal; vertical = vertical; alternative = alternative })
      (λ l. (l.family, (l.series, (l.shape, (l.size, (l.horizontal, (l.vertical, l.alternative))))))) (λ t good. refl)

  text_apart : (v : ℕ) → text v ⟫ K ≡ (text_style ⟫ paint v ⟫ string 1 ⟫ K)
  text_apart v =
      three {Z = Text} text_style (paint v) (string 1) (paint v) (paint v) (paint v) (paint v) K (λ (style, (paint, text)). record { style = style; paint = paint; text = text })
      (λ t. (t.style, (t.paint, t.text))) (λ t good. refl)

  along_apart : (v : ℕ) → text_path v ⟫ K ≡ (paint v ⟫ text_style ⟫ string 1 ⟫ outline v ⟫ K)
  along_apart v =
      four {Z = TextPath} (paint v) text_style (string 1) (outline v) (outline v) (outline v) (outline v) K
      (λ (paint, (style, (text, outline))). record { text = record { style = style; paint = paint; text = text }; outline = outline })
      (λ x. (x.text.paint, (x.text.style, (x.text.text, x.outline)))) (λ t good. refl)

  bitmap_apart : bitmap ⟫ K ≡ (string 1 ⟫ if_flag bitmap_latex ⟫ transformation ⟫ K)
  bitmap_apart =
      three {Z = Bitmap} (string 1) (if_flag bitmap_latex) transformation transformation transformation transformation transformation K
      (λ (name, (latex, transformation)). record { name = name; latex = latex; transformation = transformation })
      (λ b. (b.name, (b.latex, b.transformation))) (λ t good. refl)

  pub links_apart : bitmap_latex ⟫ K ≡ (string 0 ⟫ string 0 ⟫ K)
  links_apart =
      two {Z = BitmapLatex} (string 0) (string 0) (string 0) (string 0) (string 0) (string 0) (string 0) K (λ (link, command). record { link = link; command = command })
      (λ l. (l.link, l.command)) (λ t good. refl)

-- ---- the numbers

module _ (v : ℕ) (s : Inside) where
  -- below 1.1, and from there on
  pub arrow-path : v < 1 → path v ⟫ end_on v ≡ inside v (with_parts s 104776735651)
  unfolding inside parts_on part_then
  arrow-path old =
      path_apart (end_on v) v
      ∙ ap (λ X. paint v ⟫ paint v ⟫ X)
      (line_apart (outline v ⟫ end_on v) v
      ∙ ap (λ t. field F.float ⟫ dashes ⟫ line_end ⟫ markers v ⟫ cond t (markers v ⟫ markers v ⟫ outline v ⟫ end_on v) (markers v ⟫ outline v ⟫ end_on v)) (lt-leb 1 v old))

  pub marked-path : 1 ≤ v → path v ⟫ end_on v ≡ inside v (with_parts s 2619425173151)
  unfolding inside parts_on part_then
  marked-path new =
      path_apart (end_on v) v
      ∙ ap (λ X. paint v ⟫ paint v ⟫ X)
      (line_apart (outline v ⟫ end_on v) v
      ∙ ap (λ t. field F.float ⟫ dashes ⟫ line_end ⟫ markers v ⟫ cond t (markers v ⟫ markers v ⟫ outline v ⟫ end_on v) (markers v ⟫ outline v ⟫ end_on v)) (le-leb 1 v new))

  pub text-parts : text v ⟫ end_on v ≡ inside v (with_parts s 8962)
  unfolding inside parts_on part_then
  text-parts = text_apart (end_on v) v ∙ style_apart (paint v ⟫ string 1 ⟫ end_on v)

  pub along_parts : text_path v ⟫ end_on v ≡ inside v (with_parts s 239676)
  unfolding inside parts_on part_then
  along_parts = along_apart (end_on v) v ∙ ap (λ X. paint v ⟫ X) (style_apart (string 1 ⟫ outline v ⟫ end_on v))

  pub bitmap-parts : bitmap ⟫ end_on v ≡ inside v (with_parts s 413)
  unfolding inside parts_on part_then
  bitmap-parts = bitmap_apart (end_on v)

  -- behind the flags
  pub text-flag : if_flag latex ⟫ paint v ⟫ string 1 ⟫ end_on v ≡ ask F.flag (λ f. cond (eqb f 1) (inside v (with_parts s 3741820507812)) (inside v (with_parts s 15326)))
  unfolding inside parts_on part_then
  text-flag =
      if_flag_lem (paint v ⟫ string 1 ⟫ end_on v) latex
      ∙ ap (λ X. ask F.flag (λ f. cond (eqb f 1) X (paint v ⟫ string 1 ⟫ end_on v))) (latex_apart (paint v ⟫ string 1 ⟫ end_on v))

  pub along_flag : if_flag latex ⟫ string 1 ⟫ outline v ⟫ end_on v ≡ ask F.flag (λ f. cond (eqb f 1) (inside v (with_parts s 107054882812)) (inside v (with_parts s 438)))
  unfolding inside parts_on part_then
  along_flag =
      if_flag_lem (string 1 ⟫ outline v ⟫ end_on v) latex
      ∙ ap (λ X. ask F.flag (λ f. cond (eqb f 1) X (string 1 ⟫ outline v ⟫ end_on v))) (latex_apart (string 1 ⟫ outline v ⟫ end_on v))

  pub links_flag : if_flag bitmap_latex ⟫ transformation ⟫ end_on v ≡ ask F.flag (λ f. cond (eqb f 1) (inside v (with_parts s 380937)) (inside v (with_parts s 609)))
  unfolding inside parts_on part_then
  links_flag =
      if_flag_lem (transformation ⟫ end_on v) bitmap_latex
      ∙ ap (λ X. ask F.flag (λ f. cond (eqb f 1) X (transformation ⟫ end_on v))) (links_apart (transformation ⟫ end_on v))
