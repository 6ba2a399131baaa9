-- The paints of a row's object.
use Rattle.std.specs.Prelude.{◌≡◌, refl, true, false, ℕ, ◌≤◌, List, length}
use Rattle.std.proofs.Common.{sym, ap, subst, ◌∙◌, arith}
use Rattle.std.proofs.Math.Option.{none, map}
use Rattle.format.specs.Layout.{◌&◌}
use Rattle.drawing.specs.declared.PaintAnswer.{PaintAnswer}
use Rattle.drawing.specs.declared.PaintAnswer.TheVariants.{Refused}
use Rattle.drawing.specs.declared.Which.{Which}
use Rattle.drawing.specs.declared.Which.TheVariants.{Line, Fill, Text}
use Rattle.drawing.specs.Limits.{length_limit}
use Rattle.drawing.specs.String.{String}
use Rattle.drawing.specs.Paint as P
use Rattle.drawing.specs.LineStyle.{line_style}
use Rattle.drawing.specs.Path.{Path, outline}
use Rattle.drawing.specs.Text as T
use Rattle.drawing.specs.Object.{path, text, bitmap, text_path, Object, leaf, group}
use Rattle.drawing.specs.Table.{kind_in, start_in}
use Rattle.drawing.specs.Questions.{or_refusal, paint_value, paint_part}
use Rattle.laws.specs.RowBodies.{RowBody}
use Rattle.places.specs.Places.{Holds}
use Rattle.laws.specs.Standing.{Here, Behind}
use Rattle.laws.specs.StandingLaws.{here-first, here_next}
use Rattle.laws.specs.LeafPlaceLaws.{path-here}
use Rattle.questions.specs.declared.text_places.TextPlaces.{TextPlaces}
use Rattle.questions.specs.PaintQuestion.{PaintRead, Painted}
use Rattle.questions.specs.TextQuestion.{has_text, TextPlacesOf}
use Rattle.questions.specs.TextLaws.{of-wording, no_wording}

module _ (c bs : List ℕ) (v r : ℕ) where
  pub painted_holds : {which : Which} {o : Object} {at : ℕ} → length bs ≤ length_limit → Painted bs v which o at → Holds (P.paint v) bs at
  painted_holds short painted = record { short = short; value = painted.paint; here = painted.here }

  -- ---- paths

  paints-here : {start : ℕ} → start ≡ start_in c r → (p : Path) (d : String) → RowBody c bs v r (leaf (path p) d)
      → Here (P.paint v & P.paint v & line_style v & outline v) bs start (p.line_paint, (p.fill_paint, (p.style, p.outline)))
  paints-here start_is p d row =
      subst (λ at. Here (P.paint v & P.paint v & line_style v & outline v) bs at (p.line_paint, (p.fill_paint, (p.style, p.outline)))) (sym start_is) (path-here c bs v r p d row)

  -- A row's kind says that its object is a path.
  of-path : (P : Object → Type 0) → ((p : Path) (d : String) → RowBody c bs v r (leaf (path p) d) → P (leaf (path p) d))
      → (o : Object) → RowBody c bs v r o → kind_in c r ≡ 2 → P o
  of-path P by (leaf (path p) d) row kind = by p d row
  of-path P by (leaf (text t) d) row kind = absurd (omega (arith, row.kind-is))
  of-path P by (leaf (bitmap b) d) row kind = absurd (omega (arith, row.kind-is))
  of-path P by (leaf (text_path x) d) row kind = absurd (omega (arith, row.kind-is))
  of-path P by (group os d) row kind = absurd (omega (arith, row.kind-is))

  -- Where the start is that of the row.
  module _ {start : ℕ} (start_is : start ≡ start_in c r) where
    pub line_painted : (o : Object) → RowBody c bs v r o → kind_in c r ≡ 2 → Painted bs v Line o start
    line_painted =
        of-path (λ o. Painted bs v Line o start)
        (λ p d row. record { paint = p.line_paint; here = here-first (P.paint v) (P.paint v & line_style v & outline v) (paints-here start_is p d row); part-is = refl })

    pub fill_painted : {fill : ℕ} → Behind (P.paint v) bs start fill → (o : Object) → RowBody c bs v r o → kind_in c r ≡ 2 → Painted bs v Fill o fill
    fill_painted {fill} is =
        of-path (λ o. Painted bs v Fill o fill)
        (λ p d row.
        record { paint = p.fill_paint; here = here-first (P.paint v) (line_style v & outline v) (here_next (P.paint v) (P.paint v & line_style v & outline v) (paints-here start_is p d row) is); part-is = refl })

  -- ---- texts

  pub text-painted : {p : TextPlaces} → TextPlacesOf c bs v r p → (o : Object) → RowBody c bs v r o → has_text (kind_in c r) ≡ true → Painted bs v Text o p.paint
  text-painted {p} are =
      of-wording c bs v r (λ o. Painted bs v Text o p.paint)
      (λ l t d has row. record { paint = t.paint; here = (are l t d has row).paint; part-is = ap (map (λ (u : T.Text). u.paint)) has })

  -- ---- the answers

  -- Objects of other kinds have no such paint.
  pub no_path : (o : Object) → RowBody c bs v r o → (kind_in c r ≡ 2 → ⊥) → (paint_part Line o ≡ none) × (paint_part Fill o ≡ none)
  no_path (leaf (path p) d) row other = absurd (other row.kind-is)
  no_path (leaf (text t) d) row other = (refl, refl)
  no_path (leaf (bitmap b) d) row other = (refl, refl)
  no_path (leaf (text_path x) d) row other = (refl, refl)
  no_path (group os d) row other = (refl, refl)

  pub no_text_lem : (o : Object) → RowBody c bs v r o → has_text (kind_in c r) ≡ false → paint_part Text o ≡ none
  no_text_lem o row kind = ap (map (λ (u : T.Text). u.paint)) (no_wording c bs v r o row kind)

  pub paint-answered : {which : Which} {o : Object} {at : ℕ} {r : PaintAnswer} → Painted bs v which o at → PaintRead bs v at r → r ≡ paint_value (or_refusal 7 (paint_part which o))
  paint-answered painted reads = reads painted.paint painted.here ∙ sym (ap (λ x. paint_value (or_refusal 7 x)) painted.part-is)

-- An object without the paint.
pub no_paint : (which : Which) (o : Object) → paint_part which o ≡ none → Refused 7 ≡ paint_value (or_refusal 7 (paint_part which o))
no_paint which o lacks = sym (ap (λ x. paint_value (or_refusal 7 x)) lacks)
