-- Where a row's outline stands, and what is answered about the row.
use Rattle.std.specs.Prelude.{◌≡◌, refl, true, false, ℕ, ◌≤◌, List, length}
use Rattle.std.proofs.Common.{sym, ap, subst, ◌∙◌, true≢false, arith}
use Rattle.std.proofs.Math.Option.{some, none}
use Rattle.format.specs.Layout.{◌&◌}
use Rattle.drawing.specs.declared.ExtentAnswer.{ExtentAnswer}
use Rattle.drawing.specs.Limits.{length_limit}
use Rattle.drawing.specs.String.{String, string}
use Rattle.drawing.specs.Choices.{if_flag}
use Rattle.drawing.specs.Paint as P
use Rattle.drawing.specs.LineStyle.{line_style}
use Rattle.drawing.specs.Path.{Outline, outline}
use Rattle.drawing.specs.Text as T
use Rattle.drawing.specs.Object.{Object, Leaf, path, text, bitmap, text_path, leaf, group}
use Rattle.drawing.specs.Table.{text_path_kind, kind_in, start_in}
use Rattle.drawing.specs.Questions.{or_refusal, leaf_part}
use Rattle.drawing.specs.Extent.{no_extent, extent_of, outline_in}
use Rattle.drawing.specs.Computed.{extent_value}
use Rattle.laws.specs.RowBodies.{RowBody}
use Rattle.laws.specs.Standing.{Here, Behind}
use Rattle.laws.specs.StandingLaws.{here_next, next_ends}
use Rattle.laws.specs.LeafPlaceLaws.{path-here, text-path-here}
use Rattle.laws.specs.TextPlaceLaws.{style-here}
use Rattle.places.specs.Places.{Holds}
use Rattle.extent.specs.ExtentQuestion.{OutlineRead, has_outline, InPath, InTextPath, OutlineOf}

-- ---- where it stands

-- A text's style ends behind its font and its LaTeX fields.
style-behind : {bs : List ℕ} {at latex next : ℕ} → Behind T.font bs at latex → Behind (if_flag T.latex) bs latex next → Behind T.text_style bs at next
style-behind latex-is next_is s here =
    let parts = style-here s here in
    next_is s.latex (here_next T.font (if_flag T.latex) parts latex-is) ∙ next_ends T.font (if_flag T.latex) parts latex-is

module _ {bs : List ℕ} (v : ℕ) {start : ℕ} where
  pub in_path : {fill style at : ℕ} → Behind (P.paint v) bs start fill → Behind (P.paint v) bs fill style → Behind (line_style v) bs style at → InPath bs v start at
  in_path fill_is style-is at-is p here =
      here_next (line_style v) (outline v) (here_next (P.paint v) (line_style v & outline v) (here_next (P.paint v) (P.paint v & line_style v & outline v) here fill_is) style-is) at-is

  pub in_text-path : {style latex chars at : ℕ} → Behind (P.paint v) bs start style → Behind T.font bs style latex → Behind (if_flag T.latex) bs latex chars → Behind (string 1) bs chars at
      → InTextPath bs v start at
  in_text-path style-is latex-is chars-are at-is x here =
      let styled = here_next (P.paint v) (T.text_style & string 1 & outline v) here style-is in
      here_next (string 1) (outline v) (here_next T.text_style (string 1 & outline v) styled (style-behind latex-is chars-are)) at-is

module _ (c bs : List ℕ) (v r : ℕ) where
  -- By the kind that the row says.
  pub outline-of-path : {start at : ℕ} → start ≡ start_in c r → (kind_in c r ≡ text_path_kind → ⊥) → InPath bs v start at → OutlineOf c bs v r at
  outline-of-path {start} {at} start_is other is (path p) o d has row =
      let same : p.outline ≡ o = cc in
      subst (Here (outline v) bs at) same (subst (λ n. InPath bs v n at) start_is is p (path-here c bs v r p d row))
  outline-of-path start_is other is (text t) o d has row = let z : ◌≡◌ {A = ℕ} 0 1 = cc in absurd (omega arith)
  outline-of-path start_is other is (bitmap b) o d has row = let z : ◌≡◌ {A = ℕ} 0 1 = cc in absurd (omega arith)
  outline-of-path start_is other is (text_path x) o d has row = absurd (other row.kind-is)

  pub outline-of-text-path : {start at : ℕ} → start ≡ start_in c r → kind_in c r ≡ text_path_kind → InTextPath bs v start at → OutlineOf c bs v r at
  outline-of-text-path start_is kind is (path p) o d has row = absurd (omega (arith, row.kind-is))
  outline-of-text-path start_is kind is (text t) o d has row = let z : ◌≡◌ {A = ℕ} 0 1 = cc in absurd (omega arith)
  outline-of-text-path start_is kind is (bitmap b) o d has row = let z : ◌≡◌ {A = ℕ} 0 1 = cc in absurd (omega arith)
  outline-of-text-path {start} {at} start_is kind is (text_path x) o d has row =
      let same : x.outline ≡ o = cc in
      subst (Here (outline v) bs at) same (subst (λ n. InTextPath bs v n at) start_is is x (text-path-here c bs v r x d row))

  -- ---- the answers

  -- A row's kind says whether its object has an outline.
  of-outline : (P : Object → Type 0) → ((l : Leaf) (o : Outline) (d : String) → outline_in l ≡ some o → RowBody c bs v r (leaf l d) → P (leaf l d))
      → (x : Object) → RowBody c bs v r x → has_outline (kind_in c r) ≡ true → P x
  of-outline P by (leaf (path p) d) row kind = by (path p) p.outline d refl row
  of-outline P by (leaf (text t) d) row kind = absurd (true≢false (sym kind ∙ ap has_outline row.kind-is))
  of-outline P by (leaf (bitmap b) d) row kind = absurd (true≢false (sym kind ∙ ap has_outline row.kind-is))
  of-outline P by (leaf (text_path x) d) row kind = by (text_path x) x.outline d refl row
  of-outline P by (group os d) row kind = absurd (true≢false (sym kind ∙ ap has_outline row.kind-is))

  no_outline : (x : Object) → RowBody c bs v r x → has_outline (kind_in c r) ≡ false → leaf_part outline_in x ≡ none
  no_outline (leaf (path p) d) row kind = absurd (true≢false (sym (ap has_outline row.kind-is) ∙ kind))
  no_outline (leaf (text t) d) row kind = refl
  no_outline (leaf (bitmap b) d) row kind = refl
  no_outline (leaf (text_path x) d) row kind = absurd (true≢false (sym (ap has_outline row.kind-is) ∙ kind))
  no_outline (group os d) row kind = refl

  abbrev pub answered : Object → ExtentAnswer
  answered x = extent_value (extent_of v (or_refusal 7 (leaf_part outline_in x)))

  module _ {at : ℕ} (is : OutlineOf c bs v r at) (x : Object) (row : RowBody c bs v r x) (kind : has_outline (kind_in c r) ≡ true) where
    pub outline_holds : length bs ≤ length_limit → Holds (outline v) bs at
    outline_holds short = of-outline (λ x. Holds (outline v) bs at) (λ l o d has row. record { short = short; value = o; here = is l o d has row }) x row kind

    pub extent_answered : {a : ExtentAnswer} → OutlineRead bs v at a → a ≡ answered x
    extent_answered {a} read = of-outline (λ x. a ≡ answered x) (λ l o d has row. read o (is l o d has row) ∙ sym (ap (λ x. extent_value (extent_of v (or_refusal 7 x))) has)) x row kind

  pub no_extent_answered : (x : Object) → RowBody c bs v r x → has_outline (kind_in c r) ≡ false → extent_value (no_extent 7) ≡ answered x
  no_extent_answered x row kind = sym (ap (λ x. extent_value (extent_of v (or_refusal 7 x))) (no_outline x row kind))
