-- The fields of a leaf stand where its row says: of a path, a text, and a text along a path.
use Rattle.std.specs.Prelude.{◌≡◌, refl, Bool, true, false, ◌&&◌, ℕ, List, [], ◌∷◌, eqb}
use Prim.Native.Char.{code}
use Rattle.format.specs.Alternative.{chosen}
use Rattle.format.specs.Layout.{◌&◌}
use Rattle.drawing.specs.String.{String, string}
use Rattle.drawing.specs.Paint as P
use Rattle.drawing.specs.LineStyle.{line_style}
use Rattle.drawing.specs.Path.{Path, outline}
use Rattle.drawing.specs.Text as T
use Rattle.drawing.specs.TextPath.{TextPath}
use Rattle.drawing.specs.Object.{path, text, text_path, leaf}
use Rattle.drawing.specs.LeafLayout.{path_case, text_case, bitmap_case, text_path_case}
use Rattle.drawing.specs.Table.{start_in}
use Rattle.laws.specs.Standing.{Here}
use Rattle.laws.specs.StandingLaws.{here_as, here-chosen, here-other}
use Rattle.laws.specs.RowBodies.{RowBody}
use Rattle.laws.specs.RowBodyLaws.{leaf_here}

and_false : (b : Bool) → (b && false) ≡ false
and_false true = refl
and_false false = refl

module _ (c bs : List ℕ) (v r : ℕ) where
  pub path-here : (p : Path) (d : String) → RowBody c bs v r (leaf (path p) d)
      → Here (P.paint v & P.paint v & line_style v & outline v) bs (start_in c r) (p.line_paint, (p.fill_paint, (p.style, p.outline)))
  path-here p d row =
      let others = here-other (path_case v) (text_case v) (bitmap_case ∷ text_path_case v ∷ []) (code "P") refl (leaf_here c bs v r (path p) d row) in
      let last = here-other (path_case v) bitmap_case (text_path_case v ∷ []) (code "P") refl others in
      let this = here-other (path_case v) (text_path_case v) [] (code "P") (and_false (text_path_case v).on) last in
      here_as this (P.paint v & P.paint v & line_style v & outline v) refl this.good.1.1

  pub text-here : (t : T.Text) (d : String) → RowBody c bs v r (leaf (text t) d) → Here (T.text_style & P.paint v & string 1) bs (start_in c r) (t.style, (t.paint, t.text))
  text-here t d row = here_as (leaf_here c bs v r (text t) d row) (T.text_style & P.paint v & string 1) refl row.good.0.1.1

  pub text-path-here : (x : TextPath) (d : String) → RowBody c bs v r (leaf (text_path x) d)
      → Here (P.paint v & T.text_style & string 1 & outline v) bs (start_in c r) (x.text.paint, (x.text.style, (x.text.text, x.outline)))
  text-path-here x d row =
      let here = leaf_here c bs v r (text_path x) d row in
      let others = here-other (path_case v) (text_case v) (bitmap_case ∷ text_path_case v ∷ []) (code "X") refl here in
      by ((text_path_case v).on && eqb (code "X") (text_path_case v).tag) refl (here-other (path_case v) bitmap_case (text_path_case v ∷ []) (code "X") refl others)
    where
      by : (on : Bool) → ((text_path_case v).on && eqb (code "X") (text_path_case v).tag) ≡ on → Here (chosen (path_case v) (text_path_case v ∷ []) (code "X")) bs (start_in c r) (text_path x)
          → Here (P.paint v & T.text_style & string 1 & outline v) bs (start_in c r) (x.text.paint, (x.text.style, (x.text.text, x.outline)))
      by true is here =
          let this = here-chosen (path_case v) (text_path_case v) [] (code "X") is here in
          here_as this (P.paint v & T.text_style & string 1 & outline v) refl this.good.1.1
      by false is here = absurd (here-other (path_case v) (text_path_case v) [] (code "X") is here).good
