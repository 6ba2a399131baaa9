-- Where the fields of a row's text stand, and the chars of its strings.
use Rattle.std.specs.Prelude.{◌≡◌, refl, true, false, ℕ, ◌+◌, ◌<◌, ◌≤◌, List, [], length, get_or}
use Rattle.std.proofs.Common.{sym, ap, ap₂, subst, ◌∙◌, true≢false, arith, length-append}
use Rattle.std.proofs.Math.Option.{Option, none, some, map}
use Rattle.format.specs.Layout.{◌&◌}
use Rattle.drawing.specs.declared.Span.{Span}
use Rattle.drawing.specs.declared.TextAnswer.{TextAnswer}
use Rattle.drawing.specs.Limits.{length_limit}
use Rattle.drawing.specs.String.{String, string}
use Rattle.drawing.specs.Choices.{if_flag}
use Rattle.drawing.specs.Paint as P
use Rattle.drawing.specs.Path.{outline}
use Rattle.drawing.specs.Text as T
use Rattle.drawing.specs.Object.{Leaf, path, text, bitmap, text_path, Object, leaf, group}
use Rattle.drawing.specs.Table.{text_path_kind, words_of, kind_in, start_in}
use Rattle.drawing.specs.Questions.{or_refusal, leaf_part, span, wording, before_style, alternative_span, no_text, text_part, text_places}
use Rattle.drawing.specs.Computed.{text_value}
use Rattle.laws.specs.RowBodies.{RowBody}
use Rattle.laws.specs.WordLaws.{pair_words, string-words}
use Rattle.places.specs.Places.{Holds}
use Rattle.laws.specs.Standing.{Here, Behind}
use Rattle.laws.specs.StandingLaws.{first_word, here-first, here_second, here_next}
use Rattle.laws.specs.LeafPlaceLaws.{text-here, text-path-here}
use Rattle.laws.specs.TextPlaceLaws.{latex_front, latex_parts, front_length, latex-here, style-here}
use Rattle.questions.specs.declared.text_places.TextPlaces.{TextPlaces}
use Rattle.questions.specs.TextQuestion.{CharsRead, alternative_in, AlternativeRead, has_text, TextStands, InText, InTextPath, TextPlacesOf}

-- ---- strings

-- The first word of a string is its length.
pub length-first : (least : ℕ) {ws : List ℕ} {at : ℕ} {s : String} → Here (string least) ws at s → (at < length ws) × (get_or ws at 0 ≡ length s)
length-first least {s = s} here = first_word here (string-words least s here.good)

-- ---- LaTeX fields

module _ {ws : List ℕ} {at : ℕ} where
  pub latex-inside : (o : Option T.Latex) → Here (if_flag T.latex) ws at o → at < length ws
  latex-inside none here = (first_word here refl).0
  latex-inside (some l) here = (first_word here refl).0

  -- The alternative stands behind the flag and the fields before it.
  module _ (l : T.Latex) (here : Here (if_flag T.latex) ws at (some l)) {alternative : ℕ} (is : Behind latex_front ws (at + 1) alternative) where
    pub alternative-here : Here (string 0) ws alternative l.alternative
    alternative-here = here_next latex_front (string 0) (latex-here l here) is

    alternative_begins : alternative + 1 ≡ at + 1 + length (words_of latex_front (latex_parts l).0) + 1
    alternative_begins = ap (λ n. n + 1) (is (latex_parts l).0 (here-first latex_front (string 0) (latex-here l here)))

  -- What is read where the flag is 1, and where it is not.
  pub alternative_read : get_or ws at 0 ≡ 1 → {alternative : ℕ} → Behind latex_front ws (at + 1) alternative → {r : Span} → CharsRead ws alternative r → AlternativeRead ws at r
  alternative_read flag is reads none here = absurd (let z : ◌≡◌ {A = ℕ} 0 1 = sym (first_word here refl).1 ∙ flag in omega arith)
  alternative_read flag is reads (some l) here = reads 0 l.alternative (alternative-here l here is) ∙ ap (λ n. span n l.alternative) (alternative_begins l here is)

  pub alternative-inside : get_or ws at 0 ≡ 1 → {alternative : ℕ} → Behind latex_front ws (at + 1) alternative → (o : Option T.Latex) → Here (if_flag T.latex) ws at o → alternative < length ws
  alternative-inside flag is none here = absurd (let z : ◌≡◌ {A = ℕ} 0 1 = sym (first_word here refl).1 ∙ flag in omega arith)
  alternative-inside flag is (some l) here = (length-first 0 (alternative-here l here is)).0

  pub no_alternative : (get_or ws at 0 ≡ 1 → ⊥) → AlternativeRead ws at (span 0 [])
  no_alternative other none here = refl
  no_alternative other (some l) here = absurd (other (first_word here refl).1)

-- ---- the places of a text's parts

-- The parts of a style that begins here.
module _ {bs : List ℕ} {at latex : ℕ} (s : T.TextStyle) (here : Here T.text_style bs at s) (latex-is : Behind T.font bs at latex) where
  parts : Here (T.font & if_flag T.latex) bs at (T.font_of s, s.latex)
  parts = style-here s here

  in_style : Here (if_flag T.latex) bs latex s.latex
  in_style = here_next T.font (if_flag T.latex) parts latex-is

  font_is : latex ≡ at + length (words_of T.font (T.font_of s))
  font_is = latex-is (T.font_of s) (here-first T.font (if_flag T.latex) parts)

  style-ends : {next : ℕ} → Behind (if_flag T.latex) bs latex next → next ≡ at + length (words_of T.text_style s)
  style-ends is =
      let words = ap length (pair_words T.font (if_flag T.latex) (T.font_of s) s.latex) in
      omega (arith, is s.latex in_style, font_is, words, length-append (words_of T.font (T.font_of s)) (words_of (if_flag T.latex) s.latex))

module _ {bs : List ℕ} {v start : ℕ} where
  pub in_text : {latex paint chars : ℕ} → Behind T.font bs start latex → Behind (if_flag T.latex) bs latex paint → Behind (P.paint v) bs paint chars
      → InText bs v start (record { paint = paint; latex = latex; chars = chars })
  in_text {latex} {paint} {chars} latex-is paint-is chars-are t here =
      let style = here-first T.text_style (P.paint v & string 1) here in
      let ends = style-ends t.style style latex-is paint-is in
      let behind : Here (P.paint v & string 1) bs paint (t.paint, t.text) =
      subst (λ n. Here (P.paint v & string 1) bs n (t.paint, t.text)) (sym ends) (here_second T.text_style (P.paint v & string 1) here) in
      let painted = here-first (P.paint v) (string 1) behind in
      record {
        paint = painted;
        latex = in_style t.style style latex-is;
        latex-is = omega (arith, font_is t.style style latex-is);
        chars = here_next (P.paint v) (string 1) behind chars-are;
        chars-are = omega (arith, ends, chars-are t.paint painted);
      }

  pub in_text-path : {style latex chars : ℕ} → Behind (P.paint v) bs start style → Behind T.font bs style latex → Behind (if_flag T.latex) bs latex chars
      → InTextPath bs v start (record { paint = start; latex = latex; chars = chars })
  in_text-path {style} {latex} {chars} style-is latex-is chars-are x here =
      let s = x.text.style in
      let painted = here-first (P.paint v) (T.text_style & string 1 & outline v) here in
      let behind = here_next (P.paint v) (T.text_style & string 1 & outline v) here style-is in
      let styled = here-first T.text_style (string 1 & outline v) behind in
      let ends = style-ends s styled latex-is chars-are in
      let worded : Here (string 1 & outline v) bs chars (x.text.text, x.outline) =
      subst (λ n. Here (string 1 & outline v) bs n (x.text.text, x.outline)) (sym ends) (here_second T.text_style (string 1 & outline v) behind) in
      record {
        paint = painted;
        latex = in_style s styled latex-is;
        latex-is = omega (arith, font_is s styled latex-is, style-is x.text.paint painted);
        chars = here-first (string 1) (outline v) worded;
        chars-are = omega (arith, ends, style-is x.text.paint painted);
      }

-- ---- the text of a row's object

module _ (c bs : List ℕ) (v r : ℕ) where
  -- By the kind that the row says.
  pub places_of-text : {start : ℕ} {p : TextPlaces} → start ≡ start_in c r → (kind_in c r ≡ text_path_kind → ⊥) → InText bs v start p → TextPlacesOf c bs v r p
  places_of-text start_is other are (path p) t d has row = let z : ◌≡◌ {A = ℕ} 0 1 = cc in absurd (omega arith)
  places_of-text {start} {p} start_is other are (text u) t d has row =
      let same : u ≡ t = cc in
      subst (λ x. TextStands bs v (start_in c r) 0 x p) same (subst (λ at. InText bs v at p) start_is are u (text-here c bs v r u d row))
  places_of-text start_is other are (bitmap b) t d has row = let z : ◌≡◌ {A = ℕ} 0 1 = cc in absurd (omega arith)
  places_of-text start_is other are (text_path x) t d has row = absurd (other row.kind-is)

  pub places_of-text-path : {start : ℕ} {p : TextPlaces} → start ≡ start_in c r → kind_in c r ≡ text_path_kind → InTextPath bs v start p → TextPlacesOf c bs v r p
  places_of-text-path start_is kind are (path p) t d has row = let z : ◌≡◌ {A = ℕ} 0 1 = cc in absurd (omega arith)
  places_of-text-path start_is kind are (text u) t d has row = absurd (omega (arith, row.kind-is))
  places_of-text-path start_is kind are (bitmap b) t d has row = let z : ◌≡◌ {A = ℕ} 0 1 = cc in absurd (omega arith)
  places_of-text-path {start} {p} start_is kind are (text_path x) t d has row =
      let same : x.text ≡ t = cc in
      subst (λ u. TextStands bs v (start_in c r) (before_style v (text_path x)) u p) same (subst (λ at. InTextPath bs v at p) start_is are x (text-path-here c bs v r x d row))

  -- A row's kind says whether its object has a text.
  pub of-wording : (P : Object → Type 0) → ((l : Leaf) (t : T.Text) (d : String) → wording l ≡ some t → RowBody c bs v r (leaf l d) → P (leaf l d))
      → (o : Object) → RowBody c bs v r o → has_text (kind_in c r) ≡ true → P o
  of-wording P by (leaf (path p) d) row kind = absurd (true≢false (sym kind ∙ ap has_text row.kind-is))
  of-wording P by (leaf (text t) d) row kind = by (text t) t d refl row
  of-wording P by (leaf (bitmap b) d) row kind = absurd (true≢false (sym kind ∙ ap has_text row.kind-is))
  of-wording P by (leaf (text_path x) d) row kind = by (text_path x) x.text d refl row
  of-wording P by (group os d) row kind = absurd (true≢false (sym kind ∙ ap has_text row.kind-is))

  pub no_wording : (o : Object) → RowBody c bs v r o → has_text (kind_in c r) ≡ false → leaf_part wording o ≡ none
  no_wording (leaf (path p) d) row kind = refl
  no_wording (leaf (text t) d) row kind = absurd (true≢false (sym (ap has_text row.kind-is) ∙ kind))
  no_wording (leaf (bitmap b) d) row kind = refl
  no_wording (leaf (text_path x) d) row kind = absurd (true≢false (sym (ap has_text row.kind-is) ∙ kind))
  no_wording (group os d) row kind = refl

  -- ---- the answers

  abbrev pub answered : Object → TextAnswer
  answered o = text_value (text_places (start_in c r) v (or_refusal 7 (text_part v o)))

  alternative-same : {latex : ℕ} (start : ℕ) (s : T.TextStyle) → latex ≡ start + length (words_of T.font (T.font_of s)) → (o : Option T.Latex) → alternative_in latex o ≡ alternative_span start s o
  alternative-same start s is none = refl
  alternative-same start s is (some l) = ap (λ n. span n l.alternative) (omega (arith, is, front_length l))

  module _ {p : TextPlaces} (are : TextPlacesOf c bs v r p) (o : Object) (row : RowBody c bs v r o) (kind : has_text (kind_in c r) ≡ true) where
    pub latex_holds : length bs ≤ length_limit → Holds (if_flag T.latex) bs p.latex
    latex_holds short = of-wording (λ x. Holds (if_flag T.latex) bs p.latex) (λ l t d has row. record { short = short; value = t.style.latex; here = (are l t d has row).latex }) o row kind

    pub chars_inside : p.chars < length bs
    chars_inside = of-wording (λ x. p.chars < length bs) (λ l t d has row. (length-first 1 (are l t d has row).chars).0) o row kind

    pub text-answered : {a s : Span} → AlternativeRead bs p.latex a → CharsRead bs p.chars s → record { number = 0; alternative = a; text = s } ≡ answered o
    text-answered {a} {s} alternative-is text-is = of-wording (λ x. record { number = 0; alternative = a; text = s } ≡ answered x) by o row kind
      where
        by : (l : Leaf) (t : T.Text) (d : String) → wording l ≡ some t → RowBody c bs v r (leaf l d) → record { number = 0; alternative = a; text = s } ≡ answered (leaf l d)
        by l t d has row =
            let at = are l t d has row in
            ap₂ (λ a s. record { number = 0; alternative = a; text = s })
            (alternative-is t.style.latex at.latex ∙ alternative-same (start_in c r + before_style v l) t.style at.latex-is t.style.latex)
            (text-is 1 t.text at.chars ∙ ap (λ n. span n t.text) at.chars-are)
            ∙ sym (ap (λ x. text_value (text_places (start_in c r) v (or_refusal 7 (map (λ u. (before_style v l, u)) x)))) has)

  pub no_text-answered : (o : Object) → RowBody c bs v r o → has_text (kind_in c r) ≡ false → text_value (no_text 7) ≡ answered o
  no_text-answered (leaf l d) row kind = sym (ap (λ x. text_value (text_places (start_in c r) v (or_refusal 7 (map (λ u. (before_style v l, u)) x)))) (no_wording (leaf l d) row kind))
  no_text-answered (group os d) row kind = refl
