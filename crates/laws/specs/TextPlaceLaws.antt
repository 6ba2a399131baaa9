-- Where the parts of a text stand in its body, and that the places of its chars hold these chars.
use Rattle.std.specs.Prelude.{◌≡◌, refl, ℕ, ◌+◌, List, [], ◌∷◌, ◌++◌, length, take, drop}
use Rattle.std.proofs.Common.{sym, ap, subst, ◌∙◌, add-zero, arith, append_assoc, length-append, drop-drop, take_at}
use Rattle.std.proofs.Math.Option.{Option, none, some}
use Rattle.format.specs.Kind.{Field}
use Rattle.format.specs.Spelling.{spell_all}
use Rattle.format.specs.FixedCodec.{spell_fixed}
use Rattle.format.specs.Format.{fields}
use Rattle.format.specs.Layout.{Layout, field, ◌&◌}
use Rattle.drawing.specs.Codecs.{word_fields}
use Rattle.drawing.specs.Fields.{byte_in}
use Rattle.drawing.specs.String.{String, string}
use Rattle.drawing.specs.Choices.{if_flag}
use Rattle.drawing.specs.Paint as P
use Rattle.drawing.specs.Text as T
use Rattle.drawing.specs.Path.{outline}
use Rattle.drawing.specs.TextPath.{TextPath}
use Rattle.drawing.specs.Object.{Leaf, path, text, bitmap, text_path, leaf}
use Rattle.drawing.specs.Table.{words_of, start_in}
use Rattle.drawing.specs.Questions.{span, string_words, wording, before_style, before_text, alternative_span, alternative_of, CharsAt}
use Rattle.laws.specs.WordLaws.{pair_words, string-words}
use Rattle.laws.specs.Standing.{Here}
use Rattle.laws.specs.StandingLaws.{stands_long, here_as, here-behind, here-first, here_second}
use Rattle.laws.specs.RowBodies.{RowBody}
use Rattle.laws.specs.LeafPlaceLaws.{text-here, text-path-here}

-- ---- strings

module _ {ws : List ℕ} {at : ℕ} (least : ℕ) {s : String} (here : Here (string least) ws at s) where
  words_are : drop at ws ≡ length s ∷ (s ++ here.rest)
  words_are = here.stands.words_are ∙ ap (λ l. l ++ here.rest) (string-words least s here.good)

  -- A string's chars stand behind its length.
  pub string-chars : CharsAt ws (span (at + 1) s) s
  string-chars =
      record {
        inside = omega (arith, stands_long here.stands, ap length (string-words least s here.good));
        chars-are = ap (take (length s)) (sym (drop-drop 1 at ws) ∙ ap (drop 1) words_are) ∙ take_at s here.rest (length s) refl;
      }

-- ---- LaTeX fields

-- What stands between the flag and the alternative.
abbrev pub latex_front : Layout (String × (String × (String × (String × (ℕ × ℕ)))))
latex_front = string 0 & string 0 & string 0 & string 0 & field (byte_in 0 2) & field (byte_in 0 3)

abbrev pub latex_parts : T.Latex → (String × (String × (String × (String × (ℕ × ℕ))))) × String
latex_parts l = ((l.family, (l.series, (l.shape, (l.size, (l.horizontal, l.vertical))))), l.alternative)

module _ (l : T.Latex) where
  regroup : (a b c d : List Field) (x y : Field) (s : List Field) → a ++ (b ++ (c ++ (d ++ (x ∷ y ∷ s)))) ≡ (a ++ (b ++ (c ++ (d ++ (x ∷ y ∷ []))))) ++ s
  regroup a b c d x y s = simp append_assoc

  latex-words : words_of (if_flag T.latex) (some l) ≡ 1 ∷ words_of (latex_front & string 0) (latex_parts l)
  latex-words =
      let f = fields (string 0).format in
      ap (λ fs. 1 ∷ spell_all (spell_fixed word_fields) fs) (regroup (f l.family) (f l.series) (f l.shape) (f l.size) _ _ (f l.alternative))

  -- Four strings and two bytes.
  pub front_length : length (words_of latex_front (latex_parts l).0) ≡ string_words l.family + string_words l.series + string_words l.shape + string_words l.size + 2
  front_length =
      let s = string 0 in
      let bytes = field (byte_in 0 2) & field (byte_in 0 3) in
      let two : ℕ × ℕ = (l.horizontal, l.vertical) in
      omega (
        arith,
        ap length (pair_words s (s & s & s & bytes) l.family (l.series, (l.shape, (l.size, two)))),
        length-append (words_of s l.family) (words_of (s & s & s & bytes) (l.series, (l.shape, (l.size, two)))),
        ap length (pair_words s (s & s & bytes) l.series (l.shape, (l.size, two))),
        length-append (words_of s l.series) (words_of (s & s & bytes) (l.shape, (l.size, two))),
        ap length (pair_words s (s & bytes) l.shape (l.size, two)),
        length-append (words_of s l.shape) (words_of (s & bytes) (l.size, two)),
        ap length (pair_words s bytes l.size two),
        length-append (words_of s l.size) (words_of bytes two),
      )

  module _ {ws : List ℕ} {at : ℕ} (here : Here (if_flag T.latex) ws at (some l)) where
    pub latex-here : Here (latex_front & string 0) ws (at + 1) (latex_parts l)
    latex-here =
        let g = here.good.1.1.1 in
        here-behind here (1 ∷ []) (latex_front & string 0) latex-words ((g.0, (g.1.0, (g.1.1.0, (g.1.1.1.0, (g.1.1.1.1.0, g.1.1.1.1.1.0))))), g.1.1.1.1.1.1)

    pub alternative-chars : CharsAt ws (span (at + 1 + length (words_of latex_front (latex_parts l).0) + 1) l.alternative) l.alternative
    alternative-chars = string-chars 0 (here_second latex_front (string 0) latex-here)

-- ---- styles

-- A style is a font and, behind it, its LaTeX fields.
module _ {ws : List ℕ} {at : ℕ} (s : T.TextStyle) (here : Here T.text_style ws at s) where
  pub style-here : Here (T.font & if_flag T.latex) ws at (T.font_of s, s.latex)
  style-here = here_as here (T.font & if_flag T.latex) refl here.good.1

  by-latex : (o : Option T.Latex) → Here (if_flag T.latex) ws (at + length (words_of T.font (T.font_of s))) o → CharsAt ws (alternative_span at s o) (alternative_of o)
  by-latex none here = record { inside = omega arith; chars-are = refl }
  by-latex (some l) here =
      subst (λ n. CharsAt ws (span n l.alternative) l.alternative) (omega (arith, front_length l)) (alternative-chars l here)

  pub style-alternative : CharsAt ws (alternative_span at s s.latex) (alternative_of s.latex)
  style-alternative = by-latex s.latex (here_second T.font (if_flag T.latex) style-here)

-- ---- texts, and texts along paths

-- Where a leaf's text stands: its style, and the string of its chars.
pub record WordingHere (bs : List ℕ) (v start : ℕ) (l : Leaf) (t : T.Text) : Type 0 where
  pub style : Here T.text_style bs (start + before_style v l) t.style
  pub chars-at : ℕ
  pub chars : Here (string 1) bs chars-at t.text
  pub chars-are : chars-at + 1 ≡ start + before_text v t

module _ (c bs : List ℕ) (v r : ℕ) where
  text-wording : (t : T.Text) (d : String) → RowBody c bs v r (leaf (text t) d) → WordingHere bs v (start_in c r) (text t) t
  text-wording t d row =
      let here = text-here c bs v r t d row in
      record {
        style = subst (λ at. Here T.text_style bs at t.style) (sym (add-zero (start_in c r))) (here-first T.text_style (P.paint v & string 1) here);
        chars-at = _;
        chars = here_second (P.paint v) (string 1) (here_second T.text_style (P.paint v & string 1) here);
        chars-are = omega arith;
      }

  text-path-wording : (x : TextPath) (d : String) → RowBody c bs v r (leaf (text_path x) d) → WordingHere bs v (start_in c r) (text_path x) x.text
  text-path-wording x d row =
      let behind = here_second (P.paint v) (T.text_style & string 1 & outline v) (text-path-here c bs v r x d row) in
      record {
        style = here-first T.text_style (string 1 & outline v) behind;
        chars-at = _;
        chars = here-first (string 1) (outline v) (here_second T.text_style (string 1 & outline v) behind);
        chars-are = omega arith;
      }

  wording-here : (l : Leaf) (t : T.Text) (d : String) → wording l ≡ some t → RowBody c bs v r (leaf l d) → WordingHere bs v (start_in c r) l t
  wording-here (path p) t d has row = let z : ◌≡◌ {A = ℕ} 0 1 = cc in absurd (omega arith)
  wording-here (text u) t d has row = let same : u ≡ t = cc in subst (WordingHere bs v (start_in c r) (text u)) same (text-wording u d row)
  wording-here (bitmap b) t d has row = let z : ◌≡◌ {A = ℕ} 0 1 = cc in absurd (omega arith)
  wording-here (text_path x) t d has row = let same : x.text ≡ t = cc in subst (WordingHere bs v (start_in c r) (text_path x)) same (text-path-wording x d row)

  -- The places of its chars hold these chars.
  pub alternative-of : (l : Leaf) (t : T.Text) (d : String) → wording l ≡ some t → RowBody c bs v r (leaf l d)
      → CharsAt bs (alternative_span (start_in c r + before_style v l) t.style t.style.latex) (alternative_of t.style.latex)
  alternative-of l t d has row = style-alternative t.style (wording-here l t d has row).style

  pub text-chars : (l : Leaf) (t : T.Text) (d : String) → wording l ≡ some t → RowBody c bs v r (leaf l d) → CharsAt bs (span (start_in c r + before_text v t) t.text) t.text
  text-chars l t d has row =
      let here = wording-here l t d has row in
      subst (λ n. CharsAt bs (span n t.text) t.text) here.chars-are (string-chars 1 here.chars)
