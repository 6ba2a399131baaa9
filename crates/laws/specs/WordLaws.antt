-- The words of layouts: of two parts, of a string, and of the end of an object.
use Rattle.std.specs.Prelude.{◌≡◌, refl, ℕ, zero, suc, ◌-◌, ◌<◌, ◌≤◌, List, [], ◌∷◌, ◌++◌, length, Bool, true, false, eqb, leb}
use Rattle.std.proofs.Common.{sym, ap₂, arith, true≢false, le-leb}
use Rattle.std.proofs.lemmas.Bool.{lt-leb}
use Rattle.format.specs.FixedCodec.{spell_fixed}
use Rattle.format.specs.Format.{fields}
use Rattle.format.specs.Layout.{Layout, field, when, threaded, ◌&◌}
use Rattle.drawing.specs.Codecs.{word_fields}
use Rattle.drawing.specs.Fields.{string_char, flow_flag}
use Rattle.drawing.specs.String.{String, string}
use Rattle.drawing.specs.LeafLayout.{object_end}
use Rattle.drawing.specs.Table.{words_of}
use Rattle.laws.specs.ObjectBytes.{spelled-append}
use Rattle.laws.specs.WalkComplete.{one_word}

-- One part and then another.
pub pair_words : {A B : Type 0} (f : Layout A) (g : Layout B) (a : A) (b : B) → words_of (f & g) (a, b) ≡ words_of f a ++ words_of g b
pair_words f g a b = spelled-append (spell_fixed word_fields) (fields f.format a) (fields g.format b)

-- ---- strings, and the end of an object

chars-words : (n left : ℕ) (s : String) → (threaded n (λ m. field (string_char (eqb m 1))) (λ m c. m - 1) left).Good s
    → words_of (threaded n (λ m. field (string_char (eqb m 1))) (λ m c. m - 1) left) s ≡ s
chars-words zero left [] g = refl
chars-words zero left (c ∷ s) g = absurd g
chars-words (suc n) left [] g = absurd g
chars-words (suc n) left (c ∷ s) g =
    let h = g.0.fits in
    ap₂ {C = List ℕ} (λ w ws. w ∷ ws) (one_word c (omega arith)) (chars-words n (left - 1) s g.1)

-- A good string's words: its length and its chars.
pub string-words : (least : ℕ) (s : String) → (string least).Good s → words_of (string least) s ≡ length s ∷ s
string-words least s g = ap₂ {C = List ℕ} (λ w ws. w ∷ ws) (one_word (length s) g.0.fits) (chars-words (length s) (length s) s g.1)

-- Below 1.2 there is no description.
pub early_end : (v : ℕ) (d : String) → v < 2 → (object_end v).Good d → d ≡ []
early_end v d h g = by (leb 2 v) (lt-leb 2 v h) g.1
  where
    by : (t : Bool) → t ≡ false → (when t (string 0) []).Good d → d ≡ []
    by true e x = absurd (true≢false e)
    by false e x = x

-- From 1.2 on an object's end is the flow frame flag and the description.
pub late_end : (v : ℕ) (d : String) → 2 ≤ v → (object_end v).Good d → (words_of (object_end v) d ≡ words_of (field flow_flag & string 0) (0, d)) × (field flow_flag & string 0).Good (0, d)
late_end v d h g = by (leb 2 v) (le-leb 2 v h) g.1
  where
    by : (t : Bool) → t ≡ true → (when t (string 0) []).Good d → (0 ∷ words_of (when t (string 0) []) d ≡ 0 ∷ words_of (string 0) d) × (field flow_flag & string 0).Good (0, d)
    by true e x = (refl, (g.0, x))
    by false e x = absurd (true≢false (sym e))
