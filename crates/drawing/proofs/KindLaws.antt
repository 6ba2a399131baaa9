-- Which kinds are a leaf's, by their letters.
use Rattle.std.specs.Prelude.{◌≡◌, refl, Bool, true, false, cond, ℕ, zero, suc, ◌≤◌, eqb, leb}
use Rattle.std.proofs.Common.{sym, ap, ◌∙◌, true≢false, arith, eqb-true, ne_eqb}
use Prim.Native.Char.{code}
use Rattle.drawing.specs.Limits.{v1_5}
use Rattle.drawing.specs.LeafLayout.{is_leaf}
use Rattle.drawing.specs.ObjectLaws.{leaf_ids_lem}
use Rattle.drawing.specs.Table.{path_kind, text_kind, bitmap_kind, text_path_kind}
use Rattle.drawing.specs.TableDrawing.{letter_of}
use Rattle.drawing.specs.KindLaws.{kind_by_letter}

none_is_leaf : (v : ℕ) → is_leaf v 0 ≡ false
none_is_leaf v = leaf_ids_lem v 0

pub letter_kind : (v k : ℕ) → is_leaf v (letter_of k) ≡ true → kind_by_letter (letter_of k) ≡ k
letter_kind v k leafy = by (eqb k path_kind) refl (eqb k text_kind) refl (eqb k bitmap_kind) refl (eqb k text_path_kind) refl leafy
  where
    by : (a : Bool) → eqb k path_kind ≡ a → (b : Bool) → eqb k text_kind ≡ b → (c : Bool) → eqb k bitmap_kind ≡ c → (d : Bool) → eqb k text_path_kind ≡ d
        → is_leaf v (cond a (code "P") (cond b (code "T") (cond c (code "I") (cond d (code "X") 0)))) ≡ true
        → kind_by_letter (cond a (code "P") (cond b (code "T") (cond c (code "I") (cond d (code "X") 0)))) ≡ k
    by true is b _ c _ d _ leafy = sym (eqb-true k path_kind is)
    by false _ true is c _ d _ leafy = sym (eqb-true k text_kind is)
    by false _ false _ true is d _ leafy = sym (eqb-true k bitmap_kind is)
    by false _ false _ false _ true is leafy = sym (eqb-true k text_path_kind is)
    by false _ false _ false _ false _ leafy = absurd (true≢false (sym leafy ∙ none_is_leaf v))

-- Which kinds are a leaf's: those from a path to a bitmap, and from 1.5 on one more.
pub old_leaf : (v k : ℕ) → path_kind ≤ k → k ≤ bitmap_kind → is_leaf v (letter_of k) ≡ true
old_leaf v zero low high = absurd (omega arith)
old_leaf v (suc zero) low high = absurd (omega arith)
old_leaf v (suc (suc zero)) low high = leaf_ids_lem v (code "P")
old_leaf v (suc (suc (suc zero))) low high = refl
old_leaf v (suc (suc (suc (suc zero)))) low high = refl
old_leaf v (suc (suc (suc (suc (suc k))))) low high = absurd (omega arith)

pub text-path_leaf : (v k : ℕ) → k ≡ text_path_kind → is_leaf v (letter_of k) ≡ leb v1_5 v
text-path_leaf v k is = ap (λ n. is_leaf v (letter_of n)) is ∙ leaf_ids_lem v (code "X")

pub no_leaf : (v k : ℕ) → (k ≡ path_kind → ⊥) → (k ≡ text_kind → ⊥) → (k ≡ bitmap_kind → ⊥) → (k ≡ text_path_kind → ⊥) → is_leaf v (letter_of k) ≡ false
no_leaf v k a b c d =
    let none : letter_of k ≡ 0 = rw (ne_eqb k path_kind a, ne_eqb k text_kind b, ne_eqb k bitmap_kind c, ne_eqb k text_path_kind d) refl in
    ap (is_leaf v) none ∙ none_is_leaf v
