-- The bytes of objects and of a file, by their parts: what stands behind what.
use Rattle.std.specs.Prelude.{◌≡◌, refl, true, ℕ, zero, suc, ◌+◌, ◌-◌, List, [], ◌∷◌, ◌++◌, length}
use Rattle.std.proofs.Common.{sym, ap, ◌∙◌, append_assoc}
use Prim.Native.Char.{code}
use Rattle.format.specs.Digits.{digits}
use Rattle.format.specs.Kind.{Field}
use Rattle.format.specs.Spelling.{Spelling, spell_all}
use Rattle.format.specs.FixedCodec.{spell_fixed}
use Rattle.format.specs.Format.{fields}
use Rattle.format.specs.Layout.{Layout, repeat, either, encode}
use Rattle.drawing.specs.Codecs.{byte_fields}
use Rattle.drawing.specs.Limits.{depth_limit}
use Rattle.drawing.specs.Fields.{jdr, version_zero}
use Rattle.drawing.specs.String.{String}
use Rattle.drawing.specs.Settings.{settings}
use Rattle.drawing.specs.Object.{Leaf, leaf, group, Objects, list_of}
use Rattle.drawing.specs.ObjectId.{leaf_letter}
use Rattle.drawing.specs.LeafLayout.{is_leaf, leaf_body, object_end}
use Rattle.drawing.proofs.ObjectLaws.{group_no_leaf}
use Rattle.drawing.specs.ObjectLayout.{object, group_body, leaf_object, group_object}
use Rattle.drawing.specs.Drawing.{Drawing, file_of}

-- The bytes of a value, as `words_of` are its words.
abbrev pub bytes_of : {A : Type 0} → Layout A → A → List ℕ
bytes_of L a = encode (spell_fixed byte_fields) L a

-- Fields are spelled one behind the other.
pub spelled-append : (spell : Spelling) (fs gs : List Field) → spell_all spell (fs ++ gs) ≡ spell_all spell fs ++ spell_all spell gs
spelled-append spell [] gs = refl
spelled-append spell (f ∷ fs) gs =
    let here = spell f.kind f.value in
    ap (λ l. here ++ l) (spelled-append spell fs gs) ∙ sym (append_assoc here (spell_all spell fs) (spell_all spell gs))

-- ---- repeated parts: how many a layout says there are is not in its bytes

pub many-bytes : {A : Type 0} (L : Layout A) (m n : ℕ) (a : A) (as' : List A) → bytes_of (repeat m L) (a ∷ as') ≡ bytes_of L a ++ bytes_of (repeat n L) as'
many-bytes L m n a as' = spelled-append (spell_fixed byte_fields) (fields L.format a) (fields (repeat n L).format as')

pub many-append : {A : Type 0} (L : Layout A) (m n k : ℕ) (as' bs : List A)
    → bytes_of (repeat m L) (as' ++ bs) ≡ bytes_of (repeat n L) as' ++ bytes_of (repeat k L) bs
many-append L m n k [] bs = refl
many-append L m n k (a ∷ as') bs =
    many-bytes L m m a (as' ++ bs)
    ∙ ap (λ l. bytes_of L a ++ l) (many-append L m n k as' bs)
    ∙ sym (append_assoc (bytes_of L a) (bytes_of (repeat n L) as') (bytes_of (repeat k L) bs))
    ∙ ap (λ l. l ++ bytes_of (repeat k L) bs) (sym (many-bytes L n n a as'))

-- ---- objects

pub leaf_bytes : (v deep : ℕ) (l : Leaf) (d : String) → is_leaf v (leaf_letter l) ≡ true
    → bytes_of (object v deep) (leaf l d) ≡ digits 256 2 (leaf_letter l) ++ bytes_of (leaf_body v (leaf_letter l)) (l, d)
leaf_bytes v zero l d on = refl
leaf_bytes v (suc deep) l d on =
    ap (λ t. digits 256 2 (leaf_letter l) ++ bytes_of (either t (leaf_object v (leaf_letter l)) (group_object v (object v deep))) (leaf l d)) on

pub group_led : (v deep : ℕ) (os : Objects) (d : String) → bytes_of (object v (suc deep)) (group os d) ≡ digits 256 2 (code "G") ++ bytes_of (group_body v (object v deep)) (os, d)
group_led v deep os d =
    ap (λ t. digits 256 2 (code "G") ++ bytes_of (either t (leaf_object v (code "G")) (group_object v (object v deep))) (group os d)) (group_no_leaf v)

module _ (v deep : ℕ) (os : Objects) (d : String) (n : ℕ) where
  -- Behind a group's id: its count, its members, and its own end.
  pub group_body-bytes : bytes_of (group_body v (object v deep)) (os, d) ≡ digits 256 4 (length (list_of os)) ++ (bytes_of (repeat n (object v deep)) (list_of os) ++ bytes_of (object_end v) d)
  group_body-bytes =
      ap (λ l. digits 256 4 (length (list_of os)) ++ l) (spelled-append (spell_fixed byte_fields) (fields (repeat n (object v deep)).format (list_of os)) (fields (object_end v).format d))

  pub group_bytes_lem : bytes_of (object v (suc deep)) (group os d)
      ≡ digits 256 2 (code "G") ++ (digits 256 4 (length (list_of os)) ++ (bytes_of (repeat n (object v deep)) (list_of os) ++ bytes_of (object_end v) d))
  group_bytes_lem = group_led v deep os d ∙ ap (λ l. digits 256 2 (code "G") ++ l) group_body-bytes

-- ---- a file

pub file-bytes : (d : Drawing)
    → file_of d
    ≡ digits 256 6 jdr
    ++ (digits 256 4 3
    ++ (digits 256 6 (version_zero + d.version)
    ++ (bytes_of (settings d.version) d.settings
    ++ (digits 256 2 (code "G") ++ bytes_of (group_body d.version (object d.version (depth_limit - 1))) (d.members, d.description)))))
file-bytes d =
    ap (λ l. digits 256 6 jdr ++ (digits 256 4 3 ++ (digits 256 6 (version_zero + d.version) ++ l)))
    (spelled-append (spell_fixed byte_fields) (fields (settings d.version).format d.settings) _)
