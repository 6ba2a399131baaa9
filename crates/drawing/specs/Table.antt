-- The table of a drawing (01, 'The table'): contents, a row of four words an object, in the order in which objects open;
-- and bodies, the words of the head and then each object's fields, in the order in which objects end.
use Rattle.std.specs.Prelude.{◌≡◌, ℕ, suc, ◌+◌, ◌*◌, List, [], ◌∷◌, ◌++◌, length, get_or}
use Rattle.format.specs.FixedCodec.{spell_fixed}
use Rattle.drawing.specs.Codecs.{word_fields}
use Rattle.format.specs.Layout.{Layout, field, encode, ◌&◌}
use Rattle.drawing.specs.Fields.{member_count}
use Rattle.drawing.specs.String.{String}
use Rattle.drawing.specs.Settings.{settings}
use Rattle.drawing.specs.Object.{Leaf, path, text, bitmap, text_path, Object, leaf, group, Objects, none, more, list_of}
use Rattle.drawing.specs.ObjectId.{leaf_letter}
use Rattle.drawing.specs.LeafLayout.{leaf_body, object_end}
use Rattle.drawing.specs.Drawing.{Drawing, outer, Acceptable}

-- The words of a value: one for a byte, flag, char, integer or float, two for a double.
abbrev pub words_of : {A : Type 0} → Layout A → A → List ℕ
words_of L a = encode (spell_fixed word_fields) L a

-- the kinds of rows
abbrev pub group_kind : ℕ
group_kind = 1

abbrev pub path_kind : ℕ
path_kind = 2

abbrev pub text_kind : ℕ
text_kind = 3

abbrev pub bitmap_kind : ℕ
bitmap_kind = 4

abbrev pub text_path_kind : ℕ
text_path_kind = 5

abbrev pub leaf_kind : Leaf → ℕ
leaf_kind (path p) = path_kind
leaf_kind (text t) = text_kind
leaf_kind (bitmap b) = bitmap_kind
leaf_kind (text_path x) = text_path_kind

-- A leaf's body: its fields after its id char.
abbrev pub leaf_words : ℕ → Leaf → String → List ℕ
leaf_words v l d = words_of (leaf_body v (leaf_letter l)) (l, d)

-- What a group has of its own: its count, flow frame flag and description.
abbrev pub group_own : ℕ → Layout (ℕ × String)
group_own v = field member_count & object_end v

abbrev pub group_words : ℕ → ℕ → String → List ℕ
group_words v n d = words_of (group_own v) (n, d)

-- How many objects open in an object, itself among them: its rows.
abbrev mutual
  pub rows : Object → ℕ
  rows (leaf l d) = 1
  rows (group os d) = suc (rows_all os)

  pub rows_all : Objects → ℕ
  rows_all none = 0
  rows_all (more o os) = rows o + rows_all os

-- The bodies of an object and of all that it holds, in the order in which they end.
abbrev mutual
  pub bodies : Object → ℕ → List ℕ
  bodies (leaf l d) v = leaf_words v l d
  bodies (group os d) v = bodies_all os v ++ group_words v (length (list_of os)) d

  pub bodies_all : Objects → ℕ → List ℕ
  bodies_all none v = []
  bodies_all (more o os) v = bodies o v ++ bodies_all os v

-- A row: the object's kind, the row of its parent, the start and the length of its body.
abbrev pub row : (kind parent start size : ℕ) → List ℕ
row kind parent start size = kind ∷ parent ∷ start ∷ size ∷ []

abbrev pub row_width : ℕ
row_width = 4

-- The words of the row with this number in some contents.
abbrev pub kind_in : List ℕ → ℕ → ℕ
kind_in contents n = get_or contents (row_width * n) 0

abbrev pub parent_in : List ℕ → ℕ → ℕ
parent_in contents n = get_or contents (row_width * n + 1) 0

abbrev pub start_in : List ℕ → ℕ → ℕ
start_in contents n = get_or contents (row_width * n + 2) 0

abbrev pub size_in : List ℕ → ℕ → ℕ
size_in contents n = get_or contents (row_width * n + 3) 0

-- Where the body of a row ends: one past its last word.
abbrev pub end_in : List ℕ → ℕ → ℕ
end_in contents n = start_in contents n + size_in contents n

-- The rows of an object and of all that it holds: its parent's row, its own, and where the next body begins.
abbrev mutual
  pub contents : Object → (version parent own at : ℕ) → List ℕ
  contents (leaf l d) v parent own at = row (leaf_kind l) parent at (length (leaf_words v l d))
  contents (group os d) v parent own at =
      row group_kind parent (at + length (bodies_all os v)) (length (group_words v (length (list_of os)) d)) ++ contents_all os v own (suc own) at

  pub contents_all : Objects → (version parent own at : ℕ) → List ℕ
  contents_all none v parent own at = []
  contents_all (more o os) v parent own at =
      contents o v parent own at ++ contents_all os v parent (own + rows o) (at + length (bodies o v))

-- The head's words: the minor version number, then the settings' fields.
abbrev pub head_words : Drawing → List ℕ
head_words d = d.version ∷ words_of (settings d.version) d.settings

abbrev pub contents_of : Drawing → List ℕ
contents_of d = contents (outer d) d.version 0 0 (length (head_words d))

abbrev pub bodies_of : Drawing → List ℕ
bodies_of d = head_words d ++ bodies (outer d) d.version

-- A table is this drawing's.
pub record IsTable (contents bodies : List ℕ) (d : Drawing) : Type 0 where
  pub acceptable : Acceptable d
  pub contents-are : contents ≡ contents_of d
  pub bodies-are : bodies ≡ bodies_of d
