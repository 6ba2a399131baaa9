-- What the numbers of a table are below: those of the contents are no larger than the counts of rows and words, and words are words.
use Rattle.std.specs.Prelude.{◌≡◌, ℕ, suc, ◌+◌, ◌*◌, ◌^◌, ◌<◌, ◌≤◌, List, [], ◌∷◌, ◌++◌, length}
use Rattle.std.proofs.Common.{sym, subst, arith, length-append}
use Rattle.format.specs.Digits.{Below}
use Rattle.format.specs.Format.{fields}
use Rattle.format.specs.FixedCodecLaws.{below_append, below_spelled}
use Rattle.drawing.specs.Codecs.{word_fields}
use Rattle.drawing.specs.Limits.{length_limit}
use Rattle.drawing.specs.Object.{Leaf, path, text, bitmap, text_path, Object, leaf, group, Objects, none, more, list_of}
use Rattle.drawing.specs.ObjectId.{leaf_letter}
use Rattle.drawing.specs.LeafLayout.{leaf_body}
use Rattle.drawing.specs.Settings.{settings}
use Rattle.drawing.specs.Drawing.{Drawing, outer, file_of, Acceptable}
use Rattle.drawing.specs.Table.{words_of, leaf_kind, group_own, group_words, rows, rows_all, bodies, bodies_all, contents, contents_all, head_words, contents_of, bodies_of}
use Rattle.laws.specs.CodecLaws.{words_sensible}
use Rattle.laws.specs.FileGood.{file-parts}
use Rattle.laws.specs.CountLaws.{file-counts}

kind_small : (l : Leaf) → leaf_kind l ≤ 5
kind_small (path p) = omega arith
kind_small (text t) = omega arith
kind_small (bitmap b) = omega arith
kind_small (text_path x) = omega arith

-- Nothing in the rows of an object is over a number that its rows and its words do not pass.
module _ (v most : ℕ) (kinds : 5 ≤ most) where
  mutual
    rows-small : (o : Object) (parent own at : ℕ) → parent ≤ most → own + rows o ≤ most → at + length (bodies o v) ≤ most → Below (suc most) (contents o v parent own at)
    rows-small (leaf l d) parent own at above few short = (omega (arith, kind_small l), (omega arith, (omega arith, (omega arith, tt))))
    rows-small (group os d) parent own at above few short =
        let long = length-append (bodies_all os v) (group_words v (length (list_of os)) d) in
        (omega arith, (omega arith, (omega arith, (omega arith, all_small os own (suc own) at (omega arith) (omega arith) (omega arith)))))

    all_small : (os : Objects) (parent own at : ℕ) → parent ≤ most → own + rows_all os ≤ most → at + length (bodies_all os v) ≤ most → Below (suc most) (contents_all os v parent own at)
    all_small none parent own at above few short = tt
    all_small (more o os) parent own at above few short =
        let long = length-append (bodies o v) (bodies_all os v) in
        below_append (suc most) (contents o v parent own at) (contents_all os v parent (own + rows o) (at + length (bodies o v)))
        (rows-small o parent own at above (omega arith) (omega arith))
        (all_small os parent (own + rows o) (at + length (bodies o v)) above (omega arith) (omega arith))

-- The counts and the contents of an acceptable drawing are at most the limit of a file's length.
pub numbers-small : (d : Drawing) → Acceptable d → Below (suc length_limit) (rows (outer d) ∷ length (bodies_of d) ∷ contents_of d)
numbers-small d a =
    let counts = file-counts d a in
    let short = a.short in
    let long = length-append (head_words d) (bodies (outer d) d.version) in (
      omega (arith, counts.0),
      (
        omega (arith, counts.1),
        rows-small d.version length_limit (omega arith) (outer d) 0 0 (length (head_words d)) (omega arith) (omega (arith, counts.0)) (omega (arith, counts.1)),
      ),
    )

-- ---- words

mutual
  object_below : (v : ℕ) (o : Object) → Below (2 ^ 32) (bodies o v)
  object_below v (leaf l d) = below_spelled word_fields words_sensible (fields (leaf_body v (leaf_letter l)).format (l, d))
  object_below v (group os d) =
      below_append (2 ^ 32) (bodies_all os v) (group_words v (length (list_of os)) d) (objects_below v os)
      (below_spelled word_fields words_sensible (fields (group_own v).format (length (list_of os), d)))

  objects_below : (v : ℕ) (os : Objects) → Below (2 ^ 32) (bodies_all os v)
  objects_below v none = tt
  objects_below v (more o os) = below_append (2 ^ 32) (bodies o v) (bodies_all os v) (object_below v o) (objects_below v os)

pub bodies_below : (d : Drawing) → Acceptable d → Below (2 ^ 32) (bodies_of d)
bodies_below d a =
    let small = (file-parts d a.good).version.fits in (
      omega arith,
      below_append (2 ^ 32) (words_of (settings d.version) d.settings) (bodies (outer d) d.version) (below_spelled word_fields words_sensible (fields (settings d.version).format d.settings)) (object_below d.version (outer d)),
    )
