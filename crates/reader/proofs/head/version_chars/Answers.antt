-- `reader::head::version_chars` meets its contract.
use mir.Syntax.{w8}
use mathlib.Core.Path.{refl}
use Rattle.reader.specs.Heads.{chars-high, chars_good}
use Rattle.format.specs.LeafLaws.{known_below}
use Rattle.reader.proofs.head.version_chars.Goals as goal

pub returns-then-chars-gt-VERSION_LAST : goal.returns-then-chars-gt-VERSION_LAST
returns-then-chars-gt-VERSION_LAST c =
    chars-high c.args.file.now (known_below w8 c.args.file.now c.type_inv.file) c.requires.in_bounds c.if-file-lt-HEAD_BYTES.false c.chars_at-chars.ensures c.if-chars-lt-VERSION_ZERO.false c.if-chars-gt-VERSION_LAST.true c.no_version-then-chars-gt-VERSION_LAST.ensures

pub returns : goal.returns
returns c =
    chars_good c.args.file.now (known_below w8 c.args.file.now c.type_inv.file) c.requires.in_bounds c.if-file-lt-HEAD_BYTES.false c.requires.file_in_bounds c.chars_at-chars.ensures c.if-chars-lt-VERSION_ZERO.false c.if-chars-gt-VERSION_LAST.false refl
