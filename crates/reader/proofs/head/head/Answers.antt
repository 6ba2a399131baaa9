-- `reader::head::head` meets its contract.
use mir.Syntax.{w8}
use Rattle.reader.specs.Heads.{magic-bad, magic_good}
use Rattle.format.specs.LeafLaws.{known_below}
use Rattle.reader.proofs.head.head.Goals as goal

pub returns-then-chars_at-ne-MAGIC : goal.returns-then-chars_at-ne-MAGIC
returns-then-chars_at-ne-MAGIC c =
    magic-bad c.args.file.now (known_below w8 c.args.file.now c.type_inv.file) c.if-file-gt-LENGTH_LIMIT.false c.if-file-lt-VERSION_LENGTH_AT.false c.chars_at.ensures c.if-chars_at-ne-MAGIC.true c.no_version-then-chars_at-ne-MAGIC.ensures

pub returns : goal.returns
returns c =
    magic_good c.args.file.now (known_below w8 c.args.file.now c.type_inv.file) c.if-file-gt-LENGTH_LIMIT.false c.if-file-lt-VERSION_LENGTH_AT.false c.chars_at.ensures c.if-chars_at-ne-MAGIC.false c.version.ensures
