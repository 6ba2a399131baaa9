use Rattle.sheets.specs.PackingLaws.{counts-small, packed-contents, contents-small, packed-bodies, bodies-any, packed}
use mathlib.Core.Path.{refl}
use native.Mathlib.Omega.{arith}
use Rattle.sheets.proofs.write.pack.Goals as goal

pub put_char-requires : goal.put_char-requires
put_char-requires c = let few = counts-small c.requires.tabled in (omega (arith, c.requires.words_in_bounds), omega (arith, few.0))

pub put_char-requires-2 : goal.put_char-requires-2
put_char-requires-2 c =
    let few = counts-small c.requires.tabled in (omega (arith, c.requires.words_in_bounds, c.sheet-1.given), omega (arith, few.1))

pub bytes_before-before-requires : goal.bytes_before-before-requires
bytes_before-before-requires c = (counts-small c.requires.tabled).0

pub write_fields-requires : goal.write_fields-requires
write_fields-requires c =
    record { size_value = (refl, packed-contents c.requires.tabled _ (omega (arith, c.requires.words_in_bounds, c.sheet-2-1.given, c.sheet-1.given))); small_words = contents-small c.requires.tabled }

pub write_fields-requires-2 : goal.write_fields-requires-2
write_fields-requires-2 c =
    record { size_value = (refl, packed-bodies c.requires.tabled _ (omega (arith, c.requires.words_in_bounds, c.sheet-3-1.given, c.sheet-2-1.given, c.sheet-1.given)) c.bytes_before-before.ensures); small_words = bodies-any c.requires.tabled }

pub returns : goal.returns
returns c =
    packed c.requires.tabled c.requires.words_in_bounds c.bytes_before-before.ensures c.put_char.ensures c.put_char-2.ensures c.write_fields.ensures c.write_fields-2.ensures
