use Rattle.sheets.specs.CopyingLaws.{word_exchanged}
use Rattle.sheets.proofs.words.exchanged_word_at.Goals as goal

pub returns : goal.returns
returns c =
    let first = c.exchanged_char_at-first.ensures in
    let second = c.exchanged_char_at-second.ensures in
    word_exchanged c.args.sheet.now c.args.at c.requires first.1 second.1 first.0 second.0
