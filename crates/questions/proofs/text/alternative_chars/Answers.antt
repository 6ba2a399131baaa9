-- `questions::text::alternative_chars` meets its contract.
use Rattle.questions.specs.TextLaws.{alternative-inside, alternative_read}
use Rattle.questions.proofs.text.alternative_chars.Goals as goal

pub chars_at-requires : goal.chars_at-requires
chars_at-requires c =
    (alternative-inside c.if-words-at-eq1.true c.behind-alternative.ensures.is c.requires.value c.requires.here, c.requires.short)

pub returns-then-words-at-eq1 : goal.returns-then-words-at-eq1
returns-then-words-at-eq1 c = alternative_read c.if-words-at-eq1.true c.behind-alternative.ensures.is c.chars_at.ensures
