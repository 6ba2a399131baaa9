use Rattle.memory.specs.CharLaws.{Together}
use Rattle.memory.proofs.write.all_chars.Given as goal

abbrev pub invariant-loop-word : goal.invariant-loop-word
invariant-loop-word l = Together l.words l.from l.word-index l.all
