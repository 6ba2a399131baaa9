-- `memory::write::all_chars` meets its contract.
use Rattle.std.proofs.Common.{◌≡◌, ℕ, ◌+◌, ◌-◌, ◌≤◌, ◌<◌, List, length, get_or, take, drop, ◌∙◌, sym, arith, length-drop, length-take-le}
use Rattle.std.proofs.lemmas.List.{get_or-take, get_or-drop}
use Rattle.memory.specs.CharLaws.{together_more}
use Rattle.memory.proofs.write.all_chars.Goals as goal

-- The words that are gone over.
long : (words : List ℕ) (from count : ℕ) → from + count ≤ length words → length (take (from + count - from) (drop from words)) ≡ count
long words from count inside =
    let rest : length (drop from words) ≡ length words - from = length-drop from words in
    length-take-le (from + count - from) (drop from words) (omega (arith, rest)) ∙ omega arith

word : (words : List ℕ) (from count i : ℕ) → i < count → get_or words (from + i) 0 ≡ get_or (take (from + count - from) (drop from words)) i 0
word words from count i less = sym (get_or-take (from + count - from) (drop from words) i 0 (omega arith) ∙ get_or-drop from words i 0)

pub loop-word-preserved : goal.loop-word-preserved
loop-word-preserved c =
    let less : c.loop-word.word-index < c.args.count = omega (arith, c.loop-word-test.true, long c.args.words.now c.args.from c.args.count c.requires) in
    rw (word c.args.words.now c.args.from c.args.count c.loop-word.word-index less) at (together_more c.args.words.now c.args.from c.loop-word.word-index c.loop-word.all c.loop-word.invariant)
