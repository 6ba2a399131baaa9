use Rattle.memory.specs.SizeLaws.{run_eight}
use native.Mathlib.Omega.{arith}
use borrow.Author.Rules.{rules}
use mathlib.Core.Path.{◌≡◌}
use Rattle.from_sheet.proofs.put_field.Goals as goal

pub overflow_cast-value : goal.overflow_cast-value
overflow_cast-value c = let s = rw c.in-2.is at c.requires.2 in omega (arith, s)

pub put_char-requires : goal.put_char-requires
put_char-requires c =
    let s = rw c.in-2.is at c.requires.2 in let r = rw c.in-2.is at c.requires.1 in (omega (arith, r), omega (arith, s))

pub overflow_cast-value-in-4 : goal.overflow_cast-value-in-4
overflow_cast-value-in-4 c = let s = rw c.in-4.is at c.requires.2 in omega (arith, s)

pub put_double-requires : goal.put_double-requires
put_double-requires c =
    let eight : c.args.size ≡ 8 = run_eight c.args.size c.requires.0 (search rules) (search rules) in
    let r = rw eight at c.requires.1 in
    omega (arith, r)

pub returns-in-2 : goal.returns-in-2
returns-in-2 c = rw c.in-2.is c.put_char.ensures

pub returns-in-4 : goal.returns-in-4
returns-in-4 c = rw c.in-4.is c.put_word.ensures

pub returns-in_default : goal.returns-in_default
returns-in_default c =
    let eight : c.args.size ≡ 8 = run_eight c.args.size c.requires.0 (search rules) (search rules) in
    rw eight c.put_double.ensures
