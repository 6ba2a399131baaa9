use mathlib.Core.Bool.{false≢true, true≢false}
use native.Mathlib.Omega.{arith}
use Rattle.from_sheet.specs.Way.{units}
use Rattle.ways.specs.TableWay.{blind, words_small, chars-there, small-chars, large_char}
use Rattle.from_sheet.proofs.FromSheetWay.has_wide.Goals as goal

pub all_chars-requires : goal.all_chars-requires
all_chars-requires c =
    let there = chars-there c.args.size (units c.args.src.now) c.args.at c.args.count c.if-size-eq2.true c.requires.1 in omega (arith, there)

pub returns-then-all_chars : goal.returns-then-all_chars
returns-then-all_chars c =
    record { none = λ e below. small-chars c.args.size (units c.args.src.now) c.args.at c.args.count c.if-size-eq2.true c.requires.1 (c.all_chars.ensures.all c.if-all_chars.true); one = λ e. absurd (false≢true e) }

pub returns-then-size-eq2 : goal.returns-then-size-eq2
returns-then-size-eq2 c =
    record { none = λ e. absurd (true≢false e); one = λ e. (blind, large_char c.args.size (units c.args.src.now) c.args.at c.args.count c.if-size-eq2.true c.requires.1 (c.all_chars.ensures.not-all c.if-all_chars.false)) }

pub returns : goal.returns
returns c =
    record { none = λ e below. words_small c.args.size (units c.args.src.now) c.args.at c.args.count c.requires.0 c.if-size-eq2.false below c.requires.1; one = λ e. absurd (false≢true e) }
