-- `listing::label::is_labelled` meets its contract.
use Rattle.listing.specs.LabelLaws.{too_long_lem, other-number, other-chars, told-by-place}
use Rattle.places.specs.EndLaws.{described, some_description}
use mathlib.Core.Path.{sym, ◌∙◌}
use native.Mathlib.Omega.{arith}
use lib.ListN.{length}
use Prim.Native.Nat.{◌+◌, ◌-◌}
use Rattle.listing.proofs.label.is_labelled.Goals as goal

pub returns-then-size-chars : goal.returns-then-size-chars
returns-then-size-chars c =
    let row = c.args.row.now in
    λ o body. too_long_lem row.contents.now row.words.now row.version row.row c.args.label.now o (some_description row.contents.now row.words.now row.version row.row (omega (arith, c.if-row-lt-V1_2.false)) o body).1 (omega (arith, body.size_is, c.if-size-chars.true, c.size-size.ensures.is))

pub returns-then-row-from : goal.returns-then-row-from
returns-then-row-from c =
    let row = c.args.row.now in
    λ o body. other-number row.contents.now row.words.now row.version row.row c.args.label.now o (some_description row.contents.now row.words.now row.version row.row (omega (arith, c.if-row-lt-V1_2.false)) o body).1 (c.start.result + c.size-size.result - length c.args.label.now) (omega (arith, body.size_is, c.if-size-chars.false, c.start.ensures.is, c.size-size.ensures.is)) c.if-row-from.true

pub returns-then-same_chars : goal.returns-then-same_chars
returns-then-same_chars c =
    let row = c.args.row.now in
    λ o body. told-by-place row.contents.now row.words.now row.version row.row c.args.label.now o (described row.contents.now row.words.now row.version row.row (omega (arith, c.if-row-lt-V1_2.false)) o (c.end.ensures.is o body) c.behind-description.ensures.is) (c.start.result + c.size-size.result - length c.args.label.now) (omega (arith, body.size_is, c.if-size-chars.false, c.start.ensures.is, c.size-size.ensures.is)) (sym c.same_chars.ensures ∙ c.if-same_chars.true)

pub returns : goal.returns
returns c =
    let row = c.args.row.now in
    λ o body. other-chars row.contents.now row.words.now row.version row.row c.args.label.now o (some_description row.contents.now row.words.now row.version row.row (omega (arith, c.if-row-lt-V1_2.false)) o body).1 (c.start.result + c.size-size.result - length c.args.label.now) (omega (arith, body.size_is, c.if-size-chars.false, c.start.ensures.is, c.size-size.ensures.is)) (sym c.same_chars.ensures ∙ c.if-same_chars.false)
