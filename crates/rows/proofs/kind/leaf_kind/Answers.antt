-- `rows::kind::leaf_kind` meets its contract.
use borrow.Author.Tests.{eq-eqb, ne_eqb}
use Rattle.rows.proofs.kind.leaf_kind.Goals as goal

pub returns-then-letter-eq-TEXT : goal.returns-then-letter-eq-TEXT
returns-then-letter-eq-TEXT c =
    let h0 = c.if-letter-eq-TEXT.true in
    simp (eq-eqb, ne_eqb)

pub returns-then-letter-eq-BITMAP : goal.returns-then-letter-eq-BITMAP
returns-then-letter-eq-BITMAP c =
    let h0 = c.if-letter-eq-BITMAP.true in
    let h1 = c.if-letter-eq-TEXT.false in
    simp (eq-eqb, ne_eqb)

pub returns-then-letter-eq-TEXT_PATH : goal.returns-then-letter-eq-TEXT_PATH
returns-then-letter-eq-TEXT_PATH c =
    let h0 = c.if-letter-eq-TEXT_PATH.true in
    let h1 = c.if-letter-eq-BITMAP.false in
    let h2 = c.if-letter-eq-TEXT.false in
    simp (eq-eqb, ne_eqb)

pub returns : goal.returns
returns c =
    let h0 = c.if-letter-eq-TEXT_PATH.false in
    let h1 = c.if-letter-eq-BITMAP.false in
    let h2 = c.if-letter-eq-TEXT.false in
    simp (eq-eqb, ne_eqb)
