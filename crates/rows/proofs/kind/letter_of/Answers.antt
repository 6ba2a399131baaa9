-- `rows::kind::letter_of` meets its contract.
use borrow.Author.Tests.{eq-eqb, ne_eqb}
use native.Mathlib.Omega.{arith}
use Rattle.rows.proofs.kind.letter_of.Goals as goal

pub returns-then-kind-eq-PATH_KIND : goal.returns-then-kind-eq-PATH_KIND
returns-then-kind-eq-PATH_KIND c =
    let h0 = c.if-kind-eq-PATH_KIND.true in
    (simp (eq-eqb, ne_eqb), omega arith)

pub returns-then-kind-eq-TEXT_KIND : goal.returns-then-kind-eq-TEXT_KIND
returns-then-kind-eq-TEXT_KIND c =
    let h0 = c.if-kind-eq-TEXT_KIND.true in
    let h1 = c.if-kind-eq-PATH_KIND.false in
    (simp (eq-eqb, ne_eqb), omega arith)

pub returns-then-kind-eq-BITMAP_KIND : goal.returns-then-kind-eq-BITMAP_KIND
returns-then-kind-eq-BITMAP_KIND c =
    let h0 = c.if-kind-eq-BITMAP_KIND.true in
    let h1 = c.if-kind-eq-TEXT_KIND.false in
    let h2 = c.if-kind-eq-PATH_KIND.false in
    (simp (eq-eqb, ne_eqb), omega arith)

pub returns-then-kind-eq-TEXT_PATH_KIND : goal.returns-then-kind-eq-TEXT_PATH_KIND
returns-then-kind-eq-TEXT_PATH_KIND c =
    let h0 = c.if-kind-eq-TEXT_PATH_KIND.true in
    let h1 = c.if-kind-eq-BITMAP_KIND.false in
    let h2 = c.if-kind-eq-TEXT_KIND.false in
    let h3 = c.if-kind-eq-PATH_KIND.false in
    (simp (eq-eqb, ne_eqb), omega arith)

pub returns : goal.returns
returns c =
    let h0 = c.if-kind-eq-TEXT_PATH_KIND.false in
    let h1 = c.if-kind-eq-BITMAP_KIND.false in
    let h2 = c.if-kind-eq-TEXT_KIND.false in
    let h3 = c.if-kind-eq-PATH_KIND.false in
    (simp (eq-eqb, ne_eqb), omega arith)
