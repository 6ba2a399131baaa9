-- `walks::kind::is_leaf` meets its contract.
use mathlib.Core.Path.{sym}
use native.Mathlib.Omega.{arith}
use Rattle.drawing.proofs.KindLaws.{text-path_leaf, no_leaf}
use Rattle.walks.specs.LeafWalkLaws.{from_paths}
use Rattle.walks.proofs.kind.is_leaf.Goals as goal

pub returns-then-kind-eq-TEXT_PATH_KIND : goal.returns-then-kind-eq-TEXT_PATH_KIND
returns-then-kind-eq-TEXT_PATH_KIND c = sym (text-path_leaf c.args.version c.args.kind c.if-kind-eq-TEXT_PATH_KIND.true)

pub returns-then-kind-lt-PATH_KIND : goal.returns-then-kind-lt-PATH_KIND
returns-then-kind-lt-PATH_KIND c =
    let low = c.if-kind-lt-PATH_KIND.true in
    sym (no_leaf c.args.version c.args.kind (λ e. omega arith) (λ e. omega arith) (λ e. omega arith) c.if-kind-eq-TEXT_PATH_KIND.false)

pub returns : goal.returns
returns c =
    sym (from_paths c.args.version c.args.kind (omega (arith, c.if-kind-lt-PATH_KIND.false)) c.if-kind-eq-TEXT_PATH_KIND.false)
