use Rattle.session.specs.Giving.{Gives, gives_same, gives_long, gives_counted, gives_run}
use mathlib.Core.Path.{sym, subst}
use native.Mathlib.Omega.{arith}
use Rattle.session.proofs.piece.given.Goals as goal

pub returns-then-s-gt-LENGTH_LIMIT : goal.returns-then-s-gt-LENGTH_LIMIT
returns-then-s-gt-LENGTH_LIMIT c = gives_same c.args.s c.args.bytes.now (omega arith)

pub returns-then-s-bytes : goal.returns-then-s-bytes
returns-then-s-bytes c =
    subst (Gives c.args.s c.args.bytes.now) (sym c.with_bytes.ensures) (gives_long c.args.s c.args.bytes.now (omega arith) (omega arith))

pub returns-then-is_runnable : goal.returns-then-is_runnable
returns-then-is_runnable c =
    gives_run c.args.s c.args.bytes.now (omega arith) (c.is_runnable.ensures.yes c.if-is_runnable.true) c.requires.0 (omega arith) c.with_bytes-then-is_runnable.ensures c.fed.ensures

pub returns : goal.returns
returns c =
    subst (Gives c.args.s c.args.bytes.now) (sym c.with_bytes-2.ensures) (gives_counted c.args.s c.args.bytes.now (omega arith) (omega arith) (c.is_runnable.ensures.no c.if-is_runnable.false))
