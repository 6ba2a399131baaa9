use Rattle.ways.specs.declared.Pass.{Pass}
use Rattle.ways.specs.Moves.{moved_none, moved_both, moved_ready}
use Rattle.ways.specs.Way.{source_units, value_at}
use Rattle.format.specs.LeafLaws.{field_below}
use Rattle.std.proofs.Math.Nat as Nat
use lib.ListN.{length}
use native.Mathlib.Omega.{arith}
use Prim.Native.Nat.{◌+◌, ◌*◌, ◌<◌, ◌≤◌}
use mathlib.Core.Path.{◌≡◌, refl, ap, subst}
use Rattle.layout.proofs.group.keep_words.Goals as goal

pub loop-init : goal.loop-init
loop-init g c = moved_none g.W.Way.way 4 (g.W.Way.units c.args.src.now)

pub keep-behind-requires : goal.keep-behind-requires
keep-behind-requires g c =
    let done = c.loop.invariant in
    let w = source_units g.W.Way.way 4 in
    let us = g.W.Way.units c.args.src.now in
    let next : (c.loop.counter + 1) * w ≤ c.args.count * w = Nat.mul-le-mul_right w (omega (arith, c.loop-test.true)) in
    let at-is : c.loop.behind.at ≡ c.args.at + c.loop.counter * w = ap (λ (q : Pass). q.at) done.is in
    let inside : c.loop.behind.at + w ≤ length us = omega (arith, at-is, next, c.requires.way_in_bounds) in
    record { begins = moved_ready 4 c.loop.counter c.requires.begins (omega (arith, next, c.requires.way_in_bounds)) (omega arith) (omega arith) done; size_value = (refl, inside, λ below. subst (λ n. value_at g.W.Way.way 4 us c.loop.behind.at < n) g.met.W.Way.word (field_below g.W.Way.way.source.base us c.loop.behind.at w inside below)) }

pub loop-preserved : goal.loop-preserved
loop-preserved g c = moved_both g.W.Way.way 4 (g.W.Way.units c.args.src.now) c.loop.invariant c.keep-behind.ensures.moved

pub returns : goal.returns
returns g c =
    let all : c.loop.counter ≡ c.args.count = omega (arith, c.loop-test.false, c.loop.auto.counter-end) in
    rw all at c.loop.invariant
