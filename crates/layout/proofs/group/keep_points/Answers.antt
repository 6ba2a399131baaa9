use Rattle.ways.specs.declared.Pass.{Pass}
use Rattle.ways.specs.Moves.{moved_none, moved_both, moved_ready}
use Rattle.ways.specs.Way.{source_units, value_at}
use Rattle.format.specs.LeafLaws.{field_below}
use Rattle.std.proofs.Math.Nat as Nat
use lib.ListN.{length}
use native.Mathlib.Omega.{arith}
use Prim.Native.Nat.{◌+◌, ◌*◌, ◌<◌, ◌≤◌}
use mathlib.Core.Path.{◌≡◌, refl, ap, subst}
use Rattle.layout.proofs.group.keep_points.Goals as goal

pub loop-init : goal.loop-init
loop-init g c = moved_none g.W.Way.way 8 (g.W.Way.units c.args.src.now)

pub keep-x-requires : goal.keep-x-requires
keep-x-requires g c =
    let done = c.loop.invariant in
    let w = source_units g.W.Way.way 8 in
    let us = g.W.Way.units c.args.src.now in
    let next : 2 * (c.loop.counter + 1) * w ≤ 2 * c.args.count * w = Nat.mul-le-mul_right w (omega (arith, c.loop-test.true)) in
    let at-is : c.loop.behind.at ≡ c.args.at + 2 * c.loop.counter * w = ap (λ (q : Pass). q.at) done.is in
    let inside : c.loop.behind.at + w ≤ length us = omega (arith, at-is, next, c.requires.way_in_bounds) in
    record { begins = moved_ready 8 (2 * c.loop.counter) c.requires.begins (omega (arith, next, c.requires.way_in_bounds)) (omega arith) (omega arith) done; size_value = (refl, inside, λ below. subst (λ n. value_at g.W.Way.way 8 us c.loop.behind.at < n) g.met.W.Way.double (field_below g.W.Way.way.source.base us c.loop.behind.at w inside below)) }

pub keep-behind-requires : goal.keep-behind-requires
keep-behind-requires g c =
    let w = source_units g.W.Way.way 8 in
    let us = g.W.Way.units c.args.src.now in
    let done = moved_both g.W.Way.way 8 us c.loop.invariant c.keep-x.ensures.moved in
    let next : 2 * (c.loop.counter + 1) * w ≤ 2 * c.args.count * w = Nat.mul-le-mul_right w (omega (arith, c.loop-test.true)) in
    let at-is : c.keep-x.result.at ≡ c.args.at + (2 * c.loop.counter + 1) * w = ap (λ (q : Pass). q.at) done.is in
    let inside : c.keep-x.result.at + w ≤ length us = omega (arith, at-is, next, c.requires.way_in_bounds) in
    record { begins = moved_ready 8 (2 * c.loop.counter + 1) c.requires.begins (omega (arith, next, c.requires.way_in_bounds)) (omega arith) (omega arith) done; size_value = (refl, inside, λ below. subst (λ n. value_at g.W.Way.way 8 us c.keep-x.result.at < n) g.met.W.Way.double (field_below g.W.Way.way.source.base us c.keep-x.result.at w inside below)) }

pub loop-preserved : goal.loop-preserved
loop-preserved g c =
    let us = g.W.Way.units c.args.src.now in
    let two : 2 * c.loop.counter + 1 + 1 ≡ 2 * (c.loop.counter + 1) = omega arith in
    rw (← two) (moved_both g.W.Way.way 8 us (moved_both g.W.Way.way 8 us c.loop.invariant c.keep-x.ensures.moved) c.keep-behind.ensures.moved)

pub returns : goal.returns
returns g c =
    let all : c.loop.counter ≡ c.args.count = omega (arith, c.loop-test.false, c.loop.auto.counter-end) in
    rw all at c.loop.invariant
