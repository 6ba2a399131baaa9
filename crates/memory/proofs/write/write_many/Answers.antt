-- `memory::write::write_many` meets its contract.
use Rattle.std.proofs.Common.{◌≡◌, refl, ◌+◌, ◌-◌, ◌*◌, ◌≤◌, ◌<◌, arith}
use Rattle.memory.specs.StoreLaws.{storing_on, storing_from, storing_last, next_inside, next_fits, small-left}
use Rattle.memory.proofs.write.write_many.Goals as goal

pub write_eight-requires : goal.write_eight-requires
write_eight-requires c =
    let inv = c.loop-i.invariant in
    let eight : 8 ≤ c.args.count - 8 * c.loop-i.i = omega (arith, c.loop-i-test.true) in
    let more : 0 < c.args.count - 8 * c.loop-i.i = omega (arith, eight) in
    (next_inside inv 8 eight, next_fits inv 8 more eight, record { small = λ i less. small-left inv (c.requires.small_words refl) i (omega (arith, eight, less)) })

pub loop-i-preserved : goal.loop-i-preserved
loop-i-preserved c =
    let eight : 8 ≤ c.args.count - 8 * c.loop-i.i = omega (arith, c.loop-i-test.true) in
    let more : 0 < c.args.count - 8 * c.loop-i.i = omega (arith, eight) in
    storing_from (storing_on c.loop-i.invariant 8 more eight c.write_eight.ensures) (omega arith) (omega arith) (omega arith)

pub write_eight-requires-2 : goal.write_eight-requires-2
write_eight-requires-2 c =
    let room = c.requires.le_count.1 in
    let most = c.requires.le_count.0 in
    (omega (arith, room.inside, most), omega (arith, room.fits (omega (arith, most)), most, c.loop-i.invariant.same_length), record { small = λ i less. let place : c.args.from + (c.args.count - 8 + i) ≡ c.args.from + c.args.count - 8 + i = omega (arith, most) in rw place at (c.requires.small_words refl (c.args.count - 8 + i) (omega (arith, less, most))) })

pub returns : goal.returns
returns c =
    let most = c.requires.le_count.0 in
    storing_last c.loop-i.invariant (c.args.count - 8) 8 (omega (arith, most)) (omega arith) (omega (arith, most, c.loop-i-test.false)) {a = c.args.from + c.args.count - 8} {p = c.args.to + 2 * c.args.count - 16} (omega (arith, most)) (omega (arith, most)) c.write_eight-2.ensures
