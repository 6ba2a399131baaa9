-- `all`, `group` and `object` of `reader::objects`, which call one another, meet their contracts: the depth left falls at each group.
use native.Mathlib.Omega.{arith}
use mir.Syntax.{w8}
use mathlib.Core.Path.{◌≡◌, ◌∙◌}
use Rattle.reader.specs.ObjectLaws.{behind_id, object_as_leaf, object_as_group}
use Rattle.reader.specs.GroupLaws.{group_refused, group_members, group_stop, group_tail, row_before, group_descends}
use Rattle.reader.specs.MemberLaws.{members_begin, members_stand, members_end, members-stop, members-again}
use Rattle.reader.specs.BodyLaws.{stands_ready}
use Rattle.format.specs.LeafLaws.{known_below}
use Prim.Native.Nat.{◌+◌, ◌-◌}
use Rattle.reader.proofs.objects.+all_group_object.Goals as goal

pub all-loop-init : goal.all-loop-init
all-loop-init t c =
    let all : c.args.count - 0 ≡ c.args.count = omega arith in
    rw all (members_begin c.args.file.now c.args.version c.args.deep c.args.parent c.args.count c.args.at c.args.first c.args.to c.args.contents.now c.args.bodies.now c.requires)

pub all-object-reached-requires : goal.all-object-reached-requires
all-object-reached-requires t c =
    (omega (arith, c.decreases), members_stand c.args.file.now c.args.version c.args.deep c.args.parent c.args.count c.args.at c.args.first c.args.to c.args.contents.now c.args.bodies.now c.requires c.loop.invariant)

pub all-shape_of-contents-then-reached-ge-REFUSED : goal.all-shape_of-contents-then-reached-ge-REFUSED
all-shape_of-contents-then-reached-ge-REFUSED t c = c.contents-1.given ∙ c.loop.invariant.met.rows_written.same_length

pub all-shape_of-bodies-then-reached-ge-REFUSED : goal.all-shape_of-bodies-then-reached-ge-REFUSED
all-shape_of-bodies-then-reached-ge-REFUSED t c = c.bodies-1.given ∙ c.loop.invariant.met.words-written.same_length

pub all-returns-then-reached-ge-REFUSED : goal.all-returns-then-reached-ge-REFUSED
all-returns-then-reached-ge-REFUSED t c =
    members-stop c.args.file.now c.args.version c.args.deep c.args.parent c.args.count c.args.at c.args.first c.args.to c.args.contents.now c.args.bodies.now c.requires c.loop.invariant (omega (arith, c.loop-test.true)) c.object-reached.ensures c.if-reached-ge-REFUSED.true

pub all-loop-preserved : goal.all-loop-preserved
all-loop-preserved t c =
    let rest : c.args.count - c.loop.counter - 1 ≡ c.args.count - (c.loop.counter + 1) = omega arith in
    rw (← rest) (members-again c.args.file.now c.args.version c.args.deep c.args.parent c.args.count c.args.at c.args.first c.args.to c.args.contents.now c.args.bodies.now c.requires c.loop.invariant (omega (arith, c.loop-test.true)) c.object-reached.ensures (omega (arith, c.if-reached-ge-REFUSED.false)))

pub all-shape_of-contents : goal.all-shape_of-contents
all-shape_of-contents t c = c.loop.invariant.met.rows_written.same_length

pub all-shape_of-bodies : goal.all-shape_of-bodies
all-shape_of-bodies t c = c.loop.invariant.met.words-written.same_length

pub all-returns : goal.all-returns
all-returns t c =
    members_end c.args.file.now c.args.version c.args.deep c.args.parent c.args.count c.args.at c.args.first c.args.to c.args.contents.now c.args.bodies.now c.requires c.loop.invariant (λ h. omega (arith, c.loop-test.false))

pub group-count-counted-requires : goal.group-count-counted-requires
group-count-counted-requires t c = stands_ready c.requires

pub group-returns-then-behind-ge-REFUSED : goal.group-returns-then-behind-ge-REFUSED
group-returns-then-behind-ge-REFUSED t c =
    group_refused c.args.file.now (known_below w8 c.args.file.now c.type_inv.file) c.args.version c.args.deep c.args.parent c.args.at c.args.row c.args.to c.args.contents.now c.args.bodies.now c.requires c.count-counted.ensures c.if-behind-ge-REFUSED.true c.stopped.ensures

pub group-overflow_add-row : goal.group-overflow_add-row
group-overflow_add-row t c = omega (arith, c.requires.short, c.requires.inside, c.requires.few-rows)

pub group-overflow_cast-row : goal.group-overflow_cast-row
group-overflow_cast-row t c = omega (arith, c.requires.short, c.requires.inside, c.requires.few-rows)

pub group-all-inner-requires : goal.group-all-inner-requires
group-all-inner-requires t c =
    (omega (arith, c.decreases), group_members c.args.file.now (known_below w8 c.args.file.now c.type_inv.file) c.args.version c.args.deep c.args.parent c.args.at c.args.row c.args.to c.args.contents.now c.args.bodies.now c.requires c.count-counted.ensures (omega (arith, c.if-behind-ge-REFUSED.false)))

pub group-shape_of-contents-then-inner-ge-REFUSED : goal.group-shape_of-contents-then-inner-ge-REFUSED
group-shape_of-contents-then-inner-ge-REFUSED t c = c.contents-1.given

pub group-shape_of-bodies-then-inner-ge-REFUSED : goal.group-shape_of-bodies-then-inner-ge-REFUSED
group-shape_of-bodies-then-inner-ge-REFUSED t c = c.bodies-1.given

pub group-returns-then-inner-ge-REFUSED : goal.group-returns-then-inner-ge-REFUSED
group-returns-then-inner-ge-REFUSED t c =
    group_stop c.args.file.now (known_below w8 c.args.file.now c.type_inv.file) c.args.version c.args.deep c.args.parent c.args.at c.args.row c.args.to c.args.contents.now c.args.bodies.now c.requires c.count-counted.ensures (omega (arith, c.if-behind-ge-REFUSED.false)) c.all-inner.ensures c.if-inner-ge-REFUSED.true

pub group-own_body-requires : goal.group-own_body-requires
group-own_body-requires t c =
    record { stands = group_tail c.args.file.now (known_below w8 c.args.file.now c.type_inv.file) c.args.version c.args.deep c.args.parent c.args.at c.args.row c.args.to c.args.contents.now c.args.bodies.now c.requires c.count-counted.ensures (omega (arith, c.if-behind-ge-REFUSED.false)) c.all-inner.ensures (omega (arith, c.if-inner-ge-REFUSED.false)); row_le_next = row_before c.args.file.now (known_below w8 c.args.file.now c.type_inv.file) c.args.version c.args.deep c.args.parent c.args.at c.args.row c.args.to c.args.contents.now c.args.bodies.now c.requires c.count-counted.ensures (omega (arith, c.if-behind-ge-REFUSED.false)) c.all-inner.ensures (omega (arith, c.if-inner-ge-REFUSED.false)); members_bound = c.count-counted.ensures.small }

pub group-shape_of-contents : goal.group-shape_of-contents
group-shape_of-contents t c = c.contents-2-1.given ∙ c.contents-1.given

pub group-shape_of-bodies : goal.group-shape_of-bodies
group-shape_of-bodies t c = c.bodies-2-1.given ∙ c.bodies-1.given

pub group-returns : goal.group-returns
group-returns t c =
    group_descends c.args.file.now (known_below w8 c.args.file.now c.type_inv.file) c.args.version c.args.deep c.args.parent c.args.at c.args.row c.args.to c.args.contents.now c.args.bodies.now c.requires c.count-counted.ensures (omega (arith, c.if-behind-ge-REFUSED.false)) c.all-inner.ensures (omega (arith, c.if-inner-ge-REFUSED.false)) c.own_body.ensures

pub object-leaf-requires : goal.object-leaf-requires
object-leaf-requires t c = c.requires

pub object-shape_of-contents-then-deep-eq0 : goal.object-shape_of-contents-then-deep-eq0
object-shape_of-contents-then-deep-eq0 t c = c.contents-1.given

pub object-shape_of-bodies-then-deep-eq0 : goal.object-shape_of-bodies-then-deep-eq0
object-shape_of-bodies-then-deep-eq0 t c = c.bodies-1.given

pub object-returns-then-deep-eq0 : goal.object-returns-then-deep-eq0
object-returns-then-deep-eq0 t c =
    object_as_leaf c.args.file.now (known_below w8 c.args.file.now c.type_inv.file) c.args.version c.args.at c.requires c.args.deep (λ some. absurd (omega (arith, some, c.if-deep-eq0.true))) c.leaf.ensures

pub object-group_here-requires : goal.object-group_here-requires
object-group_here-requires t c = record { at_in_bounds = c.requires.inside; file_len_bound = omega (arith, c.requires.short) }

pub object-overflow_add-at : goal.object-overflow_add-at
object-overflow_add-at t c = let here = c.group_here.ensures.yes c.if-group_here.true in omega (arith, here.0, c.requires.short)

pub object-overflow_sub-deep : goal.object-overflow_sub-deep
object-overflow_sub-deep t c = omega (arith, c.if-deep-eq0.false)

pub object-group-requires : goal.object-group-requires
object-group-requires t c =
    (omega (arith, c.decreases, c.if-deep-eq0.false), behind_id c.requires (c.group_here.ensures.yes c.if-group_here.true).0)

pub object-shape_of-contents-then-group_here : goal.object-shape_of-contents-then-group_here
object-shape_of-contents-then-group_here t c = c.contents-then-group_here-1.given

pub object-shape_of-bodies-then-group_here : goal.object-shape_of-bodies-then-group_here
object-shape_of-bodies-then-group_here t c = c.bodies-then-group_here-1.given

pub object-returns-then-group_here : goal.object-returns-then-group_here
object-returns-then-group_here t c =
    object_as_group c.args.file.now (known_below w8 c.args.file.now c.type_inv.file) c.args.version c.args.at c.requires c.args.deep (omega (arith, c.if-deep-eq0.false)) (c.group_here.ensures.yes c.if-group_here.true) c.group.ensures

pub object-leaf-requires-2 : goal.object-leaf-requires-2
object-leaf-requires-2 t c = c.requires

pub object-shape_of-contents : goal.object-shape_of-contents
object-shape_of-contents t c = c.contents-2-1.given

pub object-shape_of-bodies : goal.object-shape_of-bodies
object-shape_of-bodies t c = c.bodies-2-1.given

pub object-returns : goal.object-returns
object-returns t c =
    object_as_leaf c.args.file.now (known_below w8 c.args.file.now c.type_inv.file) c.args.version c.args.at c.requires c.args.deep (λ some. c.group_here.ensures.no c.if-group_here.false) c.leaf-2.ensures
