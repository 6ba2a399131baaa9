-- `all`, `group` and `object` of `table_walk::objects`, which call one another, meet their contracts: the depth left falls at each group.
use lib.ListN.{get_or}
use mathlib.Core.Path.{◌≡◌, refl, sym, ap, subst, ◌∙◌}
use lib.ListN.{length}
use native.Mathlib.Omega.{arith}
use borrow.Author.Tests.{leb-true, leb-false}
use Rattle.walks.specs.Walks.{Counted}
use Rattle.walks.specs.WalkingLaws.{walks-lost}
use Rattle.walks.specs.MemberWalkLaws.{members_begin, members-lost, members-again, members_end}
use Rattle.walks.specs.GroupWalkLaws.{group_uncounted, group_members-lost, group_walks}
use Rattle.walks.specs.ObjectWalkLaws.{object-short, object_leaf, object_group}
use Prim.Native.Nat.{◌+◌, ◌-◌, ◌*◌}
use Rattle.table_walk.proofs.objects.+all_group_object.Goals as goal

pub all-loop-init : goal.all-loop-init
all-loop-init g t c =
    let all : c.args.count - 0 ≡ c.args.count = omega arith in
    rw all (members_begin c.args.version c.args.deep c.args.parent c.args.count (g.C.Cell.cells c.args.contents.now) (g.W.Way.units c.args.words.now) c.args.out.now c.args.at c.args.to c.args.first c.requires)

pub all-returns-then-reached-ge-REFUSED : goal.all-returns-then-reached-ge-REFUSED
all-returns-then-reached-ge-REFUSED g t c =
    members-lost c.args.version c.args.deep c.args.parent c.args.count (g.C.Cell.cells c.args.contents.now) (g.W.Way.units c.args.words.now) c.args.out.now c.args.at c.args.to c.args.first c.loop.invariant (omega (arith, c.loop-test.true)) c.object-reached.ensures c.if-reached-ge-REFUSED.true

pub all-loop-preserved : goal.all-loop-preserved
all-loop-preserved g t c =
    let rest : c.args.count - c.loop.counter - 1 ≡ c.args.count - (c.loop.counter + 1) = omega arith in
    rw (← rest) (members-again c.args.version c.args.deep c.args.parent c.args.count (g.C.Cell.cells c.args.contents.now) (g.W.Way.units c.args.words.now) c.args.out.now c.args.at c.args.to c.args.first c.loop.invariant (omega (arith, c.loop-test.true)) c.object-reached.ensures (omega (arith, c.if-reached-ge-REFUSED.false)))

pub all-returns : goal.all-returns
all-returns g t c =
    members_end c.args.version c.args.deep c.args.parent c.args.count (g.C.Cell.cells c.args.contents.now) (g.W.Way.units c.args.words.now) c.args.out.now c.args.at c.args.to c.args.first c.loop.invariant (λ more. omega (arith, more, c.loop-test.false))

pub group-returns-then-inner-ge-REFUSED : goal.group-returns-then-inner-ge-REFUSED
group-returns-then-inner-ge-REFUSED g t c =
    walks-lost (group_members-lost c.args.version c.args.deep c.args.parent (g.C.Cell.cells c.args.contents.now) (g.W.Way.units c.args.words.now) c.args.row c.args.at c.requires.row_width_in_bounds c.are_words.ensures (c.word_in-count.ensures ∙ ap (λ i. get_or (g.W.Way.units c.args.words.now) i 0) c.start_in-start.ensures) c.all-inner.ensures c.if-inner-ge-REFUSED.true) c.if-inner-ge-REFUSED.true (c.out-then-has_count-1.given ∙ c.out-1.given)

pub group-returns-then-has_count : goal.group-returns-then-has_count
group-returns-then-has_count g t c =
    group_walks c.args.version c.args.deep c.args.parent (g.C.Cell.cells c.args.contents.now) (g.W.Way.units c.args.words.now) c.args.row c.args.at c.requires.row_width_in_bounds c.are_words.ensures (c.word_in-count.ensures ∙ ap (λ i. get_or (g.W.Way.units c.args.words.now) i 0) c.start_in-start.ensures) c.all-inner.ensures (omega (arith, c.if-inner-ge-REFUSED.false)) refl c.put_opening.ensures c.own_body.ensures

pub group-returns : goal.group-returns
group-returns g t c =
    walks-lost (group_uncounted c.args.version c.args.deep c.args.parent (g.C.Cell.cells c.args.contents.now) (g.W.Way.units c.args.words.now) c.args.row c.args.at c.requires.row_width_in_bounds c.are_words.ensures (λ counted. c.has_count.ensures.no c.if-has_count.false (subst (Counted (g.W.Way.units c.args.words.now)) (sym c.start_in-start.ensures) counted))) c.no_table.ensures refl

pub object-returns-then-deep-eq0 : goal.object-returns-then-deep-eq0
object-returns-then-deep-eq0 g t c =
    object_leaf (g.C.Cell.cells c.args.contents.now) (g.W.Way.units c.args.words.now) c.args.version c.args.parent c.args.row c.args.at (leb-true (4 * c.args.row + 4) (length (g.C.Cell.cells c.args.contents.now)) (sym c.has_row.ensures ∙ c.if-has_row.true)) c.args.deep (λ some. absurd (omega (arith, some, c.if-deep-eq0.true))) c.leaf.ensures

pub object-returns-then-kind_in-eq-GROUP_KIND : goal.object-returns-then-kind_in-eq-GROUP_KIND
object-returns-then-kind_in-eq-GROUP_KIND g t c =
    object_group (g.C.Cell.cells c.args.contents.now) (g.W.Way.units c.args.words.now) c.args.version c.args.parent c.args.row c.args.at (leb-true (4 * c.args.row + 4) (length (g.C.Cell.cells c.args.contents.now)) (sym c.has_row.ensures ∙ c.if-has_row.true)) c.args.deep (omega (arith, c.if-deep-eq0.false)) (sym c.kind_in.ensures ∙ c.if-kind_in-eq-GROUP_KIND.true) c.group.ensures

pub object-returns-then-has_row : goal.object-returns-then-has_row
object-returns-then-has_row g t c =
    object_leaf (g.C.Cell.cells c.args.contents.now) (g.W.Way.units c.args.words.now) c.args.version c.args.parent c.args.row c.args.at (leb-true (4 * c.args.row + 4) (length (g.C.Cell.cells c.args.contents.now)) (sym c.has_row.ensures ∙ c.if-has_row.true)) c.args.deep (λ some is. c.if-kind_in-eq-GROUP_KIND.false (c.kind_in.ensures ∙ is)) c.leaf-then-has_row.ensures

pub object-returns : goal.object-returns
object-returns g t c =
    walks-lost (object-short (g.C.Cell.cells c.args.contents.now) (g.W.Way.units c.args.words.now) c.args.version c.args.parent c.args.row c.args.at c.args.deep (leb-false (4 * c.args.row + 4) (length (g.C.Cell.cells c.args.contents.now)) (sym c.has_row.ensures ∙ c.if-has_row.false))) c.no_table.ensures refl
