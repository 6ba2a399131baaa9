use Rattle.ways.specs.LayoutLaws.{laid, told, both, then, else, nothing-laid}
use Rattle.ways.specs.SegmentLaws.{run-point}
use Rattle.format.specs.Kind as K
use borrow.Author.Tests.{lt-ltb, le-ltb, le-leb, lt-leb}
use native.Mathlib.Omega.{arith}
use mathlib.Core.Path.{refl}
use Rattle.layout_objects.proofs.path.counted_segments.Goals as goal

pub joined_segments-requires : goal.joined_segments-requires
joined_segments-requires g c =
    let counted = c.count-told.ensures.asks K.integer refl refl in
    counted.ready

pub returns-then-version-lt-V1_3 : goal.returns-then-version-lt-V1_3
returns-then-version-lt-V1_3 g c =
    let counted = c.count-told.ensures.asks K.integer refl refl in
    laid (told counted (laid (both (laid (else (lt-leb 3 c.args.version c.if-version-lt-V1_3.true) (nothing-laid counted.ready))) (record { carried = rw (lt-ltb c.args.version 3 c.if-version-lt-V1_3.true) c.joined_segments.ensures.carried }))))

pub run-start-requires : goal.run-start-requires
run-start-requires g c =
    let counted = c.count-told.ensures.asks K.integer refl refl in
    record { begins = counted.ready; size_value = (refl, omega arith) }

pub segments-requires : goal.segments-requires
segments-requires g c = (run-point c.run-start.ensures).carried.ready

pub returns : goal.returns
returns g c =
    let counted = c.count-told.ensures.asks K.integer refl refl in
    laid (told counted (laid (both (laid (then (le-leb 3 c.args.version c.if-version-lt-V1_3.false) (run-point c.run-start.ensures))) (record { carried = rw (le-ltb c.args.version 3 c.if-version-lt-V1_3.false) c.segments.ensures.carried }))))
