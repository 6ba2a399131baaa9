-- A text's face, that is shape, series, size and transformation: a group.
use Rattle.std.specs.Prelude.{◌≡◌, refl, ℕ, ◌+◌, ◌*◌, ◌^◌, ◌<◌, ◌≤◌, List, [], ◌∷◌, length}
use Rattle.std.proofs.Common.{ap, subst, arith}
use Rattle.format.specs.Digits.{Below}
use Rattle.format.specs.Kind.{Kind, Allowed}
use Rattle.format.specs.Layout.{Layout, field, ◌&◌}
use Rattle.drawing.specs.Fields as F
use Rattle.drawing.specs.Text.{transformation}
use Rattle.ways.specs.declared.Pass.{Pass}
use Rattle.ways.specs.Way.{Way, source_units, value_at}
use Rattle.ways.specs.Passes.{Ready}
use Rattle.ways.specs.Carries.{Laid}
use Rattle.ways.specs.Moves.{Moved, moved_ready}
use Rattle.ways.specs.NowhereLaws.{units_of, sizes_of, AllGood, Moves, one_allowed, moves_laid}
use Rattle.ways.specs.TransformationLaws.{doubles_allowed}

abbrev pub face : Layout (ℕ × (ℕ × (ℕ × List ℕ)))
face = field (F.byte_in 0 1) & field (F.byte_in 0 1) & field F.font_size & transformation

-- Its values are allowed; of the transformation any is.
pub record FaceGood (W : Way) (us : List ℕ) (at : ℕ) : Type 0 where
  pub shape : Allowed (F.byte_in 0 1) (value_at W 1 us at)
  pub series : Allowed (F.byte_in 0 1) (value_at W 1 us (at + source_units W 1))
  pub size : Allowed F.font_size (value_at W 4 us (at + (source_units W 1 + source_units W 1)))

abbrev face_kinds : List (Kind × ℕ)
face_kinds = (F.byte_in 0 1, 1) ∷ (F.byte_in 0 1, 1) ∷ (F.font_size, 1) ∷ (F.double, 6) ∷ []

-- The sizes of its fields, with how many there are of each.
abbrev pub face_sizes : List (ℕ × ℕ)
face_sizes = sizes_of face_kinds

-- ---- where its parts stand, when those before them were moved

-- So many units behind.
pub record Stands (units : ℕ) (us : List ℕ) (at : ℕ) (q : Pass) : Type 0 where
  pub ready : Ready (length us) q.at q.to
  pub place : q.at ≡ at + units

next_stands : {W : Way} (size : ℕ) {us m m' : List ℕ} {at to : ℕ} {q : Pass} → Ready (length us) at to → at + source_units W size ≤ length us → 0 < size → size ≤ 8 → Moved W size 1 us m m' at to q → Stands (source_units W size) us at q
next_stands {W} size {us} {at = at} {q = q} ready inside least most moved =
    let once : at + 1 * source_units W size ≤ length us = omega arith in
    let place : q.at ≡ at + 1 * source_units W size = ap (λ (q : Pass). q.at) moved.is in
    record { ready = moved_ready size 1 ready once least most moved; place = omega arith }

module _ {W : Way} {us m m₁ : List ℕ} {at to : ℕ} {q₁ : Pass} (ready : Ready (length us) at to) (inside : at + units_of W.source face_sizes ≤ length us) (shape : Moved W 1 1 us m m₁ at to q₁) where
  pub series_stands : Stands (source_units W 1) us at q₁
  series_stands = next_stands 1 ready (omega arith) (omega arith) (omega arith) shape

  module _ {m₂ : List ℕ} {q₂ : Pass} (series : Moved W 1 1 us m₁ m₂ q₁.at q₁.to q₂) where
    pub size_stands : Stands (source_units W 1 + source_units W 1) us at q₂
    size_stands =
        let at₁ = series_stands.place in
        let next = next_stands 1 series_stands.ready (omega (arith, at₁)) (omega arith) (omega arith) series in
        record { ready = next.ready; place = omega (arith, at₁, next.place) }

    pub transformation_stands : {m₃ : List ℕ} {q₃ : Pass} → Moved W 4 1 us m₂ m₃ q₂.at q₂.to q₃ → Stands (source_units W 1 + source_units W 1 + source_units W 4) us at q₃
    transformation_stands size =
        let at₂ = size_stands.place in
        let next = next_stands 4 size_stands.ready (omega (arith, at₂)) (omega arith) (omega arith) size in
        record { ready = next.ready; place = omega (arith, at₂, next.place) }

-- ---- what it comes to

module _ {W : Way} {us : List ℕ} {at : ℕ} (holds : W.source.base ^ source_units W 8 ≤ 256 ^ 8) (below : Below W.source.base us) (inside : at + units_of W.source face_sizes ≤ length us) (good : FaceGood W us at) where
  all_good : AllGood W face_kinds us at
  all_good =
      let w = source_units W 1 in
      let at₁ : at + w ≡ at + 1 * w = omega arith in
      let at₂ : at + (w + w) ≡ at + 1 * w + 1 * w = omega arith in
      (one_allowed good.shape, (one_allowed (subst (λ a. Allowed (F.byte_in 0 1) (value_at W 1 us a)) at₁ good.series), (one_allowed (subst (λ a. Allowed F.font_size (value_at W 4 us a)) at₂ good.size), (doubles_allowed 6 (at + 1 * w + 1 * w + 1 * source_units W 4) holds below (omega arith), tt))))

  pub face-laid : {m m' : List ℕ} {to : ℕ} {r : Pass} → Ready (length us) at to → Moves W face_sizes us m m' at to r → Laid face.format W us m m' at to r.at r.to
  face-laid ready moves = moves_laid face_kinds (λ K. refl) refl ready inside all_good moves
