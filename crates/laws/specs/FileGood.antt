-- When a drawing is good, by its parts, as a table's head and outer group show them.
use Rattle.std.specs.Prelude.{◌≡◌, refl, true, ◌&&◌, ℕ, ◌+◌, ◌-◌, ◌≤◌, leb}
use Rattle.std.proofs.Common.{ap, arith, leb-true, le-leb, to_z}
use Rattle.std.specs.Int.{w32}
use Rattle.format.specs.Kind.{Allowed}
use Rattle.drawing.specs.Limits.{last_minor, depth_limit}
use Rattle.drawing.specs.Fields.{unless, in_range, integer_in, version_chars, version_zero}
use Rattle.drawing.specs.FieldLaws.{unless-zero, in_range_lem, in_signed, and_both}
use Rattle.drawing.specs.Settings.{settings}
use Rattle.drawing.specs.ObjectLayout.{object, group_body}
use Rattle.drawing.specs.Drawing.{Drawing, file}

pub minor_small : (v : ℕ) → Allowed (integer_in 0 last_minor) v → v ≤ last_minor
minor_small v a = (in_range_lem w32 0 last_minor v (unless-zero (in_range 0 last_minor (to_z w32 v)) 6 tt a.faultless)).1

-- The minor version number of a table, and the version's chars of a file.
minor_chars : (v : ℕ) → Allowed (integer_in 0 last_minor) v → Allowed version_chars (version_zero + v)
minor_chars v a =
    let h = minor_small v a in
    let low : leb version_zero (version_zero + v) ≡ true = le-leb version_zero (version_zero + v) (omega arith) in
    let high : leb (version_zero + v) (version_zero + last_minor) ≡ true = le-leb (version_zero + v) (version_zero + last_minor) (omega arith) in
    record { fits = omega arith; faultless = rw (low, high) }

chars_minor : (v : ℕ) → Allowed version_chars (version_zero + v) → Allowed (integer_in 0 last_minor) v
chars_minor v a =
    let b = and_both (leb version_zero (version_zero + v)) (leb (version_zero + v) (version_zero + last_minor)) (unless-zero (leb version_zero (version_zero + v) && leb (version_zero + v) (version_zero + last_minor)) 4 tt a.faultless) in
    let h = leb-true (version_zero + v) (version_zero + last_minor) b.1 in
    record { fits = omega arith; faultless = ap (λ t. unless t 6) (in_signed w32 0 last_minor v (omega arith) (omega arith) (omega arith)) }

back-again : (v : ℕ) → version_zero + v - version_zero ≡ v
back-again v = omega arith

-- The parts of a good drawing.
pub record Parts (d : Drawing) : Type 0 where
  pub version : Allowed (integer_in 0 last_minor) d.version
  pub settings : (settings d.version).Good d.settings
  pub outer : (group_body d.version (object d.version (depth_limit - 1))).Good (d.members, d.description)

pub file-parts : (d : Drawing) → file.Good d → Parts d
file-parts d g =
    let inner = g.1.1.1 in
    record { version = chars_minor d.version inner.0.1; settings = inner.1.0; outer = inner.1.1.1 }

pub parts-file : (d : Drawing) → Parts d → file.Good d
parts-file d g = (
  record { fits = omega arith; faultless = refl },
  (
    record { fits = omega arith; faultless = refl },
    (
      refl,
      (
        (back-again d.version, minor_chars d.version g.version),
        (g.settings, (record { fits = omega arith; faultless = refl }, g.outer)),
      ),
    ),
  ),
)
