-- The settings that may stand in the head, and the paper (01, 'Head').
use Rattle.std.specs.Prelude.{refl, true, cond, ℕ, [], ◌∷◌, leb, ltb, eqb}
use Rattle.std.proofs.Math.Option.{Option, none, some}
use Rattle.format.specs.Layout.{Layout, field, nothing, either, when, renamed, ◌&◌, ◌▸◌}
use Rattle.format.specs.Alternative.{Alternative}
use Rattle.format.specs.Choice.{one_of, alternative}
use Rattle.drawing.specs.Limits.{v1_3}
use Rattle.drawing.specs.Fields.{flag, byte_in, integer, integer_in, double}
use Rattle.drawing.specs.SettingsLaws.{one_of_two, one_of_three}

pub record Paper : Type 0 where
  pub size : ℕ
  -- the bits of doubles, 0 unless the size is 18 (user defined)
  pub width : ℕ
  pub height : ℕ
  -- a flag below 1.3 at size 18; 0 elsewhere
  pub portrait : ℕ

pub record AllSettings : Type 0 where
  pub grid : ℕ
  pub lock : ℕ
  pub rulers : ℕ
  pub tool : ℕ
  pub normal_size : ℕ
  pub paper : Paper
  pub unit : ℕ
  pub major : ℕ
  pub minor : ℕ

pub data Settings : Type 0 where
  absent : Settings
  all : AllSettings → Settings
  paper_only : Paper → Settings

abbrev pub settings_number : Settings → ℕ
settings_number absent = 0
settings_number (all s) = 1
settings_number (paper_only p) = 2

abbrev pub all_of : Settings → Option AllSettings
all_of absent = none
all_of (all s) = some s
all_of (paper_only p) = none

abbrev pub paper_of : Settings → Option Paper
paper_of absent = none
paper_of (all s) = none
paper_of (paper_only p) = some p

-- ---- the layout

abbrev pub paper : ℕ → Layout Paper
paper v =
    renamed
    (field (byte_in 0 (cond (leb v1_3 v) 72 18))
    ▸ λ size. when (eqb size 18) (field double & field double & when (ltb v v1_3) (field flag) 0) (0, (0, 0)))
    (λ (size, (width, (height, portrait))). record { size = size; width = width; height = height; portrait = portrait })
    (λ p. (p.size, (p.width, (p.height, p.portrait))))
    (λ t good. refl)

abbrev pub all_settings : ℕ → Layout AllSettings
all_settings v =
    renamed
    (field flag & field flag & field flag & field (integer_in 0 7) & field integer & paper v & field (byte_in 0 3) & field integer & field integer)
    (λ (grid, (lock, (rulers, (tool, (normal_size, (paper, (unit, (major, minor)))))))).
    record { grid = grid; lock = lock; rulers = rulers; tool = tool; normal_size = normal_size; paper = paper; unit = unit; major = major; minor = minor })
    (λ s. (s.grid, (s.lock, (s.rulers, (s.tool, (s.normal_size, (s.paper, (s.unit, (s.major, s.minor)))))))))
    (λ t good. refl)

abbrev pub absent_case : Alternative Settings settings_number
absent_case = alternative 0 true (nothing {A = Unit {0}} tt) (λ u. absent) (λ s. some tt) (λ u. refl) (λ u. refl)

abbrev pub all_case : ℕ → Alternative Settings settings_number
all_case v = alternative 1 true (all_settings v) all all_of (λ s. refl) (λ s. refl)

abbrev pub paper_case : ℕ → Alternative Settings settings_number
paper_case v = alternative 2 true (paper v) paper_only paper_of (λ p. refl) (λ p. refl)

-- Below 1.3 a flag tells which settings there are, from 1.3 on a byte.
abbrev pub settings : ℕ → Layout Settings
settings v =
    either (leb v1_3 v)
    (one_of (byte_in 0 2) absent_case (all_case v ∷ paper_case v ∷ []) one_of_three)
    (one_of flag absent_case (all_case v ∷ []) one_of_two)
