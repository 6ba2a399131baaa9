-- A transformation: six doubles that are read as one, and put one behind another.
use Rattle.std.specs.Prelude.{◌≡◌, refl, ℕ, zero, suc, ◌+◌, ◌*◌, ◌^◌, ◌<◌, ◌≤◌, List, [], ◌∷◌, length, drop, get_or}
use Rattle.std.proofs.Common.{sym, ap, ap₂, ◌∙◌, add-one, arith, drop_of_length-le, drop-cons}
use Rattle.std.proofs.Math.Nat as Nat
use Rattle.format.specs.Digits.{digits, Below}
use Rattle.format.specs.LeafLaws.{field_below}
use Rattle.format.specs.Pass.{put}
use Rattle.format.specs.RunLaws.{values_at, put_many}
use Rattle.drawing.specs.Fields as F
use Rattle.drawing.specs.Text.{transformation}
use Rattle.ways.specs.declared.Pass.{Pass}
use Rattle.ways.specs.Way.{Way, source_units, target_units, value_at}
use Rattle.ways.specs.Passes.{Ready, stepped}
use Rattle.ways.specs.Carries.{Laid}
use Rattle.ways.specs.Runs.{copied, Runs}
use Rattle.ways.specs.Moves.{Moved, AllAllowed, moved_laid}
use Rattle.ways.specs.LayoutLaws.{valued-laid}

-- So many doubles of the source, one behind another.
abbrev pub doubles_at : Way → (count : ℕ) → List ℕ → (at : ℕ) → List ℕ
doubles_at W count us at = values_at W.source.base (source_units W 8) us count at

-- Doubles put into the target, one behind another.
abbrev pub put_doubles : Way → List ℕ → (to : ℕ) → List ℕ → List ℕ
put_doubles W [] to m = m
put_doubles W (v ∷ vs) to m = put_doubles W vs (to + target_units W 8) (put to (digits W.target.base (target_units W 8) v) m)

-- ---- reading and putting

pub six-doubles : (W : Way) (us : List ℕ) (at : ℕ) {units a b c d e f : ℕ} → units ≡ source_units W 8
    → a ≡ value_at W 8 us at
    → b ≡ value_at W 8 us (at + units)
    → c ≡ value_at W 8 us (at + 2 * units)
    → d ≡ value_at W 8 us (at + 3 * units)
    → e ≡ value_at W 8 us (at + 4 * units)
    → f ≡ value_at W 8 us (at + 5 * units)
    → (a ∷ b ∷ c ∷ d ∷ e ∷ f ∷ []) ≡ doubles_at W 6 us at
six-doubles W us at units-is first second third fourth fifth sixth =
    let w = source_units W 8 in
    let two : at + 2 * w ≡ at + w + w = omega arith in
    let three : at + 3 * w ≡ at + w + w + w = omega arith in
    let four : at + 4 * w ≡ at + w + w + w + w = omega arith in
    let five : at + 5 * w ≡ at + w + w + w + w + w = omega arith in
    rw (first, second, third, fourth, fifth, sixth, units-is, two, three, four, five)

module _ (W : Way) (t : List ℕ) (i to : ℕ) (m : List ℕ) where
  pub one-put : {units : ℕ} {m' : List ℕ} → i < length t → units ≡ target_units W 8 → m' ≡ put to (digits W.target.base (target_units W 8) (get_or t i 0)) m
      → put_doubles W (drop i t) to m ≡ put_doubles W (drop (i + 1) t) (to + units) m'
  one-put more units-is m-is =
      ap (λ l. put_doubles W l to m) (drop-cons t i 0 more)
      ∙ ap (λ n. put_doubles W (drop n t) (to + target_units W 8) (put to (digits W.target.base (target_units W 8) (get_or t i 0)) m)) (sym (add-one i))
      ∙ ap₂ (λ n l. put_doubles W (drop (i + 1) t) (to + n) l) (sym units-is) (sym m-is)

  -- All of them are put.
  pub all-put : length t ≤ i → put_doubles W (drop i t) to m ≡ m
  all-put done = ap (λ l. put_doubles W l to m) (drop_of_length-le t done)

-- ---- what they come to

-- A run of doubles is put as the doubles that stand there are.
run-of-doubles : (W : Way) (us : List ℕ) (n at to : ℕ) (m : List ℕ) → copied W 8 n us at to m ≡ put_doubles W (doubles_at W n us at) to m
unfolding put_many
run-of-doubles W us zero at to m = refl
run-of-doubles W us (suc n) at to m = run-of-doubles W us n (at + source_units W 8) (to + target_units W 8) (put to (digits W.target.base (target_units W 8) (value_at W 8 us at)) m)

pub doubles_moved : (W : Way) {us m m' six : List ℕ} {at to : ℕ} {r : Pass} → six ≡ doubles_at W 6 us at → m' ≡ put_doubles W six to m → r ≡ stepped W 8 6 at to → Moved W 8 6 us m m' at to r
doubles_moved W {us} {m} {at = at} {to} six-is memory is =
    record { is = is; memory-is = memory ∙ ap (λ ds. put_doubles W ds to m) six-is ∙ sym (run-of-doubles W us 6 at to m) }

-- Any double is allowed.
pub doubles_allowed : {W : Way} {us : List ℕ} (count at : ℕ) → W.source.base ^ source_units W 8 ≤ 256 ^ 8 → Below W.source.base us → at + count * source_units W 8 ≤ length us → AllAllowed W F.double 8 count us at
doubles_allowed {W} {us} count at holds below inside =
    record {
      each = λ i less.
          let w = source_units W 8 in
          let more : suc i * w ≤ count * w = Nat.mul-le-mul_right w less in
          let small = field_below W.source.base us (at + i * w) w (omega arith) below in
          record { fits = omega arith; faultless = refl };
    }

-- Six that are moved are a transformation.
pub transformation_moved : {W : Way} {us m m' : List ℕ} {at to : ℕ} {r : Pass} → W.source.base ^ source_units W 8 ≤ 256 ^ 8 → Below W.source.base us → Ready (length us) at to → at + 6 * source_units W 8 ≤ length us → Moved W 8 6 us m m' at to r
    → Laid transformation.format W us m m' at to r.at r.to
transformation_moved {at = at} holds below ready inside moved = moved_laid F.double refl (omega arith) (omega arith) ready inside (doubles_allowed 6 at holds below inside) moved

pub transformation-run : {W : Way} {us m m' : List ℕ} {at to : ℕ} {r : Pass} → Runs W 8 6 us m m' at to r → Laid transformation.format W us m m' at to r.at r.to
transformation-run runs = valued-laid (runs.values F.double (record { sized = refl; all = refl; faultless = λ v. refl }))
