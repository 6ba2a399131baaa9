-- Groups of fields that are known to be there and allowed: so many of one size, then so many of another. They are moved one behind the other or, where
-- there is no memory, passed in one step. Both come to what the fields come to.
use Rattle.std.specs.Prelude.{◌≡◌, refl, Bool, true, ◌&&◌, ℕ, ◌+◌, ◌*◌, ◌^◌, ◌<◌, ◌≤◌, List, [], ◌∷◌, ◌++◌, leb, length}
use Rattle.std.proofs.Common.{ap, ap₂, ◌∙◌, arith, leb-true}
use Rattle.format.specs.Digits.{Below}
use Rattle.format.specs.Kind.{Kind, Allowed}
use Rattle.format.specs.Kind as Kinds
use Rattle.format.specs.Script.{Script}
use Rattle.format.specs.Format.{Format, script}
use Rattle.format.specs.Layout.{field, repeat}
use Rattle.format.specs.Pass.{◌⟫◌}
use Rattle.format.specs.RunLaws.{length-many}
use Rattle.drawing.specs.FieldLaws.{and_both}
use Rattle.ways.specs.declared.Pass.{Pass}
use Rattle.ways.specs.Way.{Way, Units, width_of, source_units, target_units, value_at}
use Rattle.ways.specs.Passes.{Ready, behind, stepped, ahead_of, stepped_ready}
use Rattle.ways.specs.Carries.{Carried, Laid}
use Rattle.ways.specs.Runs.{copied}
use Rattle.ways.specs.Moves.{Moved, AllAllowed, Led, copied-both, nowhere, moved_laid, led}

-- ---- sizes

-- The units of a group, which is a list of sizes with how many fields there are of each.
abbrev pub units_of : Units → List (ℕ × ℕ) → ℕ
units_of U [] = 0
units_of U ((size, count) ∷ rest) = count * width_of U size + units_of U rest

-- No field is too large for a number.
abbrev pub are_fields : List (ℕ × ℕ) → Bool
are_fields [] = true
are_fields ((size, count) ∷ rest) = leb 1 size && leb size 8 && are_fields rest

-- A group has so many bytes in a file and words in a table.
pub record Grouped (W : Way) (bytes words : ℕ) (group : List (ℕ × ℕ)) : Type 0 where
  pub source : W.source.pick bytes words ≡ units_of W.source group
  pub target : W.target.pick bytes words ≡ units_of W.target group
  pub sized : are_fields group ≡ true

-- The fields of a group, put one behind the other where they fit.
abbrev pub copied_all : Way → List (ℕ × ℕ) → (us : List ℕ) → (at to : ℕ) → List ℕ → List ℕ
copied_all W [] us at to m = m
copied_all W ((size, count) ∷ rest) us at to m =
    copied_all W rest us (at + count * source_units W size) (to + count * target_units W size) (copied W size count us at to m)

-- A group was moved.
pub record Moves (W : Way) (group : List (ℕ × ℕ)) (us m m' : List ℕ) (at to : ℕ) (r : Pass) : Type 0 where
  pub is : r ≡ record { at = at + units_of W.source group; to = to + units_of W.target group }
  pub memory-is : m' ≡ copied_all W group us at to m

-- ---- how far they are moved

sized-here : (size count : ℕ) (rest : List (ℕ × ℕ)) → are_fields ((size, count) ∷ rest) ≡ true → (0 < size) × (size ≤ 8) × (are_fields rest ≡ true)
sized-here size count rest sized =
    let each = and_both (leb 1 size && leb size 8) (are_fields rest) sized in
    let here = and_both (leb 1 size) (leb size 8) each.0 in
    (leb-true 1 size here.0, leb-true size 8 here.1, each.1)

-- The places behind a group.
pub group_ready : (W : Way) (group : List (ℕ × ℕ)) {total at to : ℕ} → are_fields group ≡ true → Ready total at to → at + units_of W.source group ≤ total → Ready total (at + units_of W.source group) (to + units_of W.target group)
group_ready W [] {total} {at} {to} sized ready inside = let none : (n : ℕ) → n + 0 ≡ n = λ n. omega arith in rw (none at, none to) ready
group_ready W ((size, count) ∷ rest) {total} {at} {to} sized ready inside =
    let here = sized-here size count rest sized in
    let sum : (a b n : ℕ) → a + (b + n) ≡ a + b + n = λ a b n. omega arith in
    let first : Ready total (at + count * source_units W size) (to + count * target_units W size) = stepped_ready W size count ready (omega arith) here.0 here.1 in
    rw (sum at (count * source_units W size) (units_of W.source rest), sum to (count * target_units W size) (units_of W.target rest))
    (group_ready W rest here.2 first (omega arith))

-- What one step over a group needs.
pub ahead_small : {W : Way} {bytes words : ℕ} {group : List (ℕ × ℕ)} {total at to : ℕ} → Grouped W bytes words group → Ready total at to → at + W.source.pick bytes words ≤ total
    → (at + W.source.pick bytes words < 2 ^ 60) × (to + W.target.pick bytes words < 2 ^ 60)
ahead_small {W} {group = group} {total} {at} {to} grouped ready inside =
    let short = ready.short in
    let far : at + units_of W.source group ≤ total = omega (arith, grouped.source) in
    let after = group_ready W group {at = at} {to = to} grouped.sized ready far in
    let few = after.few (omega arith) in
    (omega arith, omega (arith, grouped.source, grouped.target))

-- ---- what they are moved to

length-all : (W : Way) (group : List (ℕ × ℕ)) (us : List ℕ) (at to : ℕ) (m : List ℕ) → length (copied_all W group us at to m) ≡ length m
length-all W [] us at to m = refl
length-all W ((size, count) ∷ rest) us at to m =
    length-all W rest us (at + count * source_units W size) (to + count * target_units W size) (copied W size count us at to m)
    ∙ length-many W.source.base (source_units W size) W.target.base (target_units W size) us count at to m

module _ {W : Way} {us m : List ℕ} {at to : ℕ} where
  -- Where there is no memory, one step is enough.
  pub moves_nowhere : {bytes words : ℕ} {group : List (ℕ × ℕ)} {r : Pass} → Grouped W bytes words group → length m ≡ 0 → r ≡ ahead_of W bytes words at to → Moves W group us m m at to r
  moves_nowhere {group = group} grouped none is =
      record {
        is = is ∙ ap₂ (λ a b. record { at = at + a; to = to + b }) grouped.source grouped.target;
        memory-is = nowhere m (copied_all W group us at to m) none (length-all W group us at to m);
      }

  -- The last fields of a group.
  pub moves_last : {size count : ℕ} {m' : List ℕ} {r : Pass} → Moved W size count us m m' at to r → Moves W ((size, count) ∷ []) us m m' at to r
  moves_last {size} {count} moved =
      let none : (n : ℕ) → n ≡ n + 0 = λ n. omega arith in
      record {
        is = moved.is ∙ ap₂ (λ a b. record { at = at + a; to = to + b }) (none (count * source_units W size)) (none (count * target_units W size));
        memory-is = moved.memory-is;
      }

  -- Some fields, and then the rest of a group.
  pub moves_on : {size count : ℕ} {rest : List (ℕ × ℕ)} {q r : Pass} {m' m'' : List ℕ} → Moved W size count us m m' at to q → Moves W rest us m' m'' q.at q.to r → Moves W ((size, count) ∷ rest) us m m'' at to r
  moves_on {size} {count} {rest} {q} {r} {m'} {m''} first more =
      let w = count * source_units W size in
      let u = count * target_units W size in
      let at-is : q.at ≡ at + w = ap (λ (q : Pass). q.at) first.is in
      let to_is : q.to ≡ to + u = ap (λ (q : Pass). q.to) first.is in
      let sum : (a b n : ℕ) → a + b + n ≡ a + (b + n) = λ a b n. omega arith in
      record {
        is =
            more.is
            ∙ ap₂ (λ a b. record { at = a + units_of W.source rest; to = b + units_of W.target rest }) at-is to_is
            ∙ ap₂ (λ a b. record { at = a; to = b }) (sum at w (units_of W.source rest)) (sum to u (units_of W.target rest));
        memory-is = more.memory-is ∙ ap₂ (λ a b. copied_all W rest us a b m') at-is to_is ∙ ap (copied_all W rest us (at + w) (to + u)) first.memory-is;
      }

-- A group is its first fields, and then the rest.
rest_moves : (W : Way) (size count : ℕ) (rest : List (ℕ × ℕ)) {us m m' : List ℕ} {at to : ℕ} {r : Pass} → Moves W ((size, count) ∷ rest) us m m' at to r
    → Moves W rest us (copied W size count us at to m) m' (at + count * source_units W size) (to + count * target_units W size) r
rest_moves W size count rest {at = at} {to} moves =
    let sum : (a b n : ℕ) → a + (b + n) ≡ a + b + n = λ a b n. omega arith in
    record {
      is = moves.is ∙ ap₂ (λ a b. record { at = a; to = b }) (sum at (count * source_units W size) (units_of W.source rest)) (sum to (count * target_units W size) (units_of W.target rest));
      memory-is = moves.memory-is;
    }

-- Fields of one size may be told apart.
module _ (W : Way) (size i j : ℕ) (rest : List (ℕ × ℕ)) where
  units_apart : (U : Units) (first : List (ℕ × ℕ)) → units_of U (first ++ ((size, i + j) ∷ rest)) ≡ units_of U (first ++ ((size, i) ∷ (size, j) ∷ rest))
  units_apart U [] = let w = width_of U size in let n = units_of U rest in let sum : (i + j) * w + n ≡ i * w + (j * w + n) = omega arith in sum
  units_apart U ((other, count) ∷ more) = ap (λ n. count * width_of U other + n) (units_apart U more)

  copied_apart : (first : List (ℕ × ℕ)) (us : List ℕ) (at to : ℕ) (m : List ℕ) → copied_all W (first ++ ((size, i + j) ∷ rest)) us at to m ≡ copied_all W (first ++ ((size, i) ∷ (size, j) ∷ rest)) us at to m
  copied_apart [] us at to m =
      let w = source_units W size in
      let u = target_units W size in
      let a : at + (i + j) * w ≡ at + i * w + j * w = omega arith in
      let b : to + (i + j) * u ≡ to + i * u + j * u = omega arith in
      ap₂ (λ a b. copied_all W rest us a b (copied W size (i + j) us at to m)) a b ∙ ap (copied_all W rest us (at + i * w + j * w) (to + i * u + j * u)) (copied-both W size us i j at to m)
  copied_apart ((other, count) ∷ more) us at to m = copied_apart more us (at + count * source_units W other) (to + count * target_units W other) (copied W other count us at to m)

  pub moves_apart : (first : List (ℕ × ℕ)) {us m m' : List ℕ} {at to : ℕ} {r : Pass} → Moves W (first ++ ((size, i + j) ∷ rest)) us m m' at to r → Moves W (first ++ ((size, i) ∷ (size, j) ∷ rest)) us m m' at to r
  moves_apart first {us} {m} {at = at} {to} moves =
      record {
        is = moves.is ∙ ap₂ (λ a b. record { at = at + a; to = to + b }) (units_apart W.source first) (units_apart W.target first);
        memory-is = moves.memory-is ∙ copied_apart first us at to m;
      }

-- ---- kinds

-- The fields of a group whose kinds are known, and then these.
abbrev pub asks : List (Kind × ℕ) → Script (Unit {0}) → Script (Unit {0})
asks [] K = K
asks ((k, count) ∷ rest) K = repeat count (field k) ⟫ asks rest K

abbrev pub sizes_of : List (Kind × ℕ) → List (ℕ × ℕ)
sizes_of [] = []
sizes_of ((k, count) ∷ rest) = (Kinds.size k.shape, count) ∷ sizes_of rest

-- Each is allowed.
abbrev pub AllGood : Way → List (Kind × ℕ) → List ℕ → ℕ → Type 0
AllGood W [] us at = Unit {0}
AllGood W ((k, count) ∷ rest) us at =
    AllAllowed W k (Kinds.size k.shape) count us at × AllGood W rest us (at + count * source_units W (Kinds.size k.shape))

-- One field is allowed.
pub one_allowed : {W : Way} {k : Kind} {size : ℕ} {us : List ℕ} {at : ℕ} → Allowed k (value_at W size us at) → AllAllowed W k size 1 us at
one_allowed {W} {k} {size} {us} {at} allowed =
    record { each = λ i less. let here : at + i * source_units W size ≡ at = first i less in rw here allowed }
  where
    first : (i : ℕ) → i < 1 → at + i * source_units W size ≡ at
    first i less = let none : i ≡ 0 = omega arith in rw none (omega arith)

-- The group's law: its fields come to where they were moved.
pub moves_carried : {W : Way} (kinds : List (Kind × ℕ)) {us m m' : List ℕ} {at to : ℕ} {r : Pass} → are_fields (sizes_of kinds) ≡ true → Ready (length us) at to → at + units_of W.source (sizes_of kinds) ≤ length us → AllGood W kinds us at
    → Moves W (sizes_of kinds) us m m' at to r → Carried (asks kinds) W us m m' at to r.at r.to
moves_carried {W} [] {us} {m} {m'} {at} {to} sized ready inside good moves =
    let none : (n : ℕ) → n + 0 ≡ n = λ n. omega arith in
    rw (moves.is, moves.memory-is, none at, none to) (record { runs = λ K. refl; ready = ready; same_length = refl })
moves_carried {W} ((k, count) ∷ rest) {us} {m} {m'} {at} {to} {r} sized ready inside good moves =
    let size = Kinds.size k.shape in
    let here = sized-here size count (sizes_of rest) sized in
    let first : Laid (repeat count (field k)).format W us m (copied W size count us at to m) at to (at + count * source_units W size) (to + count * target_units W size) =
    moved_laid k refl here.0 here.1 ready (omega arith) good.0 (record { is = refl; memory-is = refl })
    in
    let more = moves_carried rest here.2 first.carried.ready (omega arith) good.1 (rest_moves W size count (sizes_of rest) moves) in
    record {
      runs = λ K. first.carried.runs (asks rest K) ∙ more.runs K;
      ready = more.ready;
      same_length = more.same_length ∙ first.carried.same_length;
    }

-- The same for a layout that has these fields.
pub moves_laid : {A : Type 0} {P : A → Type 0} {f : Format A P} {W : Way} (kinds : List (Kind × ℕ)) {us m m' : List ℕ} {at to : ℕ} {r : Pass} → ((K : Script (Unit {0})) → script f (λ a. K) ≡ asks kinds K) → are_fields (sizes_of kinds) ≡ true
    → Ready (length us) at to → at + units_of W.source (sizes_of kinds) ≤ length us → AllGood W kinds us at → Moves W (sizes_of kinds) us m m' at to r → Laid f W us m m' at to r.at r.to
moves_laid {W = W} kinds {us} {m} {at = at} {to} same sized ready inside good moves =
    let carried = moves_carried kinds sized ready inside good moves in
    record {
      carried =
          record {
            runs = λ K. ap (λ s. behind W us m at to s) (same K) ∙ carried.runs K;
            ready = carried.ready;
            same_length = carried.same_length;
          };
    }

-- The same behind a letter.
pub moves_led : {A : Type 0} {P : A → Type 0} {f : Format A P} {W : Way} (kinds : List (Kind × ℕ)) {us m m' : List ℕ} {at to : ℕ} {r : Pass} → ((K : Script (Unit {0})) → script f (λ a. K) ≡ asks kinds K) → are_fields (sizes_of kinds) ≡ true → Below W.source.base us
    → Ready (length us) at to → at + (source_units W 2 + units_of W.source (sizes_of kinds)) ≤ length us → AllGood W kinds us (at + source_units W 2) → Moves W ((2, 1) ∷ sizes_of kinds) us m m' at to r → Led W f us m m' at to r
moves_led {W = W} kinds {us} {m} {m'} {at} {to} same sized below ready inside good moves =
    let once : at + source_units W 2 ≡ at + 1 * source_units W 2 = omega arith in
    let told : Moved W 2 1 us m (copied W 2 1 us at to m) at to (stepped W 2 1 at to) = record { is = refl; memory-is = refl } in
    let after = stepped_ready W 2 1 ready (omega arith) (omega arith) (omega arith) in
    let here : AllGood W kinds us (at + 1 * source_units W 2) = rw once at good in
    led below ready (omega arith) told (moves_laid kinds same sized after (omega arith) here (rest_moves W 2 1 (sizes_of kinds) moves))
