-- Paints whose letter is known to be there: what the letter and what it tells come to. A plain paint is led the same way where a paint may stand.
use Rattle.std.specs.Prelude.{◌≡◌, refl, Bool, true, false, cond, ◌&&◌, ◌||◌, ℕ, ◌+◌, ◌^◌, ◌<◌, ◌≤◌, List, length, eqb, leb}
use Rattle.std.proofs.Common.{sym, ap, ◌∙◌, arith, lt-ltb, le-leb, ne_eqb, leb-true, eqb-true}
use Rattle.format.specs.Digits.{Below}
use Rattle.format.specs.Kind.{Kind, values}
use Rattle.format.specs.Kind as Kinds
use Rattle.format.specs.Script.{Script, ask}
use Rattle.format.specs.Format.{Format, known, script}
use Rattle.format.specs.Layout.{Layout, field, repeat, ◌&◌}
use Rattle.format.specs.Alternative.{among, chosen}
use Rattle.format.specs.Pass.{◌⟫◌}
use Rattle.drawing.specs.Fields as F
use Rattle.drawing.specs.FlagLaws.{long-plain}
use Rattle.drawing.specs.Fields.{char_where}
use Rattle.drawing.specs.FieldLaws.{and_both}
use Rattle.drawing.specs.Paint.{Plain, transparent_case, plain_cases, rgb_components, cmyk_components, grey_components, hsb_components, plain_paint, as_paint, paint_cases, paint}
use Rattle.ways.specs.declared.Pass.{Pass}
use Rattle.ways.specs.Way.{Way, source_units, value_at}
use Rattle.ways.specs.Passes.{refused, behind, Ready, refusal_of, behind_gone, refusal_ready}
use Rattle.ways.specs.Carries.{Laid}
use Rattle.ways.specs.Faults.{judged}
use Rattle.ways.specs.StepLaws.{there_below, bad-asked}
use Rattle.ways.specs.Moves.{Led}

-- What is wrong with the letter of a plain paint, 0 for nothing.
abbrev pub letter_fault : (version letter : ℕ) → ℕ
letter_fault v c = (char_where (among transparent_case (plain_cases v))).fault c

-- What follows the letter.
abbrev pub parts_of : (version letter : ℕ) → Script (Unit {0}) → Script (Unit {0})
parts_of v c K = script (chosen transparent_case (plain_cases v) c).format (λ b. K)

-- Whatever kind of letter has the faults of a plain paint's here, and tells its parts.
pub record PlainLed (W : Way) (version : ℕ) (us m m' : List ℕ) (at to : ℕ) (r : Pass) : Type 0 where
  pub runs : (k : Kind) → Kinds.size k.shape ≡ 2 → values k.shape ≡ 256 ^ 2 → k.fault (value_at W 2 us at) ≡ letter_fault version (value_at W 2 us at)
      → (next : ℕ → Script (Unit {0})) (K : Script (Unit {0})) → next (value_at W 2 us at) ≡ parts_of version (value_at W 2 us at) K
      → behind W us m at to (ask k next) ≡ behind W us m' r.at r.to K
  pub ready : Ready (length us) r.at r.to
  pub same_length : length m' ≡ length m

module _ {W : Way} (version : ℕ) {us m m' : List ℕ} {at to : ℕ} {r : Pass} where
  -- A letter that is allowed, with its parts.
  pub plain-led : {A : Type 0} {P : A → Type 0} {f : Format A P} → value_at W 2 us at < 256 ^ 2 → letter_fault version (value_at W 2 us at) ≡ 0 → ((K : Script (Unit {0})) → parts_of version (value_at W 2 us at) K ≡ script f (λ a. K))
      → Led W f us m m' at to r → PlainLed W version us m m' at to r
  plain-led small fine tells led =
      record {
        runs = λ k sized all same next K parts. led.runs k sized (record { fits = rw all small; faultless = same ∙ fine }) next K (parts ∙ tells K);
        ready = led.ready;
        same_length = led.same_length;
      }

-- A letter that is not.
pub plain-refused : {W : Way} (version : ℕ) {us m : List ℕ} {at to : ℕ} {r : Pass} → Below W.source.base us → Ready (length us) at to → at + source_units W 2 ≤ length us → letter_fault version (value_at W 2 us at) ≡ 7 → r ≡ refusal_of W 7 at → PlainLed W version us m m at to r
plain-refused {W} version {us} {m} {at} {to} {r} below ready inside bad is =
    let short = ready.short in
    let going : at < refused = omega arith in
    let there = there_below W us at 2 below inside in
    rw is
    (record {
      runs = λ k sized all same next K parts.
          (bad-asked ready k sized there (W.source.plain k.shape (value_at W 2 us at) (long-plain k.shape 2 sized (omega arith))) (omega arith)
          (judged k (value_at W 2 us at) W (rw sized there.small)
          (λ fits. let small : value_at W 2 us at < 256 ^ 2 = rw sized at fits in sym (ap (λ b. cond b (k.fault (value_at W 2 us at)) 5) (lt-ltb (value_at W 2 us at) (values k.shape) (rw all small)) ∙ same ∙ bad)) (λ over. omega arith))
          (record { before = λ gone. absurd (omega arith); now = λ h. refl })).runs next
          ∙ behind_gone W us m m (refusal_of W 7 at).at (refusal_of W 7 at).to (next 0) K (omega arith);
      ready = refusal_ready W 7 at (length us) short (ready.inside going);
      same_length = refl;
    })

-- ---- each letter

module _ {W : Way} (version : ℕ) {us m m' : List ℕ} {at to : ℕ} {r : Pass} where
  pub transparent_led : value_at W 2 us at ≡ 84 → Led W (known {A = Unit {0}} tt) us m m' at to r → PlainLed W version us m m' at to r
  transparent_led is led =
      let fine : letter_fault version 84 ≡ 0 = by (leb 4 version) in
      plain-led version (omega (arith, is)) (ap (letter_fault version) is ∙ fine) (λ K. ap (λ c. parts_of version c K) is ∙ parts K (leb 4 version)) led
    where
      by : (new : Bool) → F.unless ((new && false) || ((new && false) || true)) 7 ≡ 0
      by true = refl
      by false = refl

      parts : (K : Script (Unit {0})) (new : Bool) → cond (new && false) (script grey_components.format (λ a. K)) (cond (new && false) (script hsb_components.format (λ a. K)) K) ≡ K
      parts K true = refl
      parts K false = refl

  pub rgb-led : value_at W 2 us at ≡ 82 → Led W (repeat 4 (field F.component)).format us m m' at to r → PlainLed W version us m m' at to r
  rgb-led is led = plain-led version (omega (arith, is)) (ap (letter_fault version) is) (λ K. ap (λ c. parts_of version c K) is) led

  pub cmyk_led : value_at W 2 us at ≡ 67 → Led W (repeat 5 (field F.component)).format us m m' at to r → PlainLed W version us m m' at to r
  cmyk_led is led = plain-led version (omega (arith, is)) (ap (letter_fault version) is) (λ K. ap (λ c. parts_of version c K) is) led

  pub grey-led : 4 ≤ version → value_at W 2 us at ≡ 89 → Led W (repeat 2 (field F.component)).format us m m' at to r → PlainLed W version us m m' at to r
  grey-led new is led =
      let fine : letter_fault version 89 ≡ 0 = rw (le-leb 4 version new) in
      plain-led version (omega (arith, is)) (ap (letter_fault version) is ∙ fine)
      (λ K. let parts : parts_of version 89 K ≡ script (repeat 2 (field F.component)).format (λ a. K) = rw (le-leb 4 version new) in ap (λ c. parts_of version c K) is ∙ parts) led

  pub hsb-led : 4 ≤ version → value_at W 2 us at ≡ 83 → Led W (field F.hue & repeat 3 (field F.component)).format us m m' at to r → PlainLed W version us m m' at to r
  hsb-led new is led =
      let fine : letter_fault version 83 ≡ 0 = rw (le-leb 4 version new) in
      plain-led version (omega (arith, is)) (ap (letter_fault version) is ∙ fine)
      (λ K. let parts : parts_of version 83 K ≡ script (field F.hue & repeat 3 (field F.component)).format (λ a. K) = rw (le-leb 4 version new) in ap (λ c. parts_of version c K) is ∙ parts) led

-- Any other letter is none.
pub no_letter : (version c : ℕ) → (c ≡ 84 → ⊥) → (c ≡ 82 → ⊥) → (c ≡ 67 → ⊥) → (4 ≤ version → (c ≡ 89 → ⊥) × (c ≡ 83 → ⊥)) → letter_fault version c ≡ 7
no_letter version c t r k new = by (leb 4 version) refl
  where
    by : (b : Bool) → leb 4 version ≡ b → letter_fault version c ≡ 7
    by true e = let n = new (leb-true 4 version e) in rw (ne_eqb c 82 r, ne_eqb c 67 k, e, ne_eqb c 89 n.0, ne_eqb c 83 n.1, ne_eqb c 84 t)
    by false e = rw (ne_eqb c 82 r, ne_eqb c 67 k, e, ne_eqb c 84 t)

-- ---- a whole plain paint, and a paint

-- What is wrong with the letter of a paint, and what follows it.
abbrev paint_fault : (version letter : ℕ) → ℕ
paint_fault v c = (char_where (among (as_paint transparent_case) (paint_cases v))).fault c

abbrev paint_parts : (version letter : ℕ) → Script (Unit {0}) → Script (Unit {0})
paint_parts v c K = script (chosen (as_paint transparent_case) (paint_cases v) c).format (λ b. K)

-- Behind the letter of a gradient.
abbrev pub gradient_parts : (version high : ℕ) → Layout (Plain × (Plain × ℕ))
gradient_parts v high = plain_paint v & plain_paint v & field (F.integer_in 0 high)

module _ {W : Way} (version : ℕ) {us m m' : List ℕ} {at to : ℕ} {r : Pass} where
  pub plain-laid : PlainLed W version us m m' at to r → Laid (plain_paint version).format W us m m' at to r.at r.to
  plain-laid led =
      record {
        carried =
            record {
              runs = λ K. led.runs (char_where (among transparent_case (plain_cases version))) refl refl refl (λ c. parts_of version c K) K refl;
              ready = led.ready;
              same_length = led.same_length;
            };
      }

  -- A letter that is no gradient's is one of a plain paint's, or none.
  pub plain_as_paint : {letter : ℕ} → letter ≡ value_at W 2 us at → (letter ≡ 71 → ⊥) → (leb 3 version && eqb letter 68) ≡ false → PlainLed W version us m m' at to r → Laid (paint version).format W us m m' at to r.at r.to
  plain_as_paint is linear radial led =
      let c = value_at W 2 us at in
      let not-linear = ne_eqb c 71 (λ h. linear (is ∙ h)) in
      let not-radial = ap (λ x. leb 3 version && eqb x 68) (sym is) ∙ radial in
      record {
        carried =
            record {
              runs = λ K.
                  led.runs (char_where (among (as_paint transparent_case) (paint_cases version))) refl refl (ap (λ b. F.unless b 7) (tests (eqb c 82) (eqb c 67) (leb 4 version && eqb c 89) (leb 4 version && eqb c 83) (eqb c 84) not-linear not-radial)) (λ c. paint_parts version c K) K
                  (parts (eqb c 82) (eqb c 67) (leb 4 version && eqb c 89) (leb 4 version && eqb c 83) (rgb_components ⟫ K) (cmyk_components ⟫ K) (grey_components ⟫ K) (hsb_components ⟫ K) (gradient_parts version 7 ⟫ K) (gradient_parts version 8 ⟫ K) K not-linear not-radial);
              ready = led.ready;
              same_length = led.same_length;
            };
      }
    where
      tests : (r k y s t : Bool) {g d : Bool} → g ≡ false → d ≡ false → (r || (k || (y || (s || (g || (d || t)))))) ≡ (r || (k || (y || (s || t))))
      tests r k y s t linear radial = rw (linear, radial)

      parts : (r k y s : Bool) {g d : Bool} (A B C D E F K : Script (Unit {0})) → g ≡ false → d ≡ false
          → cond r A (cond k B (cond y C (cond s D (cond g E (cond d F K))))) ≡ cond r A (cond k B (cond y C (cond s D K)))
      parts r k y s A B C D E F K linear radial = rw (linear, radial)

  -- A letter that is allowed.
  paint-led : {A : Type 0} {P : A → Type 0} {f : Format A P} → (c : ℕ) → value_at W 2 us at ≡ c → c < 256 ^ 2 → paint_fault version c ≡ 0 → ((K : Script (Unit {0})) → paint_parts version c K ≡ script f (λ a. K))
      → Led W f us m m' at to r → Laid (paint version).format W us m m' at to r.at r.to
  paint-led c is small fine tells led =
      record {
        carried =
            record {
              runs = λ K.
                  led.runs (char_where (among (as_paint transparent_case) (paint_cases version))) refl (record { fits = omega (arith, is); faultless = ap (paint_fault version) is ∙ fine }) (λ c. paint_parts version c K) K
                  (ap (λ c. paint_parts version c K) is ∙ tells K);
              ready = led.ready;
              same_length = led.same_length;
            };
      }

  pub linear_laid : {letter : ℕ} → letter ≡ value_at W 2 us at → letter ≡ 71 → Led W (gradient_parts version 7).format us m m' at to r → Laid (paint version).format W us m m' at to r.at r.to
  linear_laid is linear led = paint-led 71 (sym is ∙ linear) (omega arith) (fine (leb 4 version)) (λ K. parts (leb 4 version) (grey_components ⟫ K) (hsb_components ⟫ K) (gradient_parts version 7 ⟫ K)) led
    where
      fine : (new : Bool) → F.unless ((new && false) || ((new && false) || true)) 7 ≡ 0
      fine true = refl
      fine false = refl

      parts : (new : Bool) (A B C : Script (Unit {0})) → cond (new && false) A (cond (new && false) B C) ≡ C
      parts true A B C = refl
      parts false A B C = refl

  pub radial_laid : {letter : ℕ} → letter ≡ value_at W 2 us at → (leb 3 version && eqb letter 68) ≡ true → Led W (gradient_parts version 8).format us m m' at to r → Laid (paint version).format W us m m' at to r.at r.to
  radial_laid {letter} is radial led =
      let both = and_both (leb 3 version) (eqb letter 68) radial in
      paint-led 68 (sym is ∙ eqb-true letter 68 both.1) (omega arith) (fine (leb 4 version) (leb 3 version) both.0) (λ K. parts (leb 4 version) (leb 3 version) (grey_components ⟫ K) (hsb_components ⟫ K) (gradient_parts version 8 ⟫ K) K both.0) led
    where
      fine : (new may : Bool) → may ≡ true → F.unless ((new && false) || ((new && false) || ((may && true) || false))) 7 ≡ 0
      fine true may e = rw e
      fine false may e = rw e

      parts : (new may : Bool) (A B C D : Script (Unit {0})) → may ≡ true → cond (new && false) A (cond (new && false) B (cond (may && true) C D)) ≡ C
      parts true may A B C D e = rw e
      parts false may A B C D e = rw e
