-- Units written one behind another, each where there is room.
use Rattle.std.specs.Prelude.{◌≡◌, refl, ℕ, ◌+◌, ◌≤◌, List, [], ◌++◌, length}
use Rattle.std.proofs.Common.{sym, ap, ap₂, subst, ◌∙◌, arith, length-append}
use Rattle.format.specs.Pass.{splice, put}
use Rattle.format.specs.PassLaws.{length-put, put-fits}
use Rattle.format.specs.SpliceLaws.{splice_nil, splice-behind, splice-before}

-- These units were written at a place, if there is room for them there.
pub record Writes (to : ℕ) (units m m' : List ℕ) : Type 0 where
  pub stands : to + length units ≤ length m → m' ≡ splice to units m
  pub same_length : length m' ≡ length m

pub nothing_written : {to : ℕ} {m : List ℕ} → Writes to [] m m
nothing_written {to} {m} = record { stands = λ fits. sym (splice_nil to m); same_length = refl }

pub put_written : {to : ℕ} (units : List ℕ) {m m' : List ℕ} → m' ≡ put to units m → Writes to units m m'
put_written {to} units {m} is = record { stands = λ fits. is ∙ put-fits to units m fits; same_length = ap length is ∙ length-put to units m }

module _ {to next : ℕ} {a b m m' m'' : List ℕ} (place : next ≡ to + length a) where
  -- One behind the other.
  pub both-written : Writes to a m m' → Writes next b m' m'' → Writes to (a ++ b) m m''
  both-written first second = record { stands = all; same_length = second.same_length ∙ first.same_length }
    where
      all : to + length (a ++ b) ≤ length m → m'' ≡ splice to (a ++ b) m
      all fits =
          let sum = length-append a b in
          let here : m' ≡ splice to a m = first.stands (omega (arith, sum, fits)) in
          let there : m'' ≡ splice next b m' = second.stands (omega (arith, sum, fits, place, first.same_length)) in
          there ∙ ap₂ (λ n l. splice n b l) place here ∙ splice-behind to a b m fits

  -- One before the other.
  pub before-written : Writes next b m m' → Writes to a m' m'' → Writes to (a ++ b) m m''
  before-written first second = record { stands = all; same_length = second.same_length ∙ first.same_length }
    where
      all : to + length (a ++ b) ≤ length m → m'' ≡ splice to (a ++ b) m
      all fits =
          let sum = length-append a b in
          let here : m' ≡ splice next b m = first.stands (omega (arith, sum, fits, place)) in
          let there : m'' ≡ splice to a m' = second.stands (omega (arith, sum, fits, first.same_length)) in
          there ∙ ap (splice to a) (here ∙ ap (λ n. splice n b m) place) ∙ splice-before to a b m fits

pub same-written : {to : ℕ} {a b m m' : List ℕ} → a ≡ b → Writes to a m m' → Writes to b m m'
same-written {to} {m = m} {m' = m'} same written = subst (λ l. Writes to l m m') same written
