-- Bytes that all fit are put behind what is held.
use Rattle.std.specs.Prelude.{ℕ, List, [], ◌∷◌, ◌++◌, ◌+◌, ◌≤◌, ◌<◌, ◌≡◌, length, nat_lt, true, if◌then◌else◌}
use Rattle.std.proofs.Common.{arith}
use Rattle.std.proofs.lemmas.List.{append-nil, append_assoc, length-append}
use Rattle.std.proofs.lemmas.Bool.{lt-ltb}
use Rattle.text_out.specs.Held.{held_after, held_after_all}

pub held_fitting : (held bytes : List ℕ) → length held + length bytes ≤ 4096 → held_after_all held bytes ≡ held ++ bytes
held_fitting held [] fits = rw (append-nil held)
held_fitting held (byte ∷ bytes) fits =
    let room : length held < 4096 = omega arith in
    let one : held_after held byte ≡ held ++ byte ∷ [] = rw (lt-ltb (length held) 4096 room) in
    let next : held_after_all (held ++ byte ∷ []) bytes ≡ (held ++ byte ∷ []) ++ bytes =
    held_fitting (held ++ byte ∷ []) bytes (omega (arith, length-append held (byte ∷ []))) in
    rw (one, next, append_assoc held (byte ∷ []) bytes)
