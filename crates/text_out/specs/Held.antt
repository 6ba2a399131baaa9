-- What the buffer holds behind a byte, and behind bytes in turn. A full one is written out and begins again.
use Rattle.std.specs.Prelude.{ℕ, List, [], ◌∷◌, ◌++◌, length, nat_lt, if◌then◌else◌}

abbrev pub held_after : List ℕ → ℕ → List ℕ
held_after held byte = if nat_lt (length held) 4096 then held ++ byte ∷ [] else byte ∷ []

abbrev pub held_after_all : List ℕ → List ℕ → List ℕ
held_after_all held [] = held
held_after_all held (byte ∷ bytes) = held_after_all (held_after held byte) bytes
