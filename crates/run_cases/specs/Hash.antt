-- The hash of words, each behind those before it.
use Rattle.std.specs.Prelude.{◌≡◌, ℕ, ◌+◌, ◌*◌, ◌%◌, ◌<◌, ◌≤◌, List, length, drop, get_or, fold}
use Rattle.std.proofs.Common.{ap, add-one, drop_of_length-le, drop-cons}

abbrev pub hash_with : ℕ → ℕ → ℕ
hash_with sum word = (sum * 16777619 + word) % 4294967296

abbrev pub hash_from : ℕ → List ℕ → ℕ
hash_from sum ws = fold hash_with sum ws

-- From the hash of no words on.
abbrev pub hash_of : List ℕ → ℕ
hash_of ws = hash_from 2166136261 ws

-- One word more.
pub hash_next : (sum i : ℕ) (ws : List ℕ) → i < length ws → hash_from sum (drop i ws) ≡ hash_from (hash_with sum (get_or ws i 0)) (drop (i + 1) ws)
hash_next sum i ws h = rw (add-one, drop-cons ws i 0)

pub hash_end : (sum i : ℕ) (ws : List ℕ) → length ws ≤ i → hash_from sum (drop i ws) ≡ sum
hash_end sum i ws h = ap (hash_from sum) (drop_of_length-le ws h)
