-- The codecs of files and of tables are lawful, and in a table each value has one spelling.
use Rattle.std.specs.Prelude.{◌≡◌, refl, ℕ, zero, suc, ◌^◌, ◌+◌, ◌/◌, ◌*◌, ◌≤◌}
use Rattle.std.proofs.Common.{pow-add, arith}
use Rattle.std.proofs.Math.Nat as Nat
use Rattle.format.specs.Kind.{Shape, flag, byte, char, integer, float, double, string_length, string_char, chars, size, values}
use Rattle.format.specs.FixedCodecLaws.{Sensible, Literal, standing_sensible, literal_sensible, literal-literal}
use Rattle.drawing.specs.Codecs.{meant, byte_fields, word_fields}
use Rattle.drawing.specs.FlagLaws.{meant-same}

-- A field's values fit its bytes.
values_fit : (s : Shape) → values s ≤ 256 ^ size s
values_fit flag = omega arith
values_fit byte = omega arith
values_fit char = omega arith
values_fit integer = omega arith
values_fit float = omega arith
values_fit double = omega arith
values_fit string_length = omega arith
values_fit (string_char last) = omega arith
values_fit (chars n) = Nat.le_refl (256 ^ (2 * n))

pub bytes_sensible : Sensible byte_fields
bytes_sensible = standing_sensible 256 size meant 2 5 (omega arith) (omega arith) meant-same values_fit

-- Bytes four at a time fill words.
word_powers : (k : ℕ) → (2 ^ 32) ^ k ≡ 256 ^ (4 * k)
word_powers zero = refl
word_powers (suc k) =
    rw (Nat.pow-succ' (2 ^ 32) k, word_powers k, Nat.mul-suc 4 k, pow-add 256 (4 * k) 4) (Nat.mul_comm (2 ^ 32) (256 ^ (4 * k)))

words_hold : (n : ℕ) → 256 ^ n ≤ (2 ^ 32) ^ ((n + 3) / 4)
words_hold n = rw (word_powers ((n + 3) / 4)) (Nat.pow-le-pow_right (omega arith) (omega arith))

pub words_sensible : Sensible word_fields
words_sensible =
    literal_sensible (2 ^ 32) (λ s. (size s + 3) / 4) 16 16 (omega arith) (omega arith) (λ s. Nat.le_trans (values_fit s) (words_hold (size s)))

pub words-literal : Literal word_fields
words-literal = literal-literal (2 ^ 32) (λ s. (size s + 3) / 4) 16 16
