-- The kinds of field of a drawing, each with the number that 01 gives to a value that is not allowed ('Fields', 'Numbers given back').
-- That a field is cut (2) comes before all of these, in reading the field: see Codecs.
use Rattle.std.specs.Prelude.{Bool, true, false, cond, ◌&&◌, ◌||◌, ℕ, zero, suc, ◌+◌, ◌%◌, ◌^◌, List, [], ◌∷◌, eqb, leb, ℤ, pos}
use Prim.Native.Char.{code}
use Rattle.std.specs.Int.Signed.{le_z}
use Rattle.std.specs.Float.{binary32}
use Rattle.std.specs.Int.{w8, w32}
use Rattle.std.proofs.Common.{to_z}
use Rattle.format.specs.Digits.{number}
use Rattle.format.specs.Kind.{Kind, Shape}
use Rattle.format.specs.Kind as K
use Rattle.format.specs.FloatRange.{from_zero_to, from_zero_below}
use Rattle.drawing.specs.Numbers.{no_jdr, bad_version, out_of_range, bad_char, bad_count, bad_component, too_deep, flow_frame, unjoined}
use Rattle.drawing.specs.Limits.{last_minor}

-- ---- faults

-- No fault where the test holds, and this one elsewhere.
abbrev pub unless : Bool → ℕ → ℕ
unless true n = 0
unless false n = n

-- The first of two faults.
abbrev pub or_else : ℕ → ℕ → ℕ
or_else zero other = other
or_else (suc n) other = suc n

abbrev pub any : Shape → Kind
any s = record { shape = s; fault = λ v. 0 }

-- ---- the head

-- the chars JDR, as one field
abbrev pub jdr : ℕ
jdr = number (2 ^ 16) (code "J" ∷ code "D" ∷ code "R" ∷ [])

abbrev pub magic : Kind
magic = record { shape = K.chars 3; fault = λ v. unless (eqb v jdr) no_jdr }

abbrev pub version_length : Kind
version_length = record { shape = K.integer; fault = λ v. unless (eqb v 3) bad_version }

-- the chars 1.0, as one field; those of 1.m are m more
abbrev pub version_zero : ℕ
version_zero = number (2 ^ 16) (code "1" ∷ code "." ∷ code "0" ∷ [])

abbrev pub version_chars : Kind
version_chars =
    record { shape = K.chars 3; fault = λ v. unless (leb version_zero v && leb v (version_zero + last_minor)) bad_version }

-- ---- flags, bytes, integers

abbrev pub flag : Kind
flag = any K.flag

-- no flow frame data is carried: a true flag is 11
abbrev pub flow_flag : Kind
flow_flag = record { shape = K.flag; fault = λ v. unless (eqb v 0) flow_frame }

-- The signed number is in the range.
abbrev pub in_range : ℕ → ℕ → ℤ → Bool
in_range low high z = le_z (pos low) z && le_z z (pos high)

abbrev pub byte_in : ℕ → ℕ → Kind
byte_in low high = record { shape = K.byte; fault = λ v. unless (in_range low high (to_z w8 v)) out_of_range }

-- a byte and no flag: a 2 is no winding
abbrev pub winding_rule : Kind
winding_rule = byte_in 0 1

abbrev pub integer : Kind
integer = any K.integer

abbrev pub integer_in : ℕ → ℕ → Kind
integer_in low high = record { shape = K.integer; fault = λ v. unless (in_range low high (to_z w32 v)) out_of_range }

abbrev pub font_size : Kind
font_size = record { shape = K.integer; fault = λ v. unless (le_z (pos 0) (to_z w32 v)) out_of_range }

-- ---- counts and lengths

abbrev pub count : ℕ → Kind
count least = record { shape = K.integer; fault = λ v. unless (le_z (pos least) (to_z w32 v)) bad_count }

-- how many objects a group has: none or more (R-2)
abbrev pub member_count : Kind
member_count = count 0

-- how many segments an outline has: one or more
abbrev pub segment_count : Kind
segment_count = count 1

abbrev pub dash_count : Kind
dash_count = record { shape = K.integer; fault = λ v. unless (le_z (pos 0) (to_z w32 v) && eqb (v % 2) 0) bad_count }

abbrev pub string_length : ℕ → Kind
string_length least = record { shape = K.string_length; fault = λ v. unless (le_z (pos least) (to_z w32 v)) bad_count }

abbrev pub string_char : Bool → Kind
string_char last = any (K.string_char last)

-- ---- chars

-- a char that the test lets pass
abbrev pub char_where : (ℕ → Bool) → Kind
char_where allowed = record { shape = K.char; fault = λ v. unless (allowed v) bad_char }

abbrev pub one_of_chars : List ℕ → ℕ → Bool
one_of_chars [] c = false
one_of_chars (x ∷ xs) c = eqb c x || one_of_chars xs c

-- An object's id is a leaf's (`leaf`), or a group's (`group`) where one may nest deeper; any other is not allowed.
abbrev pub object_fault : (leaf group deeper : Bool) → ℕ
object_fault leaf group deeper = cond leaf 0 (cond group (unless deeper too_deep) bad_char)

abbrev pub object_id : (leaf : ℕ → Bool) (deeper : Bool) → Kind
object_id leaf deeper = record { shape = K.char; fault = λ v. object_fault (leaf v) (eqb v (code "G")) deeper }

-- A marker's id is in the list, and then it is 0 or the chain may go on.
abbrev pub marker_fault : (listed may : Bool) → ℕ
marker_fault listed may = or_else (unless listed out_of_range) (unless may too_deep)

abbrev pub marker_id : ℕ → Bool → Kind
marker_id high more = record { shape = K.byte; fault = λ v. marker_fault (in_range 0 high (to_z w8 v)) (more || eqb v 0) }

-- ---- floats and doubles

abbrev pub float : Kind
float = any K.float

abbrev pub double : Kind
double = any K.double

-- a paint's component, from 0 to 1
abbrev pub component : Kind
component = record { shape = K.float; fault = λ v. unless (from_zero_to binary32 1 v) bad_component }

-- from 0 up to but not 360
abbrev pub hue : Kind
hue = record { shape = K.float; fault = λ v. unless (from_zero_below binary32 360 v) bad_component }

-- a coordinate with the very bits of another
abbrev pub joined : ℕ → Kind
joined bits = record { shape = K.double; fault = λ v. unless (eqb v bits) unjoined }
