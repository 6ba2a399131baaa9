-- One field: its shape, the values it may have, and what is wrong with the others.
use Rattle.std.specs.Prelude.{◌≡◌, Bool, true, false, ℕ, ◌*◌, ◌^◌, ◌<◌}

-- How a field is laid down. A string's length and its chars have shapes of their own, the char with whether it is the string's last, since
-- not every codec parts them as it parts other fields.
pub data Shape : Type 0 where
  flag byte char integer float double string_length : Shape
  string_char : Bool → Shape
  chars : ℕ → Shape

-- The bytes that a field of this shape has in a binary file.
abbrev pub size : Shape → ℕ
size flag = 1
size byte = 1
size char = 2
size integer = 4
size float = 4
size double = 8
size string_length = 4
size (string_char last) = 2
size (chars n) = 2 * n

-- How many values a field of this shape can have: a flag has two, any other as many as its bytes can hold.
abbrev pub values : Shape → ℕ
values flag = 2
values byte = 256 ^ 1
values char = 256 ^ 2
values integer = 256 ^ 4
values float = 256 ^ 4
values double = 256 ^ 8
values string_length = 256 ^ 4
values (string_char last) = 256 ^ 2
values (chars n) = 256 ^ (2 * n)

abbrev pub is_flag : Shape → Bool
is_flag flag = true
is_flag byte = false
is_flag char = false
is_flag integer = false
is_flag float = false
is_flag double = false
is_flag string_length = false
is_flag (string_char last) = false
is_flag (chars n) = false

-- A kind of field: its shape, and for each value the number of the fault that it is here, 0 where it is allowed.
-- A field's value is the unsigned big-endian number of its bytes.
pub record Kind : Type 0 where
  pub shape : Shape
  pub fault : ℕ → ℕ

pub record Allowed (k : Kind) (v : ℕ) : Type 0 where
  pub fits : v < values k.shape
  pub faultless : k.fault v ≡ 0

pub record Field : Type 0 where
  pub kind : Kind
  pub value : ℕ
