-- The numbers of answers (01, 'Numbers given back'), by the names that the code and the header have for them.
use Rattle.std.specs.Prelude.{ℕ}

abbrev pub accepted : ℕ
accepted = 0

abbrev pub too_long : ℕ
too_long = 1

abbrev pub cut : ℕ
cut = 2

abbrev pub no_jdr : ℕ
no_jdr = 3

abbrev pub bad_version : ℕ
bad_version = 4

abbrev pub bad_flag : ℕ
bad_flag = 5

abbrev pub out_of_range : ℕ
out_of_range = 6

abbrev pub bad_char : ℕ
bad_char = 7

abbrev pub bad_count : ℕ
bad_count = 8

abbrev pub bad_component : ℕ
bad_component = 9

abbrev pub too_deep : ℕ
too_deep = 10

abbrev pub flow_frame : ℕ
flow_frame = 11

abbrev pub unjoined : ℕ
unjoined = 12

abbrev pub trailing_bytes : ℕ
trailing_bytes = 13

abbrev pub contents_too_short : ℕ
contents_too_short = 14

abbrev pub bodies_too_short : ℕ
bodies_too_short = 15

abbrev pub no_table : ℕ
no_table = 16

abbrev pub output_too_short : ℕ
output_too_short = 17

abbrev pub list_too_short : ℕ
list_too_short = 18

-- R-3's own: bytes that are no sheet
abbrev pub no_sheet : ℕ
no_sheet = 19

-- R-5's own: a coordinate is not a number
abbrev pub not_a_number : ℕ
not_a_number = 20

-- the numbers of questions about a row: there is no such row, or its object has no such part
abbrev pub no_row : ℕ
no_row = 6

abbrev pub no_part : ℕ
no_part = 7
