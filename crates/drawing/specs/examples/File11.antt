-- A file of version 1.1 in full: no settings; chains of markers, at the start, in the middle and at the end of a path; a text with an
-- alternative; no descriptions.
use Rattle.std.specs.Prelude.{◌≡◌, refl, ℕ, List, [], ◌∷◌, ◌++◌, map}
use Rattle.std.proofs.Math.Option.{Option, none, some}
use Prim.Native.Char.{code}
use Rattle.std.specs.Float.Ieee.{le, of_int, of_bits}
use Rattle.format.specs.FloatRange.{from_zero_to}
use Rattle.drawing.specs.Paint.{transparent, rgb, cmyk, plain, linear}
use Rattle.drawing.specs.Marker.{Marker}
use Rattle.drawing.specs.Path.{Path, curve, move}
use Rattle.drawing.specs.Text.{Text}
use Rattle.drawing.specs.Bitmap.{Bitmap}
use Rattle.drawing.specs.Settings.{absent}
use Rattle.drawing.specs.Object.{path, text, bitmap, leaf, group, of_list}
use Rattle.drawing.specs.Drawing.{Drawing}
use Rattle.drawing.specs.Computed.{description_answer}
use Rattle.drawing.specs.examples.Whole.{Whole, Respelled}
use Rattle.drawing.specs.examples.Bytes.{Item, byte, flag, int, float, double, char, string, codes, bytes, words, floats, doubles, head, at, otherwise}

-- ---- row 1: a path with no start marker, one mid marker and two end markers

abbrev first_fields : List Item
first_fields =
    -- line paint; fill paint, a gradient of transparent and a colour
    char "C" ∷ floats (0x3F00_0001 ∷ 0x3F00_0002 ∷ 0x3F00_0003 ∷ 0x3F00_0004 ∷ 0x3F00_0005 ∷ [])
    ++ char "G" ∷ char "T" ∷ char "R" ∷ floats (0x3F00_0006 ∷ 0x3F00_0007 ∷ 0x3F00_0008 ∷ 0x3F00_0009 ∷ []) ++ int 0 ∷ []
    -- width, dash count, lengths, offset; cap, join, mitre limit, winding
    ++ float 0x4000_0001 ∷ int 4 ∷ floats (0x4000_0002 ∷ 0x4000_0003 ∷ 0x4000_0004 ∷ 0x4000_0005 ∷ 0x4000_0006 ∷ [])
    ++ byte 0 ∷ byte 0 ∷ float 0x4000_0007 ∷ byte 0 ∷ []
    -- start
    ++ byte 0 ∷ []
    -- mid: id, size, repeat, reversed, auto-orient, angle, paint, overlay
    ++ byte 21 ∷ float 0x4000_0011 ∷ byte 3 ∷ flag 1 ∷ flag 0 ∷ float 0x4000_0012 ∷ char "R" ∷ floats (0x3F00_000A ∷ 0x3F00_000B ∷ 0x3F00_000C ∷ 0x3F00_000D ∷ []) ++ flag 1 ∷ []
    ++ byte 0 ∷ []
    -- end: one without an angle, since it orients itself, and one with an angle
    ++ byte 1 ∷ float 0x4000_0013 ∷ byte 1 ∷ flag 0 ∷ flag 1 ∷ char "T" ∷ flag 0 ∷ []
    ++ byte 2 ∷ float 0x4000_0014 ∷ byte 2 ∷ flag 0 ∷ flag 0 ∷ float 0x4000_0015 ∷ char "C" ∷ floats (0x3F00_000E ∷ 0x3F00_000F ∷ 0x3F00_0010 ∷ 0x3F00_0011 ∷ 0x3F00_0012 ∷ []) ++ flag 1 ∷ []
    ++ byte 0 ∷ []
    -- the segments; what follows M joins its point
    ++ char "C" ∷ int 2 ∷ []
    ++ char "M" ∷ doubles (0x8000_0000_0000_0011 ∷ 0x12_0000_0022 ∷ 0x7FF8_0000_0000_0023 ∷ 0xFFF8_0000_0000_0024 ∷ [])
    ++ char "B" ∷ doubles (0x7FF8_0000_0000_0023 ∷ 0xFFF8_0000_0000_0024 ∷ 0x15_0000_0025 ∷ 0x16_0000_0026 ∷ 0x17_0000_0027 ∷ 0x18_0000_0028 ∷ 0x19_0000_0029 ∷ 0x1A_0000_002A ∷ [])
    ++ flag 0 ∷ []

abbrev first_value : Path
first_value =
    record {
      line_paint = plain (cmyk 0x3F00_0001 0x3F00_0002 0x3F00_0003 0x3F00_0004 0x3F00_0005);
      fill_paint = linear transparent (rgb 0x3F00_0006 0x3F00_0007 0x3F00_0008 0x3F00_0009) 0;
      style = record {
        width = 0x4000_0001;
        dashes = 0x4000_0002 ∷ 0x4000_0003 ∷ 0x4000_0004 ∷ 0x4000_0005 ∷ [];
        dash_offset = 0x4000_0006;
        cap = 0;
        join = 0;
        mitre_limit = 0x4000_0007;
        winding = 0;
        start = [];
        mid = record { id = 21; size = 0x4000_0011; double = 0; repeat = 3; reversed = 1; angle = some 0x4000_0012; paint = rgb 0x3F00_000A 0x3F00_000B 0x3F00_000C 0x3F00_000D; overlay = 1; offset = none; repeat_offset = none } ∷ [];
        end = record { id = 1; size = 0x4000_0013; double = 0; repeat = 1; reversed = 0; angle = none; paint = transparent; overlay = 0; offset = none; repeat_offset = none }
            ∷ record { id = 2; size = 0x4000_0014; double = 0; repeat = 2; reversed = 0; angle = some 0x4000_0015; paint = cmyk 0x3F00_000E 0x3F00_000F 0x3F00_0010 0x3F00_0011 0x3F00_0012; overlay = 1; offset = none; repeat_offset = none }
            ∷ [];
      };
      outline = record {
        open_or_closed = code "C";
        start = at 0 0;
        segments = move (at 0x8000_0000_0000_0011 0x12_0000_0022) (at 0x7FF8_0000_0000_0023 0xFFF8_0000_0000_0024)
            ∷ curve (at 0x7FF8_0000_0000_0023 0xFFF8_0000_0000_0024) (at 0x15_0000_0025 0x16_0000_0026) (at 0x17_0000_0027 0x18_0000_0028) (at 0x19_0000_0029 0x1A_0000_002A)
            ∷ [];
      };
    }

-- ---- row 4: a path with four start markers, two mid markers and one end marker

abbrev second_fields : List Item
second_fields =
    char "T" ∷ char "R" ∷ floats (0x3E00_0001 ∷ 0x3E00_0002 ∷ 0x3E00_0003 ∷ 0x3E00_0004 ∷ [])
    ++ float 0x4100_0001 ∷ int 0 ∷ byte 1 ∷ byte 2 ∷ byte 1 ∷ []
    -- start
    ++ byte 3 ∷ float 0x4100_0002 ∷ byte 1 ∷ flag 0 ∷ flag 1 ∷ char "T" ∷ flag 1 ∷ []
    ++ byte 4 ∷ float 0x4100_0003 ∷ byte 2 ∷ flag 1 ∷ flag 1 ∷ char "T" ∷ flag 0 ∷ []
    ++ byte 5 ∷ float 0x4100_0004 ∷ byte 3 ∷ flag 0 ∷ flag 0 ∷ float 0x4100_0005 ∷ char "T" ∷ flag 0 ∷ []
    ++ byte 6 ∷ float 0x4100_0006 ∷ byte 1 ∷ flag 1 ∷ flag 1 ∷ char "R" ∷ floats (0x3E00_0005 ∷ 0x3E00_0006 ∷ 0x3E00_0007 ∷ 0x3E00_0008 ∷ []) ++ flag 1 ∷ []
    ++ byte 0 ∷ []
    -- mid
    ++ byte 7 ∷ float 0x4100_0007 ∷ byte 2 ∷ flag 0 ∷ flag 1 ∷ char "T" ∷ flag 0 ∷ []
    ++ byte 8 ∷ float 0x4100_0008 ∷ byte 3 ∷ flag 1 ∷ flag 0 ∷ float 0x4100_0009 ∷ char "T" ∷ flag 1 ∷ []
    ++ byte 0 ∷ []
    -- end
    ++ byte 9 ∷ float 0x4100_000A ∷ byte 1 ∷ flag 0 ∷ flag 0 ∷ float 0x4100_000B ∷ char "T" ∷ flag 0 ∷ []
    ++ byte 0 ∷ []
    ++ char "O" ∷ int 1 ∷ char "M" ∷ doubles (0x31_0000_0041 ∷ 0x32_0000_0042 ∷ 0x33_0000_0043 ∷ 0x34_0000_0044 ∷ [])
    ++ flag 0 ∷ []

-- A marker of this path, without the fields of other versions.
abbrev mark : (id size repeat reversed : ℕ) → Option ℕ → (overlay : ℕ) → Marker
mark id size repeat reversed angle overlay =
    record { id = id; size = size; double = 0; repeat = repeat; reversed = reversed; angle = angle; paint = transparent; overlay = overlay; offset = none; repeat_offset = none }

abbrev second_value : Path
second_value =
    record {
      line_paint = plain transparent;
      fill_paint = plain (rgb 0x3E00_0001 0x3E00_0002 0x3E00_0003 0x3E00_0004);
      style = record {
        width = 0x4100_0001;
        dashes = [];
        dash_offset = 0;
        cap = 1;
        join = 2;
        mitre_limit = 0;
        winding = 1;
        start = mark 3 0x4100_0002 1 0 none 1
            ∷ mark 4 0x4100_0003 2 1 none 0
            ∷ mark 5 0x4100_0004 3 0 (some 0x4100_0005) 0
            ∷ record { id = 6; size = 0x4100_0006; double = 0; repeat = 1; reversed = 1; angle = none; paint = rgb 0x3E00_0005 0x3E00_0006 0x3E00_0007 0x3E00_0008; overlay = 1; offset = none; repeat_offset = none }
            ∷ [];
        mid = mark 7 0x4100_0007 2 0 none 0 ∷ mark 8 0x4100_0008 3 1 (some 0x4100_0009) 1 ∷ [];
        end = mark 9 0x4100_000A 1 0 (some 0x4100_000B) 0 ∷ [];
      };
      outline = record {
        open_or_closed = code "O";
        start = at 0 0;
        segments = move (at 0x31_0000_0041 0x32_0000_0042) (at 0x33_0000_0043 0x34_0000_0044) ∷ [];
      };
    }

-- ---- row 5: a text with an alternative, painted with a gradient

abbrev text_fields : List Item
text_fields =
    string "Serif" ∷ byte 0 ∷ byte 0 ∷ int 0
    ∷ doubles (0x51_0000_0061 ∷ 0x52_0000_0062 ∷ 0x53_0000_0063 ∷ 0x54_0000_0064 ∷ 0x55_0000_0065 ∷ 0x56_0000_0066 ∷ [])
    -- LaTeX family, series, shape, size, horizontal, vertical, alternative
    ++ flag 1 ∷ string "rm" ∷ string "" ∷ string "it" ∷ string "Huge" ∷ byte 0 ∷ byte 1 ∷ string "$x$" ∷ []
    ++ char "G" ∷ char "C" ∷ floats (0x3D00_0001 ∷ 0x3D00_0002 ∷ 0x3D00_0003 ∷ 0x3D00_0004 ∷ 0x3D00_0005 ∷ []) ++ char "T" ∷ int 3 ∷ []
    ++ string "x" ∷ flag 0 ∷ []

abbrev text_value : Text
text_value =
    record {
      style = record {
        family = codes "Serif";
        shape = 0;
        series = 0;
        size = 0;
        transformation = 0x51_0000_0061 ∷ 0x52_0000_0062 ∷ 0x53_0000_0063 ∷ 0x54_0000_0064 ∷ 0x55_0000_0065 ∷ 0x56_0000_0066 ∷ [];
        latex = some (record { family = codes "rm"; series = []; shape = codes "it"; size = codes "Huge"; horizontal = 0; vertical = 1; alternative = codes "$x$" });
      };
      paint = linear (cmyk 0x3D00_0001 0x3D00_0002 0x3D00_0003 0x3D00_0004 0x3D00_0005) transparent 3;
      text = codes "x";
    }

-- ---- row 6: a bitmap with an empty link

abbrev bitmap_fields : List Item
bitmap_fields =
    string "p.png" ∷ flag 1 ∷ string "" ∷ string "c"
    ∷ doubles (0x71_0000_0081 ∷ 0x72_0000_0082 ∷ 0x73_0000_0083 ∷ 0x74_0000_0084 ∷ 0x75_0000_0085 ∷ 0x76_0000_0086 ∷ [])
    ++ flag 0 ∷ []

abbrev bitmap_value : Bitmap
bitmap_value =
    record {
      name = codes "p.png";
      latex = some (record { link = []; command = codes "c" });
      transformation = 0x71_0000_0081 ∷ 0x72_0000_0082 ∷ 0x73_0000_0083 ∷ 0x74_0000_0084 ∷ 0x75_0000_0085 ∷ 0x76_0000_0086 ∷ [];
    }

-- ---- the file: groups are rows 0, 2 and 3

abbrev items : List Item
items =
    head "1" ++ flag 0
    ∷ char "G" ∷ int 3 ∷ char "P" ∷ first_fields
    ++ char "G" ∷ int 2
    ∷ char "G" ∷ int 1 ∷ char "P" ∷ second_fields
    ++ flag 0 ∷ char "T" ∷ text_fields
    ++ flag 0 ∷ char "I" ∷ bitmap_fields
    ++ flag 0 ∷ []

abbrev file : List ℕ
file = bytes items

abbrev tree : Drawing
tree =
    record {
      version = 1;
      settings = absent;
      members = of_list
          (leaf (path first_value) []
          ∷ group (of_list (group (of_list (leaf (path second_value) [] ∷ [])) [] ∷ leaf (text text_value) [] ∷ [])) []
          ∷ leaf (bitmap bitmap_value) []
          ∷ []);
      description = [];
    }

-- Kind, parent, start and length of each row.
abbrev contents : List ℕ
contents =
    1 ∷ 0 ∷ 252 ∷ 2
    ∷ 2 ∷ 0 ∷ 2 ∷ 89
    ∷ 1 ∷ 0 ∷ 227 ∷ 2
    ∷ 1 ∷ 2 ∷ 173 ∷ 2
    ∷ 2 ∷ 3 ∷ 91 ∷ 82
    ∷ 3 ∷ 2 ∷ 175 ∷ 52
    ∷ 4 ∷ 0 ∷ 229 ∷ 23
    ∷ []

-- The minor version and the settings flag; then rows 1, 4, 3, 5, 2, 6 and 0, as the objects end.
abbrev body_items : List Item
body_items =
    int 1 ∷ flag 0
    ∷ first_fields
    ++ second_fields ++ int 1 ∷ flag 0 ∷ []
    ++ text_fields ++ int 2 ∷ flag 0 ∷ []
    ++ bitmap_fields ++ int 3 ∷ flag 0 ∷ []

abbrev bodies : List ℕ
bodies = words body_items

whole : Whole file tree contents bodies
unfolding from_zero_to le of_int of_bits
whole = record { reads = refl; writes = refl; rows = refl; words = refl; back = refl }

respelled : Respelled (bytes (map otherwise items)) file tree contents (words (map otherwise body_items))
unfolding from_zero_to le of_int of_bits
respelled = record { reads = refl; made = refl; strict = refl }

-- No body has the words of a description.
descriptions : map (λ row. description_answer contents bodies row) (0 ∷ 6 ∷ 7 ∷ [])
    ≡ record { number = 0; chars = record { start = 0; length = 0 } }
    ∷ record { number = 0; chars = record { start = 0; length = 0 } }
    ∷ record { number = 6; chars = record { start = 0; length = 0 } }
    ∷ []
unfolding from_zero_to le of_int of_bits
descriptions = refl
