-- A file of version 1.0 in full: all settings, with a paper of its own size; arrows for markers, and none in the middle; segments
-- with start points of their own, one of them a NaN; groups in groups; no descriptions.
use Rattle.std.specs.Prelude.{refl, ℕ, List, [], ◌∷◌, ◌++◌, map}
use Rattle.std.proofs.Math.Option.{none, some}
use Prim.Native.Char.{code}
use Rattle.std.specs.Float.Ieee.{le, of_int, of_bits}
use Rattle.format.specs.FloatRange.{from_zero_to}
use Rattle.drawing.specs.Paint.{transparent, rgb, cmyk, plain, linear}
use Rattle.drawing.specs.Path.{Path, curve, line, move}
use Rattle.drawing.specs.Text.{Text}
use Rattle.drawing.specs.Bitmap.{Bitmap}
use Rattle.drawing.specs.Settings.{Settings, all}
use Rattle.drawing.specs.Object.{path, text, bitmap, leaf, group, of_list}
use Rattle.drawing.specs.Drawing.{Drawing}
use Rattle.drawing.specs.examples.Whole.{Whole, Respelled}
use Rattle.drawing.specs.examples.Bytes.{Item, byte, flag, int, float, double, char, string, codes, bytes, words, floats, doubles, head, at, otherwise}

-- ---- the settings

abbrev settings_fields : List Item
settings_fields =
    flag 1
    -- grid, lock, rulers; tool, normal size
    ∷ flag 1 ∷ flag 0 ∷ flag 0 ∷ int 7 ∷ int 0xFFFF_FFFE
    -- paper: size, width, height, portrait
    ∷ byte 18 ∷ double 0x4072_C000_0000_0001 ∷ double 0xC082_C000_0000_0002 ∷ flag 1
    -- unit, major and minor division
    ∷ byte 3 ∷ int 0x0102_0304 ∷ int 0x8000_0000
    ∷ []

abbrev settings_value : Settings
settings_value =
    all
    (record { grid = 1; lock = 0; rulers = 0; tool = 7; normal_size = 0xFFFF_FFFE; paper = record { size = 18; width = 0x4072_C000_0000_0001; height = 0xC082_C000_0000_0002; portrait = 1 }; unit = 3; major = 0x0102_0304; minor = 0x8000_0000 })

-- ---- row 1: an open path with dashes, a mitre limit and two arrows

abbrev open_fields : List Item
open_fields =
    -- line paint, fill paint
    char "R" ∷ floats (0x3F00_0001 ∷ 0x3F00_0002 ∷ 0x3F00_0003 ∷ 0x3F80_0000 ∷ [])
    ++ char "C" ∷ floats (0x0000_0000 ∷ 0x8000_0000 ∷ 0x0000_0001 ∷ 0x3F7F_FFFF ∷ 0x3E00_0004 ∷ [])
    -- width, dash count, lengths, offset; cap, join, mitre limit, winding
    ++ float 0xBF80_0000 ∷ int 2 ∷ float 0x4000_0005 ∷ float 0x7FC0_0006 ∷ float 0x4000_0007 ∷ []
    ++ byte 1 ∷ byte 0 ∷ float 0x4000_0008 ∷ byte 1 ∷ []
    -- start marker, end marker: id, size, double, reversed
    ++ byte 7 ∷ float 0x4000_0009 ∷ flag 1 ∷ flag 0 ∷ []
    ++ byte 1 ∷ float 0x4000_000A ∷ flag 0 ∷ flag 1 ∷ []
    -- four segments, each with its own start point first; the second starts at a signalling NaN, the fourth at minus zero
    ++ char "O" ∷ int 4 ∷ []
    ++ char "B" ∷ doubles (0x11_0000_0021 ∷ 0x12_0000_0022 ∷ 0x13_0000_0023 ∷ 0x14_0000_0024 ∷ 0x15_0000_0025 ∷ 0x16_0000_0026 ∷ 0x7FF0_0000_0000_0001 ∷ 0x17_0000_0027 ∷ [])
    ++ char "L" ∷ doubles (0x7FF0_0000_0000_0001 ∷ 0x17_0000_0027 ∷ 0x18_0000_0028 ∷ 0x19_0000_0029 ∷ [])
    ++ char "M" ∷ doubles (0x18_0000_0028 ∷ 0x19_0000_0029 ∷ 0x1A_0000_002A ∷ 0x8000_0000_0000_0000 ∷ [])
    ++ char "L" ∷ doubles (0x1A_0000_002A ∷ 0x8000_0000_0000_0000 ∷ 0x1B_0000_002B ∷ 0x1C_0000_002C ∷ [])
    ++ flag 0 ∷ []

abbrev open_value : Path
open_value =
    record {
      line_paint = plain (rgb 0x3F00_0001 0x3F00_0002 0x3F00_0003 0x3F80_0000);
      fill_paint = plain (cmyk 0x0000_0000 0x8000_0000 0x0000_0001 0x3F7F_FFFF 0x3E00_0004);
      style = record {
        width = 0xBF80_0000;
        dashes = 0x4000_0005 ∷ 0x7FC0_0006 ∷ [];
        dash_offset = 0x4000_0007;
        cap = 1;
        join = 0;
        mitre_limit = 0x4000_0008;
        winding = 1;
        start = record { id = 7; size = 0x4000_0009; double = 1; repeat = 0; reversed = 0; angle = none; paint = transparent; overlay = 0; offset = none; repeat_offset = none } ∷ [];
        mid = [];
        end = record { id = 1; size = 0x4000_000A; double = 0; repeat = 0; reversed = 1; angle = none; paint = transparent; overlay = 0; offset = none; repeat_offset = none } ∷ [];
      };
      outline = record {
        open_or_closed = code "O";
        start = at 0 0;
        segments = curve (at 0x11_0000_0021 0x12_0000_0022) (at 0x13_0000_0023 0x14_0000_0024) (at 0x15_0000_0025 0x16_0000_0026) (at 0x7FF0_0000_0000_0001 0x17_0000_0027)
            ∷ line (at 0x7FF0_0000_0000_0001 0x17_0000_0027) (at 0x18_0000_0028 0x19_0000_0029)
            ∷ move (at 0x18_0000_0028 0x19_0000_0029) (at 0x1A_0000_002A 0x8000_0000_0000_0000)
            ∷ line (at 0x1A_0000_002A 0x8000_0000_0000_0000) (at 0x1B_0000_002B 0x1C_0000_002C)
            ∷ [];
      };
    }

-- ---- row 5: a bitmap without LaTeX strings

abbrev picture_fields : List Item
picture_fields =
    string "pic" ∷ flag 0 ∷ doubles (0x31_0000_0041 ∷ 0x32_0000_0042 ∷ 0x33_0000_0043 ∷ 0x34_0000_0044 ∷ 0x35_0000_0045 ∷ 0x36_0000_0046 ∷ [])
    ++ flag 0 ∷ []

abbrev picture_value : Bitmap
picture_value =
    record {
      name = codes "pic";
      latex = none;
      transformation = 0x31_0000_0041 ∷ 0x32_0000_0042 ∷ 0x33_0000_0043 ∷ 0x34_0000_0044 ∷ 0x35_0000_0045 ∷ 0x36_0000_0046 ∷ [];
    }

-- ---- row 6: a text without LaTeX fields

abbrev plain_fields : List Item
plain_fields =
    -- family, shape, series, size
    string "Ari" ∷ byte 1 ∷ byte 0 ∷ int 12
    ∷ doubles (0x51_0000_0061 ∷ 0x52_0000_0062 ∷ 0x53_0000_0063 ∷ 0x54_0000_0064 ∷ 0x55_0000_0065 ∷ 0x56_0000_0066 ∷ [])
    -- no LaTeX; paint, text
    ++ flag 0 ∷ char "T" ∷ string "Hi!!" ∷ flag 0 ∷ []

abbrev plain_value : Text
plain_value =
    record {
      style = record {
        family = codes "Ari";
        shape = 1;
        series = 0;
        size = 12;
        transformation = 0x51_0000_0061 ∷ 0x52_0000_0062 ∷ 0x53_0000_0063 ∷ 0x54_0000_0064 ∷ 0x55_0000_0065 ∷ 0x56_0000_0066 ∷ [];
        latex = none;
      };
      paint = plain transparent;
      text = codes "Hi!!";
    }

-- ---- row 7: a closed path, with a gradient, and without dashes, mitre limit and arrows

abbrev closed_fields : List Item
closed_fields =
    char "T" ∷ char "G"
    ∷ char "R" ∷ floats (0x3E80_0001 ∷ 0x3E80_0002 ∷ 0x3E80_0003 ∷ 0x3E80_0004 ∷ [])
    ++ char "C" ∷ floats (0x3E80_0005 ∷ 0x3E80_0006 ∷ 0x3E80_0007 ∷ 0x3E80_0008 ∷ 0x3E80_0009 ∷ [])
    ++ int 7 ∷ []
    -- width, dash count; cap, join, winding; start marker, end marker
    ++ float 0x4000_000B ∷ int 0 ∷ byte 2 ∷ byte 1 ∷ byte 0 ∷ byte 0 ∷ byte 0 ∷ []
    ++ char "C" ∷ int 1 ∷ char "L" ∷ doubles (0x71_0000_0081 ∷ 0x72_0000_0082 ∷ 0x73_0000_0083 ∷ 0x74_0000_0084 ∷ [])
    ++ flag 0 ∷ []

abbrev closed_value : Path
closed_value =
    record {
      line_paint = plain transparent;
      fill_paint = linear (rgb 0x3E80_0001 0x3E80_0002 0x3E80_0003 0x3E80_0004) (cmyk 0x3E80_0005 0x3E80_0006 0x3E80_0007 0x3E80_0008 0x3E80_0009) 7;
      style = record { width = 0x4000_000B; dashes = []; dash_offset = 0; cap = 2; join = 1; mitre_limit = 0; winding = 0; start = []; mid = []; end = [] };
      outline = record {
        open_or_closed = code "C";
        start = at 0 0;
        segments = line (at 0x71_0000_0081 0x72_0000_0082) (at 0x73_0000_0083 0x74_0000_0084) ∷ [];
      };
    }

-- ---- row 8: a bitmap with its LaTeX strings

abbrev linked_fields : List Item
linked_fields =
    string "b" ∷ flag 1 ∷ string "link" ∷ string "\\cmd"
    ∷ doubles (0x91_0000_00A1 ∷ 0x92_0000_00A2 ∷ 0x93_0000_00A3 ∷ 0x94_0000_00A4 ∷ 0x95_0000_00A5 ∷ 0x96_0000_00A6 ∷ [])
    ++ flag 0 ∷ []

abbrev linked_value : Bitmap
linked_value =
    record {
      name = codes "b";
      latex = some (record { link = codes "link"; command = codes "\\cmd" });
      transformation = 0x91_0000_00A1 ∷ 0x92_0000_00A2 ∷ 0x93_0000_00A3 ∷ 0x94_0000_00A4 ∷ 0x95_0000_00A5 ∷ 0x96_0000_00A6 ∷ [];
    }

-- ---- row 9: a text with LaTeX fields and an empty alternative; its family is empty too

abbrev latex_fields : List Item
latex_fields =
    string "" ∷ byte 0 ∷ byte 1 ∷ int 0x7FFF_FFFF
    ∷ doubles (0xB1_0000_00C1 ∷ 0xB2_0000_00C2 ∷ 0xB3_0000_00C3 ∷ 0xB4_0000_00C4 ∷ 0xB5_0000_00C5 ∷ 0xB6_0000_00C6 ∷ [])
    -- LaTeX family, series, shape, size, horizontal, vertical, alternative
    ++ flag 1 ∷ string "f" ∷ string "se" ∷ string "sha" ∷ string "size" ∷ byte 2 ∷ byte 3 ∷ string "" ∷ []
    ++ char "C" ∷ floats (0x3D00_0001 ∷ 0x3D00_0002 ∷ 0x3D00_0003 ∷ 0x3D00_0004 ∷ 0x3D00_0005 ∷ [])
    ++ string "z" ∷ flag 0 ∷ []

abbrev latex_value : Text
latex_value =
    record {
      style = record {
        family = [];
        shape = 0;
        series = 1;
        size = 0x7FFF_FFFF;
        transformation = 0xB1_0000_00C1 ∷ 0xB2_0000_00C2 ∷ 0xB3_0000_00C3 ∷ 0xB4_0000_00C4 ∷ 0xB5_0000_00C5 ∷ 0xB6_0000_00C6 ∷ [];
        latex = some (record { family = codes "f"; series = codes "se"; shape = codes "sha"; size = codes "size"; horizontal = 2; vertical = 3; alternative = [] });
      };
      paint = plain (cmyk 0x3D00_0001 0x3D00_0002 0x3D00_0003 0x3D00_0004 0x3D00_0005);
      text = codes "z";
    }

-- ---- the file: groups are rows 0, 2, 3 and 4

abbrev items : List Item
items =
    head "0" ++ settings_fields
    ++ char "G" ∷ int 4 ∷ char "P" ∷ open_fields
    ++ char "G" ∷ int 3
    ∷ char "G" ∷ int 1
    ∷ char "G" ∷ int 1 ∷ char "I" ∷ picture_fields
    ++ flag 0 ∷ flag 0 ∷ char "T" ∷ plain_fields
    ++ char "P" ∷ closed_fields
    ++ flag 0 ∷ char "I" ∷ linked_fields
    ++ char "T" ∷ latex_fields
    ++ flag 0 ∷ []

abbrev file : List ℕ
file = bytes items

abbrev tree : Drawing
tree =
    record {
      version = 0;
      settings = settings_value;
      members = of_list
          (leaf (path open_value) []
          ∷ group (of_list (group (of_list (group (of_list (leaf (bitmap picture_value) [] ∷ [])) [] ∷ [])) [] ∷ leaf (text plain_value) [] ∷ leaf (path closed_value) [] ∷ [])) []
          ∷ leaf (bitmap linked_value) []
          ∷ leaf (text latex_value) []
          ∷ []);
      description = [];
    }

-- Kind, parent, start and length of each row.
abbrev contents : List ℕ
contents =
    1 ∷ 0 ∷ 244 ∷ 2
    ∷ 2 ∷ 0 ∷ 16 ∷ 75
    ∷ 1 ∷ 0 ∷ 173 ∷ 2
    ∷ 1 ∷ 2 ∷ 111 ∷ 2
    ∷ 1 ∷ 3 ∷ 109 ∷ 2
    ∷ 4 ∷ 4 ∷ 91 ∷ 18
    ∷ 3 ∷ 2 ∷ 113 ∷ 27
    ∷ 2 ∷ 2 ∷ 140 ∷ 33
    ∷ 4 ∷ 0 ∷ 175 ∷ 26
    ∷ 3 ∷ 0 ∷ 201 ∷ 43
    ∷ []

-- The minor version and the settings; then rows 1, 5, 4, 3, 6, 7, 2, 8, 9 and 0, as the objects end.
abbrev body_items : List Item
body_items =
    int 0 ∷ settings_fields
    ++ open_fields
    ++ picture_fields ++ int 1 ∷ flag 0 ∷ [] ++ int 1 ∷ flag 0 ∷ []
    ++ plain_fields ++ closed_fields ++ int 3 ∷ flag 0 ∷ []
    ++ linked_fields ++ latex_fields ++ int 4 ∷ flag 0 ∷ []

abbrev bodies : List ℕ
bodies = words body_items

whole : Whole file tree contents bodies
unfolding from_zero_to le of_int of_bits
whole = record { reads = refl; writes = refl; rows = refl; words = refl; back = refl }

respelled : Respelled (bytes (map otherwise items)) file tree contents (words (map otherwise body_items))
unfolding from_zero_to le of_int of_bits
respelled = record { reads = refl; made = refl; strict = refl }
