-- A file of version 1.5 in full: texts along paths, one with LaTeX fields and one without, beside a path with what 1.4 brought; and what the
-- listing and the three questions answer about it.
use Rattle.std.specs.Prelude.{◌≡◌, refl, false, ℕ, List, [], ◌∷◌, ◌++◌, map, set, negsuc, Float}
use Rattle.std.proofs.Math.Option.{none, some}
use Prim.Native.Char.{code}
use Rattle.std.specs.Float.{fin}
use Rattle.std.specs.Float.Ieee.{le, lt, of_int, of_bits, nan_bits}
use Rattle.format.specs.FloatRange.{from_zero_to, from_zero_below}
use Rattle.drawing.specs.declared.Paint.TheVariants as Enum
use Rattle.drawing.specs.declared.PaintAnswer.TheVariants.{Refused, Plain}
use Rattle.drawing.specs.declared.Which.{Which}
use Rattle.drawing.specs.declared.Which.TheVariants.{Line, Fill, Text as Letters}
use Rattle.drawing.specs.Paint.{transparent, rgb, grey, plain}
use Rattle.drawing.specs.Path.{Path, curve, line, move}
use Rattle.drawing.specs.TextPath.{TextPath}
use Rattle.drawing.specs.Settings.{absent}
use Rattle.drawing.specs.Object.{path, text_path, leaf, group, of_list}
use Rattle.drawing.specs.Drawing.{Drawing}
use Rattle.drawing.specs.Order.{entries}
use Rattle.drawing.specs.Extent.{no_box}
use Rattle.drawing.specs.Computed.{check_answer, paint_answer, text_answer, extent_answer}
use Rattle.drawing.specs.examples.Whole.{Whole, Respelled}
use Rattle.drawing.specs.examples.Bytes.{Item, byte, flag, int, float, char, string, codes, bytes, words, floats, doubles, head, at, otherwise}

-- ---- row 1: a text along an open outline, with LaTeX fields

abbrev aisle_fields : List Item
aisle_fields =
    -- paint
    char "R" ∷ floats (0x3F00_0000 ∷ 0x3E80_0000 ∷ 0x3F40_0000 ∷ 0x3E00_0000 ∷ [])
    -- family, shape, series, size
    ++ string "Times" ∷ byte 1 ∷ byte 0 ∷ int 10
    ∷ doubles (0x51_0000_0061 ∷ 0x52_0000_0062 ∷ 0x53_0000_0063 ∷ 0x54_0000_0064 ∷ 0x55_0000_0065 ∷ 0x56_0000_0066 ∷ [])
    -- LaTeX family, series, shape, size, horizontal, vertical, alternative; text
    ++ flag 1 ∷ string "p" ∷ string "qq" ∷ string "rrr" ∷ string "ssss" ∷ byte 2 ∷ byte 3 ∷ string "$y$" ∷ string "why"
    -- the outline
    ∷ char "O" ∷ int 3 ∷ doubles (0x11_0000_0021 ∷ 0x12_0000_0022 ∷ [])
    ++ char "B" ∷ doubles (0x13_0000_0023 ∷ 0x14_0000_0024 ∷ 0x15_0000_0025 ∷ 0x16_0000_0026 ∷ 0x17_0000_0027 ∷ 0x18_0000_0028 ∷ [])
    ++ char "L" ∷ doubles (0x19_0000_0029 ∷ 0x1A_0000_002A ∷ [])
    ++ char "M" ∷ doubles (0x1B_0000_002B ∷ 0x7FF0_0000_0000_0001 ∷ [])
    ++ flag 0 ∷ string "aisle" ∷ []

abbrev aisle_value : TextPath
aisle_value =
    record {
      text = record {
        style = record {
          family = codes "Times";
          shape = 1;
          series = 0;
          size = 10;
          transformation = 0x51_0000_0061 ∷ 0x52_0000_0062 ∷ 0x53_0000_0063 ∷ 0x54_0000_0064 ∷ 0x55_0000_0065 ∷ 0x56_0000_0066 ∷ [];
          latex = some (record { family = codes "p"; series = codes "qq"; shape = codes "rrr"; size = codes "ssss"; horizontal = 2; vertical = 3; alternative = codes "$y$" });
        };
        paint = plain (rgb 0x3F00_0000 0x3E80_0000 0x3F40_0000 0x3E00_0000);
        text = codes "why";
      };
      outline = record {
        open_or_closed = code "O";
        start = at 0x11_0000_0021 0x12_0000_0022;
        segments = curve (at 0 0) (at 0x13_0000_0023 0x14_0000_0024) (at 0x15_0000_0025 0x16_0000_0026) (at 0x17_0000_0027 0x18_0000_0028)
            ∷ line (at 0 0) (at 0x19_0000_0029 0x1A_0000_002A)
            ∷ move (at 0 0) (at 0x1B_0000_002B 0x7FF0_0000_0000_0001)
            ∷ [];
      };
    }

-- ---- row 3: a text along a closed outline, without LaTeX fields; its family is empty

abbrev ring_fields : List Item
ring_fields =
    char "T" ∷ string "" ∷ byte 0 ∷ byte 1 ∷ int 0x7FFF_FFFF
    ∷ doubles (0x71_0000_0081 ∷ 0x72_0000_0082 ∷ 0x73_0000_0083 ∷ 0x74_0000_0084 ∷ 0x75_0000_0085 ∷ 0x76_0000_0086 ∷ [])
    ++ flag 0 ∷ string "z" ∷ char "C" ∷ int 1 ∷ doubles (0x31_0000_0041 ∷ 0x32_0000_0042 ∷ []) ++ char "L" ∷ doubles (0x33_0000_0043 ∷ 0x34_0000_0044 ∷ [])
    ++ flag 0 ∷ string "b" ∷ []

abbrev ring_value : TextPath
ring_value =
    record {
      text = record {
        style = record {
          family = [];
          shape = 0;
          series = 1;
          size = 0x7FFF_FFFF;
          transformation = 0x71_0000_0081 ∷ 0x72_0000_0082 ∷ 0x73_0000_0083 ∷ 0x74_0000_0084 ∷ 0x75_0000_0085 ∷ 0x76_0000_0086 ∷ [];
          latex = none;
        };
        paint = plain transparent;
        text = codes "z";
      };
      outline = record {
        open_or_closed = code "C";
        start = at 0x31_0000_0041 0x32_0000_0042;
        segments = line (at 0 0) (at 0x33_0000_0043 0x34_0000_0044) ∷ [];
      };
    }

-- ---- row 4: a path with a grey paint and a marker of id 79, grey and with an offset

abbrev path_fields : List Item
path_fields =
    char "Y" ∷ floats (0x3F00_0000 ∷ 0x3F80_0000 ∷ []) ++ char "T" ∷ []
    ++ float 0x4000_0001 ∷ int 0 ∷ byte 1 ∷ byte 1 ∷ byte 0 ∷ []
    ++ byte 79 ∷ float 0x4000_0003 ∷ byte 1 ∷ flag 0 ∷ flag 1 ∷ char "Y" ∷ floats (0x3F00_0001 ∷ 0x3F00_0002 ∷ []) ++ flag 0 ∷ flag 1 ∷ float 0x4000_0006 ∷ flag 0 ∷ byte 0 ∷ []
    ++ byte 0 ∷ byte 0 ∷ char "C" ∷ int 1 ∷ doubles (0x91_0000_00A1 ∷ 0x92_0000_00A2 ∷ []) ++ char "M" ∷ doubles (0x93_0000_00A3 ∷ 0x94_0000_00A4 ∷ [])
    ++ flag 0 ∷ string "" ∷ []

abbrev path_value : Path
path_value =
    record {
      line_paint = plain (grey 0x3F00_0000 0x3F80_0000);
      fill_paint = plain transparent;
      style = record {
        width = 0x4000_0001;
        dashes = [];
        dash_offset = 0;
        cap = 1;
        join = 1;
        mitre_limit = 0;
        winding = 0;
        start = record { id = 79; size = 0x4000_0003; double = 0; repeat = 1; reversed = 0; angle = none; paint = grey 0x3F00_0001 0x3F00_0002; overlay = 0; offset = some 0x4000_0006; repeat_offset = none } ∷ [];
        mid = [];
        end = [];
      };
      outline = record {
        open_or_closed = code "C";
        start = at 0x91_0000_00A1 0x92_0000_00A2;
        segments = move (at 0 0) (at 0x93_0000_00A3 0x94_0000_00A4) ∷ [];
      };
    }

-- ---- the file: groups are rows 0 and 2

abbrev items : List Item
items =
    head "5" ++ byte 0
    ∷ char "G" ∷ int 3
    ∷ char "X" ∷ aisle_fields
    ++ char "G" ∷ int 1 ∷ char "X" ∷ ring_fields
    ++ flag 0 ∷ string "b" ∷ char "P" ∷ path_fields
    ++ flag 0 ∷ string "ab" ∷ []

abbrev file : List ℕ
file = bytes items

abbrev tree : Drawing
tree =
    record {
      version = 5;
      settings = absent;
      members = of_list (leaf (text_path aisle_value) (codes "aisle") ∷ group (of_list (leaf (text_path ring_value) (codes "b") ∷ [])) (codes "b") ∷ leaf (path path_value) [] ∷ []);
      description = codes "ab";
    }

-- Kind, parent, start and length of each row.
abbrev contents : List ℕ
contents =
    1 ∷ 0 ∷ 164 ∷ 5
    ∷ 5 ∷ 0 ∷ 2 ∷ 87
    ∷ 1 ∷ 0 ∷ 123 ∷ 4
    ∷ 5 ∷ 2 ∷ 89 ∷ 34
    ∷ 2 ∷ 0 ∷ 127 ∷ 37
    ∷ []

-- The minor version and the settings; then rows 1, 3, 2, 4 and 0, as the objects end.
abbrev body_items : List Item
body_items =
    int 5 ∷ byte 0 ∷ aisle_fields ++ ring_fields ++ int 1 ∷ flag 0 ∷ string "b" ∷ [] ++ path_fields ++ int 3 ∷ flag 0 ∷ string "ab" ∷ []

abbrev bodies : List ℕ
bodies = words body_items

whole : Whole file tree contents bodies
unfolding from_zero_to from_zero_below le lt of_int of_bits
whole = record { reads = refl; writes = refl; rows = refl; words = refl; back = refl }

respelled : Respelled (bytes (map otherwise items)) file tree contents (words (map otherwise body_items))
unfolding from_zero_to from_zero_below le lt of_int of_bits
respelled = record { reads = refl; made = refl; strict = refl }

-- ---- answers

labels : map (λ label. entries label tree) (codes "aisle" ∷ [] ∷ codes "b" ∷ codes "why" ∷ []) ≡ (1 ∷ []) ∷ (4 ∷ []) ∷ (2 ∷ 3 ∷ []) ∷ [] ∷ []
labels = refl

-- A text along a path has its text's paint, and none of a path's.
paints : map (λ (q : ℕ × Which). paint_answer contents bodies q.0 q.1) ((1, Letters) ∷ (3, Letters) ∷ (1, Line) ∷ (3, Fill) ∷ (4, Letters) ∷ (4, Fill) ∷ (5, Letters) ∷ [])
    ≡ Plain (Enum.Rgb (fin false 1 (negsuc 0)) (fin false 1 (negsuc 1)) (fin false 3 (negsuc 1)) (fin false 1 (negsuc 2)))
    ∷ Plain Enum.Transparent
    ∷ Refused 7 ∷ Refused 7 ∷ Refused 7
    ∷ Plain Enum.Transparent
    ∷ Refused 6 ∷ []
unfolding from_zero_to from_zero_below le lt of_int of_bits
paints = refl

-- The places of the alternative and of the text.
texts : (text_answer contents bodies 1 ≡ record { number = 0; alternative = record { start = 46; length = 3 }; text = record { start = 50; length = 3 } })
    × (text_answer contents bodies 3 ≡ record { number = 0; alternative = record { start = 0; length = 0 }; text = record { start = 108; length = 1 } })
    × (text_answer contents bodies 4 ≡ record { number = 7; alternative = record { start = 0; length = 0 }; text = record { start = 0; length = 0 } })
unfolding from_zero_to from_zero_below le lt of_int of_bits
texts = (refl, refl, refl)

-- The box of each row: row 1 has a NaN in its last point, rows 0 and 2 are groups, and there is no row 5. In 1.4 the words are no table.
abbrev tiny : ℕ → ℕ → Float
tiny m e = fin false m (negsuc e)

extents : map (λ (q : ℕ × ℕ). extent_answer contents (set bodies 0 q.0) q.1) ((5, 0) ∷ (5, 1) ∷ (5, 2) ∷ (5, 3) ∷ (5, 4) ∷ (5, 5) ∷ (4, 3) ∷ [])
    ≡ record { number = 7; extent = no_box }
    ∷ record { number = 20; extent = no_box }
    ∷ record { number = 7; extent = no_box }
    ∷ record { number = 0; extent = record { left = tiny 0x31_0000_0041 1073; bottom = tiny 0x19_0000_0021 1072; right = tiny 0x33_0000_0043 1073; top = tiny 0xD_0000_0011 1071 } }
    ∷ record { number = 0; extent = record { left = tiny 0x91_0000_00A1 1073; bottom = tiny 0x49_0000_0051 1072; right = tiny 0x93_0000_00A3 1073; top = tiny 0x25_0000_0029 1071 } }
    ∷ record { number = 6; extent = no_box }
    ∷ record { number = 16; extent = no_box }
    ∷ []
unfolding from_zero_to from_zero_below le lt of_int of_bits nan_bits
extents = refl

-- In 1.4 the same words are no table, nor with a path's or a text's kind in the row.
others : ((check_answer contents bodies).number ≡ 0)
    × ((check_answer contents (set bodies 0 4)).number ≡ 16)
    × (map (λ kind. (check_answer (set contents 4 kind) bodies).number) (2 ∷ 3 ∷ 4 ∷ 5 ∷ 6 ∷ []) ≡ 16 ∷ 16 ∷ 16 ∷ 0 ∷ 16 ∷ [])
unfolding from_zero_to from_zero_below le lt of_int of_bits
others = (refl, refl, refl)
