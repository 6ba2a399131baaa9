-- The units of a file and of a table.
use Rattle.std.specs.Prelude.{◌≡◌, refl, ◌^◌}
use Rattle.std.proofs.Common.{arith}
use Rattle.drawing.specs.Codecs.{meant, byte_fields, word_fields}
use Rattle.drawing.specs.FlagLaws.{meant-same, meant-plain}
use Rattle.ways.specs.Way.{Units, codec}

abbrev pub file_bytes : Units
file_bytes =
    record {
      base = 256;
      pick = λ bytes words. bytes;
      meant = meant;
      missing = 2;
      meaningless = 5;
      positive = omega arith;
      least = λ n h. h;
      most = λ n h. h;
      own = meant-same;
      plain = meant-plain;
    }

abbrev pub table_words : Units
table_words =
    record {
      base = 2 ^ 32;
      pick = λ bytes words. words;
      meant = λ s x. x;
      missing = 16;
      meaningless = 16;
      positive = omega arith;
      least = λ n h. omega arith;
      most = λ n h. omega arith;
      own = λ s v h. refl;
      plain = λ s x h. refl;
    }

-- The codecs are those of the definitions.
pub of-file : codec file_bytes ≡ byte_fields
of-file = refl

pub of_table : codec table_words ≡ word_fields
of_table = refl
