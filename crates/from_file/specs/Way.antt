-- From a file's bytes to a table's words.
use Rattle.std.specs.Prelude.{refl, ℕ, List, get_or}
use Rattle.std.proofs.Common.{inl, arith, Fits}
use Rattle.std.specs.Int.{w8}
use Rattle.format.specs.Digits.{Below}
use Rattle.format.specs.LeafLaws.{known_below}
use Rattle.ways.specs.Way.{Exact, Way}
use Rattle.ways.specs.CodecUnits.{file_bytes, table_words}

pub exact : Exact file_bytes
exact = record { cut = refl; meaningless-is = refl; holds = λ n. omega arith }

abbrev pub way : Way
way =
    record {
      source = file_bytes;
      target = table_words;
      number = λ n. n;
      place = λ at. at;
      before = λ at. omega arith;
      some = omega arith;
      tells = inl exact;
    }

-- The units that the source's memory holds: the bytes themselves.
abbrev pub units : List ℕ → List ℕ
units us = us

pub units_below : (us : List ℕ) → ((i : ℕ) → Fits w8 (get_or us i 0)) → Below way.source.base (units us)
units_below us known = known_below w8 us known
