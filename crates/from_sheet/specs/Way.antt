-- From a sheet's bodies, a table's words that lie in bytes, to a file's bytes.
use Rattle.std.specs.Prelude.{ℕ, List, get_or}
use Rattle.std.specs.Int.{w8}
use Rattle.std.proofs.Common.{Fits}
use Rattle.format.specs.Digits.{Below}
use Rattle.format.specs.LeafLaws.{known_below}
use Rattle.format.specs.Packed.{unpacked}
use Rattle.format.specs.PackedLaws.{unpacked_below}
use Rattle.ways.specs.Way.{Way}
use Rattle.ways.specs.TableWay.{table_way}

abbrev pub way : Way
way = table_way

-- The units that the source's memory holds: words, of four bytes each.
abbrev pub units : List ℕ → List ℕ
units us = unpacked 4 us

pub units_below : (us : List ℕ) → ((i : ℕ) → Fits w8 (get_or us i 0)) → Below way.source.base (units us)
units_below us known = unpacked_below 4 us (known_below w8 us known)
