-- From a table's words to a file's bytes.
use Rattle.std.specs.Prelude.{ℕ, List, get_or}
use Rattle.std.specs.Int.{w32}
use Rattle.std.proofs.Common.{Fits}
use Rattle.format.specs.Digits.{Below}
use Rattle.format.specs.LeafLaws.{known_below}
use Rattle.ways.specs.Way.{Way}
use Rattle.ways.specs.TableWay.{table_way}

abbrev pub way : Way
way = table_way

-- The units that the source's memory holds: the words themselves.
abbrev pub units : List ℕ → List ℕ
units us = us

pub units_below : (us : List ℕ) → ((i : ℕ) → Fits w32 (get_or us i 0)) → Below way.source.base (units us)
units_below us known = known_below w32 us known
