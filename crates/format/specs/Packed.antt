-- Numbers that lie in bytes, so many bytes each.
use Rattle.std.specs.Prelude.{ℕ, ◌/◌, List, length}
use Rattle.format.specs.RunLaws.{values_at}

-- The numbers in some bytes, as many as there are whole.
unfoldable pub unpacked : (width : ℕ) → List ℕ → List ℕ
unpacked width bytes = values_at 256 width bytes (length bytes / width) 0
