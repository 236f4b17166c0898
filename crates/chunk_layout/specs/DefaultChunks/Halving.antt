-- The chunk that a grid has where none is asked for, as a function of its dims.
use Rattle.std.specs.Prelude.{ℕ, zero, suc, ◌*◌, ◌&&◌, Bool, List, sum, nat_lt, if◌then◌else◌}
use Rattle.shapes.specs.RowMajor.{cell_count}
use Rattle.chunk_layout.specs.declared.TheConstants.{DEFAULT_CHUNK_BYTES}
use Rattle.chunk_layout.specs.Defaults.{at_least_one, largest, halved}

-- the chunk has too many bytes, and a dim that can be halved
abbrev pub is_large : ℕ → List ℕ → Bool
is_large size chunk = nat_lt DEFAULT_CHUNK_BYTES (size * cell_count chunk) && nat_lt 1 (largest chunk)

-- halved while it is large, at most so many times
abbrev pub halved_while : ℕ → ℕ → List ℕ → List ℕ
halved_while zero size chunk = chunk
halved_while (suc k) size chunk = if is_large size chunk then halved_while k size (halved chunk) else chunk

-- each halving lowers the sum of the dims, so it is always times enough
unfoldable pub default_chunk : ℕ → List ℕ → List ℕ
default_chunk size dims = halved_while (sum (at_least_one dims)) size (at_least_one dims)
