-- The chunk that a grid has where none is asked for.
use Rattle.std.specs.Prelude.{◌≡◌, ℕ, zero, suc, ◌+◌, ◌*◌, ◌/◌, ◌<◌, max, List, [], ◌∷◌, map, nat_eq, if◌then◌else◌}
use Rattle.shapes.specs.RowMajor.{cell_count}
use Rattle.chunk_layout.specs.declared.TheConstants.{DEFAULT_CHUNK_BYTES}

-- the dims, with 0 taken as 1
abbrev pub at_least_one : List ℕ → List ℕ
at_least_one dims = map (λ n. max n 1) dims

abbrev pub largest : List ℕ → ℕ
largest [] = 0
largest (n ∷ ns) = max n (largest ns)

-- the first dim that is `m`, halved and rounded up
abbrev pub halve_first : ℕ → List ℕ → List ℕ
halve_first m [] = []
halve_first m (n ∷ ns) = if nat_eq n m then (n + 1) / 2 ∷ ns else n ∷ halve_first m ns

-- the largest dim, the first among ties, halved and rounded up
abbrev pub halved : List ℕ → List ℕ
halved chunk = halve_first (largest chunk) chunk

-- the same again and again
abbrev pub halved_times : ℕ → List ℕ → List ℕ
halved_times zero chunk = chunk
halved_times (suc k) chunk = halved (halved_times k chunk)

-- the chunk has too many bytes, and a dim that can be halved
abbrev pub IsLarge : ℕ → List ℕ → Type 0
IsLarge size chunk = (DEFAULT_CHUNK_BYTES < size * cell_count chunk) × (1 < largest chunk)

-- the chunk after the fewest halvings after which it isn't large
pub record IsHalvedDown (size : ℕ) (start chunk : List ℕ) : Type 0 where
  pub times : ℕ
  pub made : chunk ≡ halved_times times start
  pub needed : (k : ℕ) → k < times → IsLarge size (halved_times k start)
  pub enough : IsLarge size chunk → ⊥

abbrev pub IsDefault : ℕ → List ℕ → List ℕ → Type 0
IsDefault size dims chunk = IsHalvedDown size (at_least_one dims) chunk
