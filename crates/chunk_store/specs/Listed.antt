-- Where a cell stands in a list of cells.
use Rattle.std.specs.Prelude.{◌≡◌, ◌≢◌, ℕ, ◌<◌, List, [], length, slice_index_or}

-- the cell stands at the index `k`, and not again behind it
abbrev pub IsLast : List (List ℕ) → ℕ → List ℕ → Type 0
IsLast ats k at = (k < length ats) × (slice_index_or ats k [] ≡ at) × ((j : ℕ) → k < j → j < length ats → slice_index_or ats j [] ≢ at)

-- the cell stands nowhere in the list
abbrev pub IsNowhere : List (List ℕ) → List ℕ → Type 0
IsNowhere ats at = (j : ℕ) → j < length ats → slice_index_or ats j [] ≢ at

-- each cell stands in the list once
abbrev pub IsOnce : List (List ℕ) → Type 0
IsOnce ats = (j k : ℕ) → j < k → k < length ats → slice_index_or ats j [] ≢ slice_index_or ats k []
