-- Counts of faults over several calls.
use Rattle.std.proofs.Common.{ℕ, ◌≤◌, arith}
use Rattle.edge_traits.specs.Causes.{Rose}

-- a count that rose later rose since before
pub rose_since : (first before now : ℕ) → first ≤ before → Rose before now → Rose first now
rose_since first before now le rose = record { later = omega (arith, le, rose.later); rose = omega (arith, le, rose.rose) }
