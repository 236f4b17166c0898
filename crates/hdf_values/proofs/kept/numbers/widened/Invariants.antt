use Rattle.std.proofs.Common.{◌≡◌, ◌+◌, ◌*◌, ◌≤◌, ℕ, ℤ, List, false, length}
use Rattle.hdf_values.specs.Packed.{ArePacked, plain}
use Rattle.hdf_values.proofs.OfKept.NumberLemmas.{AreWidened}
use Rattle.hdf_values.proofs.kept.numbers.widened.Given as goal

-- the first numbers have 64 bits, and the rest are still to come
abbrev pub invariant-loop : goal.invariant-loop
invariant-loop l =
    (rest : ℕ) → l.counter + rest ≡ l.count → (rest * 4 ≤ length l.left)
    × ((zs : List ℤ) → ArePacked (plain false) l.bytes zs → AreWidened zs l.left l.wide.items rest)
