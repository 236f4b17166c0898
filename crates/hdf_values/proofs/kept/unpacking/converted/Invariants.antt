use Rattle.std.proofs.Common.{◌≡◌, ℕ, ◌+◌, ◌*◌, ◌≤◌, List, [], length}
use Rattle.hdf_types.specs.Reading.{int_size}
use Rattle.hdf_values.specs.KeptValues.{Converts}
use Rattle.hdf_values.proofs.kept.unpacking.converted.Given as goal

-- what the rest converts to behind the bytes so far, all convert to
abbrev pub invariant-loop : goal.invariant-loop
invariant-loop l =
    (rest : ℕ) → l.counter + rest ≡ l.count → (rest * int_size l.from.bits ≤ length l.left)
    × ((new : List ℕ) → Converts l.from l.to rest l.left l.out.items new → Converts l.from l.to l.count l.bytes [] new)
