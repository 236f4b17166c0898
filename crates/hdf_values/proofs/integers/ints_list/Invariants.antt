use Rattle.std.proofs.Common.{◌≡◌, ℕ, ◌+◌, ◌*◌, ◌++◌, length, map}
use Rattle.serde_json.specs.View.{view}
use Rattle.hdf_types.specs.Elems.{int}
use Rattle.hdf_types.specs.Reading.{int_size}
use Rattle.hdf_values.specs.Elements.{decoded}
use Rattle.hdf_values.specs.Nested.{pieces}
use Rattle.hdf_values.proofs.integers.ints_list.Given as goal

-- the rest is whole, and its trees behind those in the list are the trees of all
abbrev pub invariant-loop : goal.invariant-loop
invariant-loop l =
    (rest : ℕ) → l.counter + rest ≡ l.count → (length l.left ≡ rest * int_size l.int.bits)
    × (map view l.list.items ++ map (decoded (int l.int)) (pieces rest (int_size l.int.bits) l.left) ≡ map (decoded (int l.int)) (pieces l.count (int_size l.int.bits) l.bytes))
