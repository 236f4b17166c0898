use Rattle.std.proofs.Common.{◌≡◌, ℕ, ◌+◌, ◌*◌, length, map}
use Rattle.hdf_types.specs.Elems.{int}
use Rattle.hdf_types.specs.Reading.{int_size}
use Rattle.hdf_values.specs.Elements.{decoded}
use Rattle.hdf_values.specs.Nested.{pieces}
use Rattle.hdf_values.specs.Printed.{list_tokens}
use Rattle.hdf_values.proofs.PrintLemmas.{IsUnderway}
use Rattle.hdf_values.proofs.printing.numbers.write_ints.Given as goal

-- the rest is whole, and its numbers are still to come
abbrev pub invariant-loop : goal.invariant-loop
invariant-loop l =
    let size = int_size l.int.bits in
    (rest : ℕ) → l.counter + rest ≡ l.count → (length l.left ≡ rest * size)
    × IsUnderway (list_tokens (map (decoded (int l.int)) (pieces l.count size l.bytes))) l.fn.writer (list_tokens (map (decoded (int l.int)) (pieces rest size l.left))) l.writer
