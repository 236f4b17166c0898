use Rattle.std.proofs.Common.{◌≡◌, ℕ, ◌+◌, ◌*◌, length, map}
use Rattle.hdf_types.specs.Reading.{size_of}
use Rattle.hdf_types.specs.Views.{elem}
use Rattle.shapes.specs.RowMajor.{cell_count}
use Rattle.hdf_values.specs.Nested.{nested_decoded, AreEncoded, pieces}
use Rattle.hdf_values.specs.Printed.{list_tokens}
use Rattle.hdf_values.proofs.PrintLemmas.{IsUnderway}
use Rattle.hdf_values.proofs.printing.nested.+lists.Given as goal

abbrev pub decreases-write_axes : goal.decreases-write_axes
decreases-write_axes l = 2 * length l.extents.now

abbrev pub decreases-write_members : goal.decreases-write_members
decreases-write_members l = 2 * length l.extents.now + 1

-- the rest is whole, and its trees are still to come
abbrev pub invariant-write_members-loop : goal.invariant-write_members-loop
invariant-write_members-loop l =
    let e = elem l.kind in
    let size = cell_count l.extents * size_of e in
    (rest : ℕ) → l.counter + rest ≡ l.count → AreEncoded e (rest * cell_count l.extents) l.left
    × IsUnderway (list_tokens (map (nested_decoded e l.extents) (pieces l.count size l.bytes))) l.fn.writer (list_tokens (map (nested_decoded e l.extents) (pieces rest size l.left))) l.writer
