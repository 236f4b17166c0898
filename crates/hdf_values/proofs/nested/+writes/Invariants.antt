use Rattle.std.proofs.Common.{◌≡◌, ℕ, ◌+◌, ◌*◌, ◌++◌, length, map}
use Rattle.serde_json.specs.View.{view}
use Rattle.hdf_types.specs.Reading.{size_of}
use Rattle.hdf_types.specs.Views.{elem}
use Rattle.shapes.specs.RowMajor.{cell_count}
use Rattle.hdf_values.specs.Nested.{nested_decoded, AreEncoded, pieces}
use Rattle.hdf_values.proofs.nested.+writes.Given as goal

abbrev pub decreases-axes_tree : goal.decreases-axes_tree
decreases-axes_tree l = 2 * length l.extents.now

abbrev pub decreases-members_list : goal.decreases-members_list
decreases-members_list l = 2 * length l.extents.now + 1

-- the rest is whole, and its trees behind those in the list are the trees of all
abbrev pub invariant-members_list-loop : goal.invariant-members_list-loop
invariant-members_list-loop l =
    (rest : ℕ) → l.counter + rest ≡ l.count → AreEncoded (elem l.kind) (rest * cell_count l.extents) l.left
    × (map view l.list.items ++ map (nested_decoded (elem l.kind) l.extents) (pieces rest (cell_count l.extents * size_of (elem l.kind)) l.left)
    ≡ map (nested_decoded (elem l.kind) l.extents) (pieces l.count (cell_count l.extents * size_of (elem l.kind)) l.bytes))
