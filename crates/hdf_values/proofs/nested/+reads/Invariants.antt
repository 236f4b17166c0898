use Rattle.std.proofs.Common.{◌≡◌, ℕ, ◌+◌, ◌*◌, List, length, map, drop, Result}
use Rattle.std.specs.List.{AllByRecursion}
use Rattle.serde_json.specs.View.{view}
use Rattle.hdf_types.specs.Views.{elem}
use Rattle.hdf_values.specs.declared.faults.ValueFault.{ValueFault}
use Rattle.hdf_values.specs.Nested.{FitsNested, AppendsEach}
use Rattle.hdf_values.proofs.nested.+reads.Given as goal

abbrev pub decreases-read_axes : goal.decreases-read_axes
decreases-read_axes l = 2 * length l.extents.now

abbrev pub decreases-read_members : goal.decreases-read_members
decreases-read_members l = 2 * length l.extents.now + 1

-- what the rest appends from here, all members append from the start
abbrev pub invariant-read_members-loop-item : goal.invariant-read_members-loop-item
invariant-read_members-loop-item l = record {
  place : l.next * l.size ≡ length l.out.items;
  reads : (new : List ℕ) (r : Result ℕ ValueFault) → AppendsEach (elem l.kind) l.extents (map view (drop l.item-index l.items)) l.next l.out.items new r
      → AppendsEach (elem l.kind) l.extents (map view l.items) l.fn.place l.fn.out.items new r;
  fits : AllByRecursion (FitsNested (elem l.kind) l.extents) (map view (drop l.item-index l.items)) → AllByRecursion (FitsNested (elem l.kind) l.extents) (map view l.items);
}
