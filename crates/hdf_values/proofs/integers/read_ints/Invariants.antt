use Rattle.std.proofs.Common.{◌≡◌, ℕ, ◌*◌, List, [], length, map, drop, Result}
use Rattle.std.specs.List.{AllByRecursion}
use Rattle.serde_json.specs.View.{view}
use Rattle.hdf_types.specs.Elems.{int}
use Rattle.hdf_types.specs.Reading.{int_size}
use Rattle.hdf_values.specs.declared.faults.ValueFault.{ValueFault}
use Rattle.hdf_values.specs.Elements.{Fits}
use Rattle.hdf_values.specs.Nested.{AppendsEach}
use Rattle.hdf_values.proofs.integers.read_ints.Given as goal

-- what the rest appends from here, all append from the start
abbrev pub invariant-loop-item : goal.invariant-loop-item
invariant-loop-item l = record {
  place : l.next * int_size l.int.bits ≡ length l.out.items;
  reads : (new : List ℕ) (r : Result ℕ ValueFault) → AppendsEach (int l.int) [] (map view (drop l.item-index l.items)) l.next l.out.items new r
      → AppendsEach (int l.int) [] (map view l.items) l.fn.place l.fn.out.items new r;
  fits : AllByRecursion (Fits (int l.int)) (map view (drop l.item-index l.items)) → AllByRecursion (Fits (int l.int)) (map view l.items);
}
