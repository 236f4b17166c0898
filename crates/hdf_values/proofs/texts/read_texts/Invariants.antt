use Rattle.std.proofs.Common.{◌≡◌, ℕ, ◌*◌, List, [], length, map, drop, Result}
use Rattle.std.specs.List.{AllByRecursion}
use Rattle.serde_json.specs.View.{view}
use Rattle.hdf_types.specs.Elems.{text}
use Rattle.hdf_values.specs.declared.faults.ValueFault.{ValueFault}
use Rattle.hdf_values.specs.Elements.{Fits}
use Rattle.hdf_values.specs.Nested.{AppendsEach}
use Rattle.hdf_values.proofs.texts.read_texts.Given as goal

-- what the rest appends from here, all append from the start
abbrev pub invariant-loop-item : goal.invariant-loop-item
invariant-loop-item l = record {
  place : l.next * l.kind.len ≡ length l.out.items;
  reads : (new : List ℕ) (r : Result ℕ ValueFault) → AppendsEach (text l.kind) [] (map view (drop l.item-index l.items)) l.next l.out.items new r
      → AppendsEach (text l.kind) [] (map view l.items) l.fn.place l.fn.out.items new r;
  fits : AllByRecursion (Fits (text l.kind)) (map view (drop l.item-index l.items)) → AllByRecursion (Fits (text l.kind)) (map view l.items);
}
