use Rattle.std.proofs.Common.{◌≡◌, map, drop}
use Rattle.serde_json.specs.View.{view}
use Rattle.hdf_types.specs.Reading.{list_pass}
use Rattle.hdf_types.proofs.members.list_passes.Given as goal

abbrev pub invariant-loop-item : goal.invariant-loop-item
invariant-loop-item l = list_pass (map view (drop l.item-index l.items)) ≡ list_pass (map view l.items)
