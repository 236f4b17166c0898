use Rattle.std.proofs.Common.{◌≡◌, ◌+◌, ◌*◌, map, drop, length}
use Rattle.serde_json.specs.View.{view}
use Rattle.hdf_types.specs.Views.{field_list}
use Rattle.hdf_types.specs.Reading.{node_at, each_at}
use Rattle.hdf_types.proofs.FieldLemmas.{with_front}
use Rattle.hdf_types.proofs.reading.+read.Given as goal

abbrev pub decreases-node : goal.decreases-node
decreases-node l = 5 * l.levels + 4

abbrev pub decreases-compound : goal.decreases-compound
decreases-compound l = 5 * l.levels + 3

abbrev pub decreases-fields : goal.decreases-fields
decreases-fields l = 5 * l.levels + 2

abbrev pub decreases-each : goal.decreases-each
decreases-each l = 5 * l.levels + 6

abbrev pub decreases-member : goal.decreases-member
decreases-member l = 5 * l.levels + 5

abbrev pub invariant-each-loop-index : goal.invariant-each-loop-index
invariant-each-loop-index l = record {
  read : with_front (field_list l.list.items) (each_at (node_at l.levels) l.path l.index (map view (drop l.index l.items))) ≡ each_at (node_at l.levels) l.path 0 (map view l.items);
  count : length l.list.items ≡ l.index;
}
