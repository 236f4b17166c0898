use Rattle.std.proofs.Common.{◌≡◌, ◌<◌, ◌++◌, drop, map, length}
use Rattle.shapes.specs.RowMajor.{cell_count, digits_by}
use Rattle.chunk_store.specs.Touched.{slots_of, chunks_to, layers, touched_at}
use Rattle.chunk_store.proofs.touched.Touched.index.Given as goal

abbrev pub invariant-loop-axis : goal.invariant-loop-axis
invariant-loop-axis l =
    let ss = drop l.axis (layers l.self.slab l.self.chunk) in
    record {
      left_so : l.left ≡ cell_count (map slots_of ss);
      rest_so : l.rest < l.left;
      long : length l.index ≡ l.axis;
      index_so : l.index ++ chunks_to ss (digits_by (map slots_of ss) l.rest) ≡ touched_at l.self.slab l.self.chunk l.number;
    }
