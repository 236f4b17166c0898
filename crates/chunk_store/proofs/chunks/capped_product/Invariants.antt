use Rattle.std.proofs.Common.{◌≡◌, ◌≤◌, ◌*◌, ◌-◌, ◌^◌, min, drop}
use Rattle.shapes.specs.RowMajor.{cell_count}
use Rattle.chunk_store.proofs.chunks.capped_product.Given as goal

abbrev pub invariant-loop-n : goal.invariant-loop-n
invariant-loop-n l = record {
  product : min (l.total * cell_count (drop l.n-index l.dims)) (2 ^ 64 - 1) ≡ min (cell_count l.dims) (2 ^ 64 - 1);
  capped : l.total ≤ 2 ^ 64 - 1;
}
