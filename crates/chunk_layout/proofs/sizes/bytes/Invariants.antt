use Rattle.std.proofs.Common.{◌≡◌, ◌≤◌, ◌*◌, ◌-◌, ◌^◌, min, drop}
use Rattle.shapes.specs.RowMajor.{cell_count}
use Rattle.chunk_layout.proofs.sizes.bytes.Given as goal

abbrev pub invariant-loop-n : goal.invariant-loop-n
invariant-loop-n l = record {
  product : min (l.total * cell_count (drop l.n-index l.chunk)) (2 ^ 64 - 1) ≡ min (l.size * cell_count l.chunk) (2 ^ 64 - 1);
  capped : l.total ≤ 2 ^ 64 - 1;
}
