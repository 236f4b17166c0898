use Rattle.std.proofs.Common.{◌≡◌, ◌*◌, ◌-◌, ◌^◌, min, drop}
use Rattle.shapes.specs.RowMajor.{cell_count}
use Rattle.hdf_values.proofs.nested.room_ahead.Given as goal

abbrev pub invariant-loop-extent : goal.invariant-loop-extent
invariant-loop-extent l = min (l.room * cell_count (drop l.extent-index l.extents)) (2 ^ 64 - 1) ≡ min (l.size * cell_count l.extents) (2 ^ 64 - 1)
