use Rattle.std.proofs.Common.{length}
use Rattle.hdf_values.proofs.kept.streams.+cells.Given as goal

abbrev pub decreases-cells : goal.decreases-cells
decreases-cells l = length l.extents.now
