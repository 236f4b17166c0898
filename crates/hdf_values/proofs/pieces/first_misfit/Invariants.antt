use Rattle.std.proofs.Common.{length}
use Rattle.hdf_types.specs.Views.{elem}
use Rattle.hdf_values.proofs.PieceLemmas.{IsPassed}
use Rattle.hdf_values.proofs.pieces.first_misfit.Given as goal

abbrev pub invariant-loop-left : goal.invariant-loop-left
invariant-loop-left l = IsPassed (elem l.kind) l.bytes l.index l.left

abbrev pub decreases-loop-left : goal.decreases-loop-left
decreases-loop-left l = length l.left
