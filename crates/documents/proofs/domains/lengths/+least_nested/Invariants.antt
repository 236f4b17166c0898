use Rattle.std.proofs.Common.{length}
use Rattle.documents.proofs.domains.lengths.+least_nested.Given as goal

abbrev pub decreases-least_nested : goal.decreases-least_nested
decreases-least_nested l = length l.dims.now
