use Rattle.std.proofs.Common.{arith}
use Rattle.samples.specs.Values.Samples.{next_state}
use Rattle.samples.proofs.values.elements.following.Goals as goal

pub returns : goal.returns
unfolding next_state
returns c = omega arith
