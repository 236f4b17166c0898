use Rattle.samples.specs.Values.Samples.{state}
use Rattle.samples.proofs.values.elements.Elements.new.Goals as goal

pub returns : goal.returns
unfolding state
returns c = c.from.ensures
