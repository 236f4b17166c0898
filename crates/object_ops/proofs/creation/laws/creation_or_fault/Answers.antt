-- The relation and the tests in order say the same.
use Rattle.object_ops.proofs.OfCreation.SpelledLemmas.{creation_complete, creation_sound}
use Rattle.object_ops.proofs.creation.laws.creation_or_fault.Goals as goal

pub returns : goal.returns
returns c = λ e s tree p. (creation_sound e s tree p, creation_complete e s tree p)
