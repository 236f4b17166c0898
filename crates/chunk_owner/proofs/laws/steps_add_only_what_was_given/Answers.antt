use Rattle.chunk_owner.proofs.JoinedLemmas.{adds_only_given}
use Rattle.chunk_owner.proofs.laws.steps_add_only_what_was_given.Goals as goal

pub returns : goal.returns
returns c = adds_only_given
