use Rattle.chunk_owner.proofs.JoinedLemmas.{acts_at_home}
use Rattle.chunk_owner.proofs.laws.steps_are_taken_at_home.Goals as goal

pub returns : goal.returns
returns c = acts_at_home
