use Rattle.chunk_owner.proofs.LawLemmas.{others_stay}
use Rattle.chunk_owner.proofs.laws.others_stay.Goals as goal

pub returns : goal.returns
returns c = others_stay
