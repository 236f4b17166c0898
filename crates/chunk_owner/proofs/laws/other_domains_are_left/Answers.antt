use Rattle.chunk_owner.proofs.KeptLemmas.{others_left, others_unlinked}
use Rattle.chunk_owner.proofs.laws.other_domains_are_left.Goals as goal

pub returns : goal.returns
returns c = record { object = others_left; link = others_unlinked }
