use Rattle.chunk_owner.proofs.JoinedLemmas.{is_found_at_home, joined_are_one, whole_is_joined}
use Rattle.chunk_owner.proofs.laws.lanes_are_joined.Goals as goal

pub returns : goal.returns
returns c = record { joined = whole_is_joined; found = is_found_at_home; one = joined_are_one }
