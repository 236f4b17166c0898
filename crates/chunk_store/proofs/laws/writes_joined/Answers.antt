use Rattle.chunk_store.proofs.ValueLemmas.{joined_writes}
use Rattle.chunk_store.proofs.laws.writes_joined.Goals as goal

pub returns : goal.returns
returns c = joined_writes
