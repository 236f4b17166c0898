use Rattle.chunk_layout.proofs.DefaultChunks.HalvingLemmas.{default_is, default_only}
use Rattle.chunk_layout.proofs.default_chunks.default_chunk_is_the_default.Goals as goal

pub returns-clause-holds : goal.returns-clause-holds
returns-clause-holds c = default_is

pub returns-clause-only : goal.returns-clause-only
returns-clause-only c = default_only
