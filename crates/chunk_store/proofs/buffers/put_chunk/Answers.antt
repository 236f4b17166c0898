use Rattle.std.proofs.Common.{Some, false}
use Rattle.chunk_store.proofs.KeyLemmas.{find-updated}
use Rattle.chunk_store.proofs.buffers.put_chunk.Goals as goal

pub returns-in-Ok-clause-done : goal.returns-in-Ok-clause-done
returns-in-Ok-clause-done c = find-updated c.args.chunks.now c.insert.new.self c.args.index.now (Some (record { bytes = c.args.bytes; dirty = false })) c.in-Ok.ensures.updates
