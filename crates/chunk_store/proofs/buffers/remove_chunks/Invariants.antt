use Rattle.std.proofs.Common.{◌≡◌, ℕ, List, drop}
use Rattle.chunk_store.specs.Buffers.{held_but}
use Rattle.chunk_store.proofs.buffers.remove_chunks.Given as goal

abbrev pub invariant-loop-index : goal.invariant-loop-index
invariant-loop-index l = (i : List ℕ) → held_but (drop l.index-index l.indexes) l.chunks i ≡ held_but l.indexes l.initial.chunks i
