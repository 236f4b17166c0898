use Rattle.std.proofs.Common.{◌≡◌, ◌<◌, ◌+◌, ℕ, length}
use Rattle.hdf_values.specs.Nested.{piece_at}
use Rattle.chunk_store.proofs.chunks.are_blanks.Given as goal

abbrev pub invariant-loop-j : goal.invariant-loop-j
invariant-loop-j l = (i : ℕ) → i < l.j → piece_at (length l.blank) (l.first + i) l.bytes ≡ l.blank
