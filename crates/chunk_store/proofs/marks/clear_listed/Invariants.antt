use Rattle.std.proofs.Common.{◌≡◌, ℕ, List, is_some, bytes_eq}
use Rattle.std.specs.Map.{lookup}
use Rattle.chunk_store.specs.Cells.{find_in, has}
use Rattle.chunk_store.specs.Changes.{cleaned}
use Rattle.chunk_store.proofs.marks.clear_listed.Given as goal

abbrev pub invariant-loop-index : goal.invariant-loop-index
invariant-loop-index l = (i : List ℕ) → cleaned (is_some (lookup (bytes_eq i) l.index-iterator)) (find_in l.chunks i) ≡ cleaned (has l.listed i) (find_in l.initial.chunks i)
