-- A chunk has a cell.
use Rattle.std.proofs.Common.{ℕ, ◌≤◌, List, [], ◌∷◌, All, arith}
use Rattle.std.proofs.lemmas.Nat.{mul-le}
use Rattle.std.proofs.lemmas.List.Elements.{All-head, All-tail}
use Rattle.shapes.specs.RowMajor.{cell_count}
use Rattle.shapes.specs.ChunkDims.{IsChunkDim}

pub one_cell : (ns : List ℕ) → All IsChunkDim ns → 1 ≤ cell_count ns
one_cell [] h = omega arith
one_cell (n ∷ ns) h = mul-le 1 1 n (cell_count ns) (All-head IsChunkDim n ns h).0 (one_cell ns (All-tail IsChunkDim n ns h))
