-- The chunks that a write adds.
use Rattle.std.specs.Prelude.{◌≡◌, ℕ, ◌&&◌, not, List, length}
use Rattle.std.specs.BTreeMap.{BTreeMap}
use Rattle.std.specs.List.{list_any}
use Rattle.std.specs.Str.{bytes_eq}
use Rattle.chunk_store.specs.Buffers.{ChunkMap}
use Rattle.chunk_store.specs.Cells.{has}
use Rattle.chunk_store.specs.Listed.{IsOnce}
use Rattle.chunk_store.specs.Marks.{Stored, is_known, touches}

-- the chunks that these cells touch and of which nothing is known are so many, each counted once
pub record Adds (s : Stored) (ats : List (List ℕ)) (many : ℕ) : Type 0 where
  pub chunks : List (List ℕ)
  pub these : (i : List ℕ) → list_any (bytes_eq i) chunks ≡ (touches s.grid.chunk ats i && not (is_known s i))
  pub once : IsOnce chunks
  pub counted : length chunks ≡ many

-- the map has the chunks that these cells touch and that are not held
abbrev pub AreNew : {X : Type 0} → ChunkMap → List ℕ → List (List ℕ) → BTreeMap (List ℕ) X → Type 0
AreNew m chunk ats new = (i : List ℕ) → has new i ≡ (touches chunk ats i && not (has m i))
