-- Layouts, and the creation properties that ask for them.
use Rattle.std.specs.Prelude.{◌≡◌, ℕ, ◌*◌, ◌≤◌, ◌⊎◌, List, length, All, Some, None, codes}
use Rattle.serde_json.specs.Data.{Data, Members, object, number, unsigned}
use Rattle.serde_json.specs.Find.{get}
use Rattle.shapes.specs.Extents.{SpellsList}
use Rattle.shapes.specs.RowMajor.{cell_count}
use Rattle.shapes.specs.declared.TheConstants.{MAX_CHUNK_BYTES}
use Rattle.chunk_layout.specs.Chunks.{IsChunkDim}
use Rattle.chunk_layout.specs.Defaults.{IsDefault}
use Rattle.json_trees.specs.Trees.{HasClass}

-- a chunk for a grid of these dims, with elements of this size
pub record Fits (size : ℕ) (dims chunk : List ℕ) : Type 0 where
  pub rank : length chunk ≡ length dims
  pub each_dim : All IsChunkDim chunk
  pub bytes : (size * cell_count chunk ≤ MAX_CHUNK_BYTES) ⊎ (cell_count chunk ≡ 1)

-- an object
abbrev pub IsObject : Data → Type 0
IsObject d = (members : Members) × (d ≡ object members)

-- no layout is given, or one without chunks
abbrev pub AsksNone : Data → Type 0
AsksNone d = (get (codes "layout") d ≡ None) ⊎ ((layout : Data) × (get (codes "layout") d ≡ Some layout) × (HasClass (codes "H5D_CONTIGUOUS") layout ⊎ HasClass (codes "H5D_COMPACT") layout))

abbrev pub IsWhole : Data → ℕ → Type 0
IsWhole d n = d ≡ number (unsigned n)

-- the list of whole numbers `dims` of a layout
abbrev pub HasDims : Data → List ℕ → Type 0
HasDims layout ns = (dims : Data) × (get (codes "dims") layout ≡ Some dims) × SpellsList IsWhole dims ns

-- a layout of chunks with these dims is given
abbrev pub AsksChunk : Data → List ℕ → Type 0
AsksChunk d ns = (layout : Data) × (get (codes "layout") d ≡ Some layout) × HasClass (codes "H5D_CHUNKED") layout × HasDims layout ns

-- the chunk that properties give to a grid of these dims
abbrev pub SpellsChunk : Data → List ℕ → ℕ → List ℕ → Type 0
SpellsChunk d dims size chunk = IsObject d × ((AsksNone d × IsDefault size dims chunk) ⊎ (AsksChunk d chunk × Fits size dims chunk))
