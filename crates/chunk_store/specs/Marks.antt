-- Chunks that were written, and the records that stand for an array.
use Rattle.std.specs.Prelude.{◌≡◌, ◌≢◌, is_some, ℕ, ◌+◌, ◌*◌, ◌&&◌, ◌⊎◌, Bool, true, false, cond, nat_eq, nat_lt, nat_le, min, List, [], ◌∷◌, length, take, drop, Option, Some, None, IsSome, refl}
use Rattle.std.specs.List.{flat_map, list_any}
use Rattle.std.specs.Str.{bytes_eq}
use Rattle.std.specs.Map.{lookup}
use Rattle.std.specs.Ordering.{nat_cmp, is_lt}
use Rattle.std.specs.Cmp.Lexicographic.{slice_cmp}
use Rattle.std.specs.declared.cmp.Ordering.TheVariants.{Less, Greater}
use Rattle.std.specs.Coded.{Coded, code_by, coded×, coded_bool, coded_list}
use Rattle.hdf_types.specs.Reading.{size_of}
use Rattle.hdf_values.specs.Nested.{AreEncoded}
use Rattle.shapes.specs.RowMajor.{cell_count}
use Rattle.shapes.specs.Shapes.{LiesIn, lies_in, dims_of}
use Rattle.chunk_layout.specs.Chunks.{quotients, offset_of, corner, chunk_cells}
use Rattle.chunk_store.specs.Cells.{put}
use Rattle.chunk_store.specs.Grids.{Grid, value_at, blank_of, with_values, coded_grid, coded_dims}
use Rattle.chunk_store.specs.Indexes.{IsIndex}

-- an array, and the chunks that were written or installed, each with whether it is dirty
pub record Stored : Type 0 where
  pub grid : Grid
  pub marks : List (List ℕ × Bool)

abbrev pub coded_stored : Coded Stored
coded_stored =
    code_by (Grid × List (List ℕ × Bool)) (coded× coded_grid (coded_list (coded× coded_dims coded_bool))) (λ s. (s.grid, s.marks)) (λ p. record { grid = p.0; marks = p.1 }) (λ s. refl)

-- what is known of a chunk: nothing, or whether it is dirty
abbrev pub state : Stored → List ℕ → Option Bool
state s i = lookup (bytes_eq i) s.marks

abbrev pub flagged : Option Bool → Bool
flagged None = false
flagged (Some b) = b

abbrev pub is_dirty : Stored → List ℕ → Bool
is_dirty s i = flagged (state s i)

-- something is known of the chunk
abbrev pub is_known : Stored → List ℕ → Bool
is_known s i = is_some (state s i)

-- ---- the bytes of a chunk

-- the chunk has a cell of the array
abbrev pub in_grid : Grid → List ℕ → Bool
in_grid h i = nat_eq (length i) (length h.chunk) && lies_in (corner i h.chunk) h.shape

-- the bytes of a chunk's cell, which outside the array is the fill
abbrev pub shown : Grid → List ℕ → List ℕ
shown h at = cond (lies_in at h.shape) (value_at h at) (blank_of h.kind h.fill)

unfoldable pub content : Grid → List ℕ → List ℕ
content h i = flat_map (shown h) (chunk_cells i h.chunk)

unfoldable pub all_blank : Grid → List ℕ → List ℕ
all_blank h i = flat_map (λ at. blank_of h.kind h.fill) (chunk_cells i h.chunk)

-- the body of a chunk's record: nothing where the chunk lies outside the array
abbrev pub body_of : Grid → List ℕ → List ℕ
body_of h i = cond (in_grid h i) (content h i) []

-- ---- records, as a function from a chunk to its body, which is empty where there is no record

-- the body of a chunk's record stands for the chunk, where nothing is known of it, or it is not marked as dirty
abbrev pub Stands : List ℕ → Option Bool → Grid → List ℕ → Type 0
Stands body None h i = (body ≡ []) × (in_grid h i ≡ true → content h i ≡ all_blank h i)
Stands body (Some true) h i = Unit {0}
Stands body (Some false) h i = (in_grid h i ≡ true) × ((body ≡ content h i) ⊎ ((body ≡ []) × (content h i ≡ all_blank h i)))

-- the records stand for each chunk that is not marked as dirty
unfoldable pub IsTracked : (List ℕ → List ℕ) → Stored → Type 0
IsTracked kept s = (i : List ℕ) → Stands (kept i) (state s i) s.grid i

-- the records after those of the dirty chunks are written
abbrev pub cut : (List ℕ → List ℕ) → Stored → List ℕ → List ℕ
cut kept s i = cond (is_dirty s i) (body_of s.grid i) (kept i)

-- what is known of a chunk after that: a chunk outside the array is forgotten
abbrev pub cleared : Bool → Option Bool → Option Bool
cleared inside None = None
cleared inside (Some false) = Some false
cleared inside (Some true) = cond inside (Some false) None

-- the bytes of a cell by the body of its chunk's record
abbrev pub body_value : Grid → List ℕ → List ℕ → List ℕ
body_value h [] at = blank_of h.kind h.fill
body_value h (b ∷ bs) at = take (size_of h.kind) (drop (offset_of at h.chunk * size_of h.kind) (b ∷ bs))

-- the records give each cell its bytes
abbrev pub ReadsAs : (List ℕ → List ℕ) → Grid → Type 0
ReadsAs kept h = (at : List ℕ) → LiesIn at h.shape → body_value h (kept (quotients at h.chunk)) at ≡ value_at h at

-- one of these cells lies in the chunk
abbrev pub touches : List ℕ → List (List ℕ) → List ℕ → Bool
touches chunk ats i = list_any (λ at. bytes_eq (quotients at chunk) i) ats

-- after a write the chunks of the written cells are dirty, and of every other chunk the same is known as before
abbrev pub MarksWritten : Stored → List (List ℕ) → Stored → Type 0
MarksWritten s ats t = (i : List ℕ) → state t i ≡ cond (touches s.grid.chunk ats i) (Some true) (state s i)

-- on one axis, chunk i of width n begins below the new dim, and none of its numbers below the old dim is lost
abbrev pub keeps_axis : (i n old new : ℕ) → Bool
keeps_axis i n old new = nat_lt (i * n) new && nat_le (min (i * n + n) old) new

-- the same on each axis
abbrev pub keeps : List ℕ → List ℕ → List ℕ → List ℕ → Bool
keeps (i ∷ is) (n ∷ ns) (old ∷ olds) (new ∷ news) = keeps_axis i n old new && keeps is ns olds news
keeps is ns olds news = true

-- after other dims each known chunk that lost a cell, or has none left, is dirty, and of every other chunk the same is known as before
abbrev pub after_resize : Bool → Option Bool → Option Bool
after_resize kept None = None
after_resize kept (Some b) = cond kept (Some b) (Some true)

abbrev pub MarksResized : Stored → List ℕ → Stored → Type 0
MarksResized s dims t = (i : List ℕ) → state t i ≡ after_resize (keeps i s.grid.chunk (dims_of s.grid.shape) dims) (state s i)

-- the index of each known chunk, also of one outside the array, has a number for each axis, of 32 bits
abbrev pub AreIndexes : Stored → Type 0
AreIndexes s = (i : List ℕ) → IsSome (state s i) → IsIndex s.grid.chunk i

-- ---- dirty chunks, or all known ones, one after another

abbrev pub ComesAfter : Option (List ℕ) → List ℕ → Type 0
ComesAfter None i = Unit {0}
ComesAfter (Some a) i = slice_cmp nat_cmp a i ≡ Less

-- the key of the first entry
abbrev pub first_key : List (List ℕ × Bool) → Option (List ℕ)
first_key [] = None
first_key (e ∷ es) = Some e.0

abbrev pub is_after : Option (List ℕ) → List ℕ → Bool
is_after None i = true
is_after (Some a) i = is_lt (slice_cmp nat_cmp a i)

-- the entry of a chunk that comes later, and of which this is true
abbrev pub is_later : (Option Bool → Bool) → Option (List ℕ) → List ℕ × Bool → Bool
is_later test after e = test (Some e.1) && is_after after e.0

-- of the chunks that are meant, the least that comes after one, or of all; none where no later one is left
abbrev pub IsNext : (List ℕ → Bool) → Option (List ℕ) → Option (List ℕ) → Type 0
IsNext is_meant after None = (i : List ℕ) → ComesAfter after i → is_meant i ≡ false
IsNext is_meant after (Some i) = (is_meant i ≡ true) × ComesAfter after i × ((j : List ℕ) → ComesAfter after j → is_meant j ≡ true → slice_cmp nat_cmp i j ≢ Greater)

-- the next dirty chunk
abbrev pub IsNextDirty : Stored → Option (List ℕ) → Option (List ℕ) → Type 0
IsNextDirty s after next = IsNext (is_dirty s) after next

-- the next known chunk, dirty or not
abbrev pub IsNextChunk : Stored → Option (List ℕ) → Option (List ℕ) → Type 0
IsNextChunk s after next = IsNext (is_known s) after next

-- each chunk that is meant stands in the list, or comes later
abbrev pub Covers : (List ℕ → Bool) → List (List ℕ) → Option (List ℕ) → Type 0
Covers is_meant done after = (i : List ℕ) → is_meant i ≡ true → (list_any (bytes_eq i) done ≡ true) ⊎ ComesAfter after i

-- the records after those of these chunks are written
abbrev pub recorded : (List ℕ → List ℕ) → Grid → List (List ℕ) → List ℕ → List ℕ
recorded kept h [] = kept
recorded kept h (i ∷ is) = recorded (put kept i (body_of h i)) h is

-- ---- what is installed

-- the bytes are those of a chunk of the array, in which a cell outside the array has the fill
pub record IsChunkOf (h : Grid) (i bytes : List ℕ) : Type 0 where
  pub inside : in_grid h i ≡ true
  pub encoded : AreEncoded h.kind (cell_count h.chunk) bytes
  pub outside : (at : List ℕ) → length at ≡ length h.chunk → quotients at h.chunk ≡ i → lies_in at h.shape ≡ false → body_value h bytes at ≡ blank_of h.kind h.fill

-- the array with the bytes of a chunk
abbrev pub with_chunk : Grid → List ℕ → List ℕ → Grid
with_chunk h i bytes = with_values h (λ at. cond (bytes_eq (quotients at h.chunk) i) (body_value h bytes at) (value_at h at))
