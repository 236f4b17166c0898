-- The runs of a selection in a box by their numbers.
use Rattle.std.specs.Prelude.{◌≡◌, ℕ, ◌+◌, ◌*◌, ◌-◌, ◌%◌, ◌<◌, ◌≤◌, min, List, [], ◌∷◌, map, length}
use Rattle.std.specs.List.{range_with_len}
use Rattle.shapes.specs.RowMajor.{cell_count, digits_by, linear_index}
use Rattle.hyperslab.specs.Selected.{Axis, IsSlab, axes_of, extent, extents}
use Rattle.shapes.specs.ChunkDims.{IsChunk}
use Rattle.hyperslab.specs.declared.numbered.Numbered.{Numbered}
use Rattle.hyperslab.specs.declared.numbered.Row.{Row}
use Rattle.hyperslab.specs.declared.numbered.Last.{Last}
use Rattle.hyperslab.specs.declared.runs.Run.{Run}

-- ---- one axis of a selection, and of a box

pub record Side : Type 0 where
  pub axis : Axis
  pub low : ℕ
  pub wide : ℕ

abbrev pub sides : List Axis → List ℕ → List ℕ → List Side
sides (x ∷ xs) (o ∷ os) (n ∷ ns) = record { axis = x; low = o; wide = n } ∷ sides xs os ns
sides xs os ns = []

-- how many of the axis's numbers are below `end`
abbrev pub below : Axis → ℕ → ℕ
below x end = extent (record { lo = x.lo; hi = min x.hi end; by = x.by })

-- how many of its numbers lie before the box, how many in it, and how many there are
abbrev pub first_of : Side → ℕ
first_of s = below s.axis s.low

abbrev pub count_of : Side → ℕ
count_of s = below s.axis (s.low + s.wide) - below s.axis s.low

abbrev pub extent_of : Side → ℕ
extent_of s = extent s.axis

abbrev pub wide_of : Side → ℕ
wide_of s = s.wide

-- ---- the selected cells of a box by their numbers, which have a digit for each axis

-- the steps from the start of each axis
abbrev pub steps_to : List Side → List ℕ → List ℕ
steps_to (s ∷ ss) (d ∷ ds) = (first_of s + d) ∷ steps_to ss ds
steps_to ss ds = []

-- how far this is from the origin
abbrev pub inner_to : List Side → List ℕ → List ℕ
inner_to (s ∷ ss) (d ∷ ds) = (s.axis.lo + (first_of s + d) * s.axis.by - s.low) ∷ inner_to ss ds
inner_to ss ds = []

-- the linear index among the selected, and in the box
abbrev pub index_to : List Side → ℕ → ℕ
index_to ss j = linear_index (steps_to ss (digits_by (map count_of ss) j)) (map extent_of ss)

abbrev pub offset_to : List Side → ℕ → ℕ
offset_to ss j = linear_index (inner_to ss (digits_by (map count_of ss) j)) (map wide_of ss)

-- how many numbers of the last axis lie in the box, and how far apart they are
abbrev pub last_count : List Side → ℕ
last_count [] = 1
last_count (s ∷ []) = count_of s
last_count (s ∷ (t ∷ ss)) = last_count (t ∷ ss)

abbrev pub last_step : List Side → ℕ
last_step [] = 1
last_step (s ∷ []) = s.axis.by
last_step (s ∷ (t ∷ ss)) = last_step (t ∷ ss)

-- ---- what runs are

abbrev pub sides_of : Numbered → List Side
sides_of r = sides (axes_of r.slab) r.origin r.chunk

pub record AreNumbered (r : Numbered) : Type 0 where
  pub slab : IsSlab r.slab
  pub chunk : IsChunk r.chunk
  pub origin_rank : length r.origin ≡ length r.slab.start
  pub chunk_rank : length r.chunk ≡ length r.slab.start
  pub extents : r.extents ≡ extents r.slab
  pub firsts : r.firsts ≡ map first_of (sides_of r)
  pub counts : r.counts ≡ map count_of (sides_of r)
  pub cells : r.cells ≡ cell_count r.counts
  pub len : r.len ≡ last_count (sides_of r)
  pub stride : r.stride ≡ last_step (sides_of r)
  pub many : r.many * r.len ≡ r.cells
  pub some_len : (k : ℕ) → k < r.many → 0 < r.len

-- the run number `k` begins with the cell number `k * len`
abbrev pub run_of : Numbered → ℕ → Run
run_of r k = record { place = index_to (sides_of r) (k * r.len); offset = offset_to (sides_of r) (k * r.len); stride = r.stride; len = r.len }

-- the runs from a number on
abbrev pub runs_from : Numbered → ℕ → List Run
runs_from r k = map (run_of r) (range_with_len k (r.many - k))

-- ---- one run after another

-- the run after this one in its row
abbrev pub moved : Row → Run → Run
moved w x = record { place = x.place + w.index_step; offset = x.offset + w.offset_step; stride = x.stride; len = x.len }

-- every so many runs are a row
pub record IsRow (r : Numbered) (w : Row) : Type 0 where
  pub some : 1 ≤ w.many
  pub goes : (k : ℕ) → k + 1 < r.many → 0 < (k + 1) % w.many → run_of r (k + 1) ≡ moved w (run_of r k)

-- the run before the number `k`, and how many of its row are left
pub record IsLast (r : Numbered) (w : Row) (k : ℕ) (x : Last) : Type 0 where
  pub ends : (k + x.left) % w.many ≡ 0
  pub few : x.left < w.many
  pub run : 0 < x.left → x.run ≡ run_of r (k - 1)

-- the runs from the number `k` on are left
pub record AreLeft (r : Numbered) (w : Row) (k : ℕ) (x : Last) : Type 0 where
  pub runs : AreNumbered r
  pub row : IsRow r w
  pub next : k ≤ r.many
  pub last : IsLast r w k x
