-- Runs that cover the cells of a selection that lie in a box.
use Rattle.std.specs.Prelude.{◌≡◌, ℕ, ◌+◌, ◌*◌, ◌-◌, ◌<◌, ◌≤◌, List, [], ◌∷◌, length, slice_index_or}
use Rattle.shapes.specs.RowMajor.{cell_count, linear_index}
use Rattle.hyperslab.specs.Selected.{extents, cell_at}
use Rattle.hyperslab.specs.declared.Slab.{Slab}
use Rattle.hyperslab.specs.declared.runs.Run.{Run}

-- on each axis at or above the origin, and less than the box's dim past it
abbrev pub InBox : List ℕ → List ℕ → List ℕ → Type 0
InBox [] [] [] = Unit {0}
InBox (x ∷ xs) (o ∷ os) (n ∷ ns) = (o ≤ x) × (x < o + n) × InBox xs os ns
InBox xs os ns = ⊥

-- the coordinates from the origin on
abbrev pub inner : List ℕ → List ℕ → List ℕ
inner [] os = []
inner (x ∷ xs) [] = []
inner (x ∷ xs) (o ∷ os) = (x - o) ∷ inner xs os

-- the linear index in the box (row-major)
abbrev pub offset_from : List ℕ → List ℕ → List ℕ → ℕ
offset_from at origin dims = linear_index (inner at origin) dims

-- the selected cell number `p` lies in the box, at the offset `o`
pub record IsBoxed (s : Slab) (origin dims : List ℕ) (p o : ℕ) : Type 0 where
  pub selected : p < cell_count (extents s)
  pub inside : InBox (cell_at s p) origin dims
  pub offset : offset_from (cell_at s p) origin dims ≡ o

-- ---- runs by their numbers, and the steps of each

abbrev pub run_at : List Run → ℕ → Run
run_at runs k = slice_index_or runs k (record { place = 0; offset = 0; stride = 0; len = 0 })

abbrev pub IsStep : List Run → ℕ → ℕ → Type 0
IsStep runs k i = (k < length runs) × (i < (run_at runs k).len)

abbrev pub index_at : Run → ℕ → ℕ
index_at r i = r.place + i

abbrev pub offset_at : Run → ℕ → ℕ
offset_at r i = r.offset + i * r.stride

-- a run has a step, and its steps are apart in the box
pub record IsRun (r : Run) : Type 0 where
  pub some : 1 ≤ r.len
  pub apart : 1 ≤ r.stride

abbrev pub AreRuns : List Run → Type 0
AreRuns runs = (k : ℕ) → k < length runs → IsRun (run_at runs k)

-- each step is a selected cell in the box, with its linear index and offset
abbrev pub AreBoxed : Slab → List ℕ → List ℕ → List Run → Type 0
AreBoxed s origin dims runs = (k i : ℕ) → IsStep runs k i → IsBoxed s origin dims (index_at (run_at runs k) i) (offset_at (run_at runs k) i)

-- a run has a step with this linear index
pub record IsInRun (runs : List Run) (p : ℕ) : Type 0 where
  pub run : ℕ
  pub step : ℕ
  pub is_step : IsStep runs run step
  pub index : index_at (run_at runs run) step ≡ p

-- each selected cell in the box is a step
abbrev pub AreAll : Slab → List ℕ → List ℕ → List Run → Type 0
AreAll s origin dims runs = (p : ℕ) → p < cell_count (extents s) → InBox (cell_at s p) origin dims → IsInRun runs p

-- no two steps have the same linear index
abbrev pub AreOnce : List Run → Type 0
AreOnce runs = (j k i l : ℕ) → IsStep runs j i → IsStep runs k l → index_at (run_at runs j) i ≡ index_at (run_at runs k) l → (j ≡ k) × (i ≡ l)
