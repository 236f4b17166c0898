-- Copies of runs, from elements a stride apart to others.
use Rattle.std.specs.Prelude.{◌≡◌, ℕ, ◌<◌, ◌≤◌, List, length}
use Rattle.hdf_values.specs.Nested.{piece_at}
use Rattle.hyperslab.specs.Runs.{IsStep, run_at}
use Rattle.hyperslab.specs.declared.runs.Run.{Run}
use Rattle.chunk_store.specs.StridedCopies.Strides.{Fit, nth}
use Rattle.chunk_store.specs.declared.strided_copies.copies.Strided.{Strided}
use Rattle.chunk_store.specs.declared.box_copies.moves.Way.{Way}
use Rattle.chunk_store.specs.declared.box_copies.moves.Way.TheVariants.{Read, Fill, Write}

abbrev pub in_selection : Run → Strided
in_selection r = record { first = r.place; stride = 1 }

abbrev pub in_box : Run → Strided
in_box r = record { first = r.offset; stride = r.stride }

abbrev pub target_of : Way → Run → Strided
target_of Read r = in_selection r
target_of Fill r = in_selection r
target_of Write r = in_box r

abbrev pub source_of : Way → Run → Strided
source_of Read r = in_box r
source_of Fill r = record { first = 0; stride = 0 }
source_of Write r = in_selection r

-- the elements of each run lie in so many bytes
abbrev pub AreFit : (Run → Strided) → List Run → ℕ → ℕ → Type 0
AreFit at runs size bytes = (k : ℕ) → k < length runs → Fit (at (run_at runs k)) (run_at runs k).len size bytes

-- the elements of a run are apart, and those of two runs are different
pub record AreDistinct (to : Run → Strided) (runs : List Run) : Type 0 where
  pub apart : (k : ℕ) → k < length runs → 1 ≤ (to (run_at runs k)).stride
  pub different : (j k i l : ℕ) → IsStep runs j i → IsStep runs k l → nth (to (run_at runs j)) i ≡ nth (to (run_at runs k)) l → j ≡ k

-- the first `n` runs were copied, and nothing else
pub record AreMovedTo (to at : Run → Strided) (n : ℕ) (runs : List Run) (size : ℕ) (from old out : List ℕ) : Type 0 where
  pub copied : (k i : ℕ) → k < n → IsStep runs k i → piece_at size (nth (to (run_at runs k)) i) out ≡ piece_at size (nth (at (run_at runs k)) i) from
  pub kept : (j : ℕ) → ((k i : ℕ) → k < n → IsStep runs k i → j ≡ nth (to (run_at runs k)) i → ⊥) → piece_at size j out ≡ piece_at size j old

abbrev pub AreMoved : (Run → Strided) → (Run → Strided) → List Run → ℕ → List ℕ → List ℕ → List ℕ → Type 0
AreMoved to at runs size from old out = AreMovedTo to at (length runs) runs size from old out
