-- The chunks that an array needs, as a grid: as many on each axis as its dim begins.
use Rattle.std.specs.Prelude.{ℕ, List, [], ◌∷◌}
use Rattle.std.specs.Int.{div_ceil}
use Rattle.shapes.specs.declared.Shape.{Shape}
use Rattle.shapes.specs.declared.Shape.TheVariants.{Null, Scalar, Simple}
use Rattle.shapes.specs.RowMajor.{IsInside}

-- on each axis, the dim over the chunk's, rounded up
abbrev pub grid_dims : List ℕ → List ℕ → List ℕ
grid_dims [] ns = []
grid_dims (d ∷ ds) [] = []
grid_dims (d ∷ ds) (n ∷ ns) = div_ceil d n ∷ grid_dims ds ns

-- the index of a chunk of the shape
abbrev pub LiesInGrid : List ℕ → List ℕ → Shape → Type 0
LiesInGrid index chunk Null = ⊥
LiesInGrid index chunk Scalar = IsInside index []
LiesInGrid index chunk (Simple dims limits) = IsInside index (grid_dims dims chunk)
