-- The tests of points in order: the first that fails decides.
use Rattle.std.specs.Prelude.{ℕ, ◌≤◌, suc, List, [], ◌∷◌, ◌++◌, length, Option, Some, None, option_and_then, Result, Ok, Err, nat_lt, nat_eq, if◌then◌else◌}
use Rattle.serde_json.specs.Data.{Data}
use Rattle.json_trees.specs.Trees.{list_in}
use Rattle.json_trees.specs.Faults.{◌>>=◌, Gives, Fails}
use Rattle.shapes.specs.declared.Shape.{Shape}
use Rattle.shapes.specs.declared.Shape.TheVariants.{Null, Scalar, Simple}
use Rattle.shapes.specs.Extents.{dims_in}
use Rattle.shapes.specs.RowMajor.{is_inside}
use Rattle.shapes.specs.Spelled.{few_of}
use Rattle.point_select.specs.declared.TheConstants.{MAX_POINTS}
use Rattle.point_select.specs.declared.PointFault.{PointFault}
use Rattle.point_select.specs.declared.PointFault.TheVariants.{Syntax, TooMany, Rank, Past, NoMemory}

-- the coordinates that a tree spells
abbrev pub coords_in : Data → Option (List ℕ)
coords_in d = option_and_then few_of (dims_in d)

-- the point with number `k`
abbrev pub point_at : List ℕ → ℕ → Option (List ℕ) → Result (List ℕ) PointFault
point_at dims k None = Err (Syntax k)
point_at dims k (Some at) = if nat_eq (length at) (length dims) then (if is_inside at dims then Ok at else Err (Past k)) else Err (Rank k)

unfoldable pub point_of : List ℕ → ℕ → Data → Result (List ℕ) PointFault
point_of dims k d = point_at dims k (coords_in d)

-- these points, and then those
abbrev pub followed : List (List ℕ) → Result (List (List ℕ)) PointFault → Result (List (List ℕ)) PointFault
followed points (Ok more) = Ok (points ++ more)
followed points (Err fault) = Err fault

-- the points from number `k` on: the first bad one decides
abbrev pub points_from : List ℕ → ℕ → List Data → Result (List (List ℕ)) PointFault
points_from dims k [] = Ok []
points_from dims k (d ∷ ds) = point_of dims k d >>= λ at. followed (at ∷ []) (points_from dims (suc k) ds)

-- a shape without an axis is refused whatever the points are
abbrev pub points_in : Shape → List Data → Result (List (List ℕ)) PointFault
points_in Null ds = Err (Rank 0)
points_in Scalar ds = Err (Rank 0)
points_in (Simple dims limits) ds = points_from dims 0 ds

abbrev pub counted_points : Shape → Option (List Data) → Result (List (List ℕ)) PointFault
counted_points shape None = Err (Syntax 0)
counted_points shape (Some ds) = if nat_lt MAX_POINTS (length ds) then Err (TooMany (length ds)) else points_in shape ds

-- what is read point by point, for which memory is taken: a list that isn't too long, on a shape with axes
abbrev pub IsRead : Shape → Option (List Data) → Type 0
IsRead Null found = ⊥
IsRead Scalar found = ⊥
IsRead (Simple dims limits) None = ⊥
IsRead (Simple dims limits) (Some ds) = length ds ≤ MAX_POINTS

-- the points that a tree spells on a shape, or its first fault
unfoldable pub points_of : Data → Shape → Result (List (List ℕ)) PointFault
points_of d shape = counted_points shape (list_in d)

-- a call gives what the tests find, or memory ran out
abbrev pub GivesPoint : Result (List ℕ) PointFault → Result (List ℕ) PointFault → Type 0
GivesPoint = Gives (Fails NoMemory) (λ at. at)

abbrev pub GivesPoints : Result (List (List ℕ)) PointFault → Result (List (List ℕ)) PointFault → Type 0
GivesPoints = Gives (Fails NoMemory) (λ points. points)
