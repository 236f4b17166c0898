-- A spelled list of which the first numbers are kept, and the tests of shapes over such lists.
use Rattle.std.specs.Prelude.{ℕ, ◌+◌, ◌&&◌, List, [], ◌∷◌, ◌++◌, length, take, Option, Some, None, option_map, Result, Err, nat_le, nat_lt, nat_eq, if◌then◌else◌}
use Rattle.shapes.specs.declared.Shape.{Shape}
use Rattle.shapes.specs.declared.ShapeFault.{ShapeFault}
use Rattle.shapes.specs.declared.ShapeFault.TheVariants.{NotAShape, Rank}
use Rattle.serde_json.specs.Data.{Data}
use Rattle.shapes.specs.declared.TheConstants.{MAX_RANK}
use Rattle.shapes.specs.declared.reading.Spelled.{Spelled}
use Rattle.shapes.specs.declared.reading.Role.{Role}
use Rattle.shapes.specs.declared.reading.Role.TheVariants.{Dim, Limit}
use Rattle.shapes.specs.Extents.{extent_in, limit_in, limits_in}
use Rattle.shapes.specs.Shapes.{fitted_of}

abbrev pub kept_of : List ℕ → Spelled
kept_of ns = record { kept = take MAX_RANK ns; count = length ns }

-- with `kept` of the `i` numbers in front, and `rest` still to come
abbrev pub kept_after : ℕ → List ℕ → List ℕ → Spelled
kept_after i kept rest = record { kept = take MAX_RANK (kept ++ rest); count = i + length rest }

abbrev pub number_in : Role → Data → Option ℕ
number_in Dim = extent_in
number_in Limit = limit_in

-- at most as many numbers as a shape has axes
abbrev pub few_of : List ℕ → Option (List ℕ)
few_of ns = if nat_le 1 (length ns) && nat_le (length ns) MAX_RANK then Some ns else None

-- dims with one extent more; none where there are none, where it is none, or where there is no room
abbrev pub dims_with : Option (List ℕ) → Option ℕ → Option (List ℕ)
dims_with None n = None
dims_with (Some ns) None = None
dims_with (Some ns) (Some n) = if nat_lt (length ns) MAX_RANK then Some (ns ++ n ∷ []) else None

abbrev pub kept_grid : Spelled → Spelled → Result Shape ShapeFault
kept_grid dims limits = if nat_le 1 dims.count && nat_le dims.count MAX_RANK && nat_eq dims.count limits.count then fitted_of dims.kept limits.kept else Err Rank

abbrev pub kept_limited : Spelled → Option Spelled → Result Shape ShapeFault
kept_limited dims None = Err NotAShape
kept_limited dims (Some limits) = kept_grid dims limits

abbrev pub kept_simple : Option Spelled → Option Data → Result Shape ShapeFault
kept_simple None limits = Err NotAShape
kept_simple (Some dims) None = kept_grid dims dims
kept_simple (Some dims) (Some limits) = kept_limited dims (option_map kept_of (limits_in limits))
