-- Shapes, the trees that spell them, and the first fault of trees that spell none.
use Rattle.std.specs.Prelude.{◌≡◌, ℕ, suc, ◌≤◌, ◌⊎◌, ◌&&◌, List, [], ◌∷◌, length, All, Option, Some, None, option_and_then, MatchOption, Result, Ok, Err, Bool, false, nat_lt, slice_index_or, nat_le, nat_eq, if◌then◌else◌, codes}
use Rattle.std.specs.Str.{bytes_eq}
use Rattle.serde_json.specs.Data.{Data, string}
use Rattle.serde_json.specs.Find.{get, as_str}
use Rattle.json_trees.specs.Trees.{text_at}
use Rattle.std.specs.List.{AllZip}
use Rattle.shapes.specs.declared.Shape.{Shape}
use Rattle.shapes.specs.declared.Shape.TheVariants.{Null, Scalar, Simple}
use Rattle.shapes.specs.declared.ShapeFault.{ShapeFault}
use Rattle.shapes.specs.declared.ShapeFault.TheVariants.{NotAShape, Rank, DimOverMax, TooLarge}
use Rattle.shapes.specs.declared.TheConstants.{MAX_RANK, MAX_EXTENT, MAX_CELLS}
use Rattle.shapes.specs.Extents.{IsExtent, IsLimit, SpellsList, SpellsDims, extents_in, limits_in, dims_in}
use Rattle.shapes.specs.RowMajor.{cell_count, room_of, IsInside, is_inside, coordinates}

-- ---- what a shape is

-- a dim is within its limit, where 0 is no limit
abbrev pub IsWithin : ℕ → ℕ → Type 0
IsWithin n limit = (limit ≡ 0) ⊎ (n ≤ limit)

-- dims and limits that make a shape
pub record IsFitting (dims limits : List ℕ) : Type 0 where
  pub some_axis : 1 ≤ length dims
  pub few_axes : length dims ≤ MAX_RANK
  pub within : AllZip IsWithin dims limits
  pub room : room_of dims ≤ MAX_CELLS

-- dims and limits that a tree can spell
pub record IsSoundGrid (dims limits : List ℕ) : Type 0 where
  pub fitting : IsFitting dims limits
  pub small_dims : All (λ n. n ≤ MAX_EXTENT) dims
  pub small_limits : All (λ n. n ≤ MAX_EXTENT) limits

-- a shape that trees can spell
abbrev pub IsSound : Shape → Type 0
IsSound Null = Unit {0}
IsSound Scalar = Unit {0}
IsSound (Simple dims limits) = IsSoundGrid dims limits

-- the number of cells
abbrev pub count_of : Shape → ℕ
count_of Null = 0
count_of Scalar = 1
count_of (Simple dims limits) = cell_count dims

-- the dims; a shape without an axis has none
abbrev pub dims_of : Shape → List ℕ
dims_of Null = []
dims_of Scalar = []
dims_of (Simple dims limits) = dims

-- coordinates of a cell of the shape
abbrev pub LiesIn : List ℕ → Shape → Type 0
LiesIn at Null = ⊥
LiesIn at Scalar = IsInside at []
LiesIn at (Simple dims limits) = IsInside at dims

-- whether they are
abbrev pub lies_in : List ℕ → Shape → Bool
lies_in at Null = false
lies_in at Scalar = is_inside at []
lies_in at (Simple dims limits) = is_inside at dims

-- the coordinates of all cells, in row-major order
abbrev pub cells_of : Shape → List (List ℕ)
cells_of Null = []
cells_of Scalar = coordinates []
cells_of (Simple dims limits) = coordinates dims

-- the cell with a linear index
abbrev pub cell_of : Shape → ℕ → List ℕ
cell_of shape k = slice_index_or (cells_of shape) k []

-- ---- which trees spell a shape: the grammar, in no order

-- the tree is this word, or an object of this class
abbrev pub HasWord : List ℕ → Data → Type 0
HasWord word d = (d ≡ string word) ⊎ (get (codes "class") d ≡ Some (string word))

-- the limits that count: those beside the shape come before those inside it
abbrev pub limits_tree : Option Data → Option Data → Option Data
limits_tree shape (Some limits) = Some limits
limits_tree shape None = option_and_then (get (codes "maxdims")) shape

-- an object of the simple class, with a list of dims
abbrev pub SpellsSimple : Data → List ℕ → Type 0
SpellsSimple d ns = (get (codes "class") d ≡ Some (string (codes "H5S_SIMPLE"))) × ((e : Data) × (get (codes "dims") d ≡ Some e) × SpellsList IsExtent e ns)

abbrev pub HasDims : Data → List ℕ → Type 0
HasDims d ns = SpellsDims d ns ⊎ SpellsSimple d ns

-- these trees spell this shape
abbrev pub IsShape : Option Data → Option Data → Shape → Type 0
IsShape shape limits Null = ((d : Data) × (shape ≡ Some d) × HasWord (codes "H5S_NULL") d) × (limits_tree shape limits ≡ None)
IsShape shape limits Scalar = ((shape ≡ None) ⊎ ((d : Data) × (shape ≡ Some d) × HasWord (codes "H5S_SCALAR") d)) × (limits_tree shape limits ≡ None)
IsShape shape limits (Simple dims maxdims) =
    ((d : Data) × (shape ≡ Some d) × HasDims d dims) × MatchOption (limits_tree shape limits) (maxdims ≡ dims) (λ d. SpellsList IsLimit d maxdims) × IsFitting dims maxdims

-- the shape with other dims
abbrev pub IsResized : Shape → List ℕ → Shape → Type 0
IsResized Null dims shape = ⊥
IsResized Scalar dims shape = ⊥
IsResized (Simple old limits) dims shape = (shape ≡ Simple dims limits) × AllZip IsWithin dims limits × (room_of dims ≤ MAX_CELLS)

-- ---- the tests in order: the first that fails decides

abbrev pub is_over : ℕ → ℕ → Bool
is_over n limit = nat_lt 0 limit && nat_lt limit n

-- the first axis, from `k` on, whose dim is over its limit
abbrev pub first_over : ℕ → List ℕ → List ℕ → Option ℕ
first_over k [] limits = None
first_over k (n ∷ ns) [] = None
first_over k (n ∷ ns) (limit ∷ limits) = if is_over n limit then Some k else first_over (suc k) ns limits

unfoldable pub over_or_room : Option ℕ → List ℕ → List ℕ → Result Shape ShapeFault
over_or_room (Some axis) dims limits = Err (DimOverMax axis)
over_or_room None dims limits = if nat_le (room_of dims) MAX_CELLS then Ok (Simple dims limits) else Err TooLarge

unfoldable pub fitted_of : List ℕ → List ℕ → Result Shape ShapeFault
fitted_of dims limits = if nat_eq (length dims) (length limits) then over_or_room (first_over 0 dims limits) dims limits else Err Rank

unfoldable pub grid_of : List ℕ → List ℕ → Result Shape ShapeFault
grid_of dims limits = if nat_le 1 (length dims) && nat_le (length dims) MAX_RANK then fitted_of dims limits else Err Rank

-- dims that were read, and limits that are still to be read
unfoldable pub limited_of : List ℕ → Option (List ℕ) → Result Shape ShapeFault
limited_of dims None = Err NotAShape
limited_of dims (Some limits) = grid_of dims limits

unfoldable pub simple_of : Option (List ℕ) → Option Data → Result Shape ShapeFault
simple_of None limits = Err NotAShape
simple_of (Some dims) None = grid_of dims dims
simple_of (Some dims) (Some limits) = limited_of dims (limits_in limits)

-- a shape without dims takes no limits
abbrev pub plain_of : Shape → Option Data → Result Shape ShapeFault
plain_of shape None = Ok shape
plain_of shape (Some limits) = Err NotAShape

-- the word that a tree is, or its class
abbrev pub word_or_class : Option (List ℕ) → Data → Option (List ℕ)
word_or_class (Some word) d = Some word
word_or_class None d = text_at (codes "class") d

abbrev pub word_of : Data → Option (List ℕ)
word_of d = word_or_class (as_str d) d

unfoldable pub worded_of : Option (List ℕ) → Data → Option Data → Result Shape ShapeFault
worded_of None d limits = simple_of (dims_in d) limits
worded_of (Some word) d limits =
    if bytes_eq word (codes "H5S_NULL") then plain_of Null limits
    else (if bytes_eq word (codes "H5S_SCALAR") then plain_of Scalar limits
    else (if bytes_eq word (codes "H5S_SIMPLE") then simple_of (option_and_then extents_in (get (codes "dims") d)) limits else Err NotAShape))

-- the shape that the trees spell, or their first fault
unfoldable pub shape_of : Option Data → Option Data → Result Shape ShapeFault
shape_of None limits = plain_of Scalar limits
shape_of (Some d) limits = worded_of (word_of d) d (limits_tree (Some d) limits)

unfoldable pub resized_of : Shape → List ℕ → Result Shape ShapeFault
resized_of Null dims = Err Rank
resized_of Scalar dims = Err Rank
resized_of (Simple old limits) dims = fitted_of dims limits

-- ---- dims alone

-- a list of 1 to 32 extents, or one extent
abbrev pub IsDims : Data → List ℕ → Type 0
IsDims d ns = SpellsDims d ns × (1 ≤ length ns) × (length ns ≤ MAX_RANK)
