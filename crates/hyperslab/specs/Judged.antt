-- The tests of a selection in order: the first that fails decides.
use Rattle.std.specs.Prelude.{ℕ, suc, ◌&&◌, Bool, true, false, List, [], ◌∷◌, length, replicate, Option, Some, None, option_map, option_and_then, Result, Ok, Err, nat_le, nat_lt, nat_eq, if◌then◌else◌}
use Rattle.serde_json.specs.Data.{Data}
use Rattle.shapes.specs.declared.Shape.{Shape}
use Rattle.shapes.specs.declared.Shape.TheVariants.{Null, Scalar, Simple}
use Rattle.shapes.specs.RowMajor.{room_of}
use Rattle.shapes.specs.Shapes.{dims_of}
use Rattle.shapes.specs.Extents.{dims_in}
use Rattle.shapes.specs.Spelled.{few_of}
use Rattle.hyperslab.specs.declared.Slab.{Slab}
use Rattle.hyperslab.specs.declared.SlabFault.{SlabFault}
use Rattle.hyperslab.specs.declared.SlabFault.TheVariants.{Syntax, Rank, Step, Order, Past, TooMany}
use Rattle.hyperslab.specs.declared.TheConstants.{MAX_SELECTED}
use Rattle.hyperslab.specs.Selected.{Axis, axes_of, extents}

-- the fault of the axis number `k`, whose dim is `n`
abbrev pub fault_on : ℕ → ℕ → Axis → Option SlabFault
fault_on k n x = if nat_eq x.by 0 then Some (Step k) else (if nat_lt x.hi x.lo then Some (Order k) else (if nat_lt n x.hi then Some (Past k) else None))

abbrev pub or_fault : Option SlabFault → Option SlabFault → Option SlabFault
or_fault (Some f) rest = Some f
or_fault None rest = rest

-- the first fault of the axes from the number `k` on
abbrev pub first_fault : ℕ → List ℕ → List Axis → Option SlabFault
first_fault k [] xs = None
first_fault k (n ∷ ns) [] = None
first_fault k (n ∷ ns) (x ∷ xs) = or_fault (fault_on k n x) (first_fault (suc k) ns xs)

-- the cells, with an axis of none counted as one
abbrev pub bounded : Slab → Result Slab SlabFault
bounded s = if nat_le (room_of (extents s)) MAX_SELECTED then Ok s else Err (TooMany (room_of (extents s)))

abbrev pub unless_fault : Option SlabFault → Slab → Result Slab SlabFault
unless_fault (Some f) s = Err f
unless_fault None s = bounded s

abbrev pub has_rank : ℕ → Slab → Bool
has_rank n s = nat_eq (length s.start) n && nat_eq (length s.stop) n && nat_eq (length s.step) n

unfoldable pub judged_in : List ℕ → Slab → Result Slab SlabFault
judged_in dims s = if has_rank (length dims) s then unless_fault (first_fault 0 dims (axes_of s)) s else Err Rank

abbrev pub judged : Shape → Slab → Result Slab SlabFault
judged Null s = Err Rank
judged Scalar s = Err Rank
judged (Simple dims limits) s = judged_in dims s

-- ---- all cells

abbrev pub all_of : List ℕ → Slab
all_of dims = record { start = replicate (length dims) 0; stop = dims; step = replicate (length dims) 1 }

-- a shape without a cell has one axis of which no number is selected
abbrev pub whole_of : Shape → Result Slab SlabFault
whole_of Null = Ok (all_of (0 ∷ []))
whole_of Scalar = Ok (all_of [])
whole_of (Simple dims limits) = bounded (all_of dims)

-- ---- lists of numbers

-- the numbers of a list, or those that stand for an absent one
abbrev pub list_or : List ℕ → Option Data → Option (List ℕ)
list_or ns None = Some ns
list_or ns (Some d) = option_and_then few_of (dims_in d)

abbrev pub with_step : List ℕ → List ℕ → List ℕ → Slab
with_step starts stops steps = record { start = starts; stop = stops; step = steps }

abbrev pub with_stop : Option (List ℕ) → List ℕ → List ℕ → Option Slab
with_stop steps starts stops = option_map (with_step starts stops) steps

abbrev pub with_start : Option (List ℕ) → Option (List ℕ) → List ℕ → Option Slab
with_start stops steps starts = option_and_then (with_stop steps starts) stops

abbrev pub lists_in : List ℕ → Option Data → Option Data → Option Data → Option Slab
lists_in dims start stop step =
    option_and_then (with_start (list_or dims stop) (list_or (replicate (length dims) 1) step)) (list_or (replicate (length dims) 0) start)

abbrev pub is_absent : Option Data → Bool
is_absent None = true
is_absent (Some d) = false

abbrev pub is_scalar : Shape → Bool
is_scalar Null = false
is_scalar Scalar = true
is_scalar (Simple dims limits) = false

abbrev pub judged_lists : Shape → Option Slab → Result Slab SlabFault
judged_lists shape None = Err (Syntax 0)
judged_lists shape (Some s) = judged shape s

-- the one cell of a scalar is selected by no list
abbrev pub lists_slab : Shape → Option Data → Option Data → Option Data → Result Slab SlabFault
lists_slab shape start stop step =
    if is_scalar shape && is_absent start && is_absent stop && is_absent step then whole_of shape else judged_lists shape (lists_in (dims_of shape) start stop step)
