-- What the tests of a selection tell, each outcome by itself.
use Rattle.std.specs.Prelude.{◌≡◌, ℕ, ◌^◌, ◌≤◌, ◌<◌, List, length, replicate, slice_index_or, Option, Some, None, Result, Ok, Err}
use Rattle.serde_json.specs.Data.{Data}
use Rattle.shapes.specs.declared.Shape.{Shape}
use Rattle.shapes.specs.declared.Shape.TheVariants.{Null, Scalar, Simple}
use Rattle.shapes.specs.RowMajor.{room_of}
use Rattle.shapes.specs.Shapes.{IsDims}
use Rattle.hyperslab.specs.declared.Slab.{Slab}
use Rattle.hyperslab.specs.declared.SlabFault.{SlabFault}
use Rattle.hyperslab.specs.declared.SlabFault.TheVariants.{Syntax, Rank, Step, Order, Past, TooMany}
use Rattle.hyperslab.specs.Selected.{Axis, extents}

-- each list has a number for each dim
pub record HasRank (dims : List ℕ) (s : Slab) : Type 0 where
  pub starts : length s.start ≡ length dims
  pub stops : length s.stop ≡ length dims
  pub steps : length s.step ≡ length dims

-- the axis number `k`
abbrev pub axis_of : Slab → ℕ → Axis
axis_of s k = record { lo = slice_index_or s.start k 0; hi = slice_index_or s.stop k 0; by = slice_index_or s.step k 0 }

-- an axis of this dim without a fault
abbrev pub IsGood : ℕ → Axis → Type 0
IsGood n x = (1 ≤ x.by) × (x.lo ≤ x.hi) × (x.hi ≤ n)

-- the axes before the number `k` have no fault
abbrev pub AreGood : List ℕ → Slab → ℕ → Type 0
AreGood dims s k = (i : ℕ) → i < k → IsGood (slice_index_or dims i 0) (axis_of s i)

-- the axis number `k` is the first with a fault, which is this one
pub record IsFirst (dims : List ℕ) (s : Slab) (k : ℕ) (IsFault : ℕ → Axis → Type 0) : Type 0 where
  pub ranked : HasRank dims s
  pub axis : k < length dims
  pub before : AreGood dims s k
  pub fault : IsFault (slice_index_or dims k 0) (axis_of s k)

-- every axis is good
pub record IsWhole (dims : List ℕ) (s : Slab) : Type 0 where
  pub ranked : HasRank dims s
  pub axes : AreGood dims s (length dims)

-- the outcome over these dims
abbrev pub IsOutcomeIn : List ℕ → Slab → Result Slab SlabFault → Type 0
IsOutcomeIn dims s (Ok t) = (s ≡ t) × IsWhole dims s × (room_of (extents s) ≤ 2 ^ 20)
IsOutcomeIn dims s (Err (Syntax byte)) = ⊥
IsOutcomeIn dims s (Err Rank) = HasRank dims s → ⊥
IsOutcomeIn dims s (Err (Step k)) = IsFirst dims s k (λ n x. x.by ≡ 0)
IsOutcomeIn dims s (Err (Order k)) = IsFirst dims s k (λ n x. (1 ≤ x.by) × (x.hi < x.lo))
IsOutcomeIn dims s (Err (Past k)) = IsFirst dims s k (λ n x. (1 ≤ x.by) × (x.lo ≤ x.hi) × (n < x.hi))
IsOutcomeIn dims s (Err (TooMany count)) = IsWhole dims s × (count ≡ room_of (extents s)) × (2 ^ 20 < count)

-- the outcome over a shape
abbrev pub IsOutcome : Shape → Slab → Result Slab SlabFault → Type 0
IsOutcome Null s r = r ≡ Err Rank
IsOutcome Scalar s r = r ≡ Err Rank
IsOutcome (Simple dims limits) s r = IsOutcomeIn dims s r

-- ---- lists

-- the numbers that a tree spells; where it is absent these
abbrev pub StandsFor : List ℕ → Option Data → List ℕ → Type 0
StandsFor absent None ns = ns ≡ absent
StandsFor absent (Some d) ns = IsDims d ns

-- a selection by lists: of an absent one all starts are 0, the stops are the dims, all steps are 1
pub record AreLists (dims : List ℕ) (start stop step : Option Data) (s : Slab) : Type 0 where
  pub starts : StandsFor (replicate (length dims) 0) start s.start
  pub stops : StandsFor dims stop s.stop
  pub steps : StandsFor (replicate (length dims) 1) step s.step

-- the shape is no scalar, or one of the lists is given
abbrev pub IsGiven : Shape → Option Data → Option Data → Option Data → Type 0
IsGiven shape start stop step = shape ≡ Scalar → start ≡ None → stop ≡ None → step ≡ None → ⊥
