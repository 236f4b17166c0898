-- The cells that a selection, points or a range of linear indices pick from an array.
use Rattle.std.specs.Prelude.{ℕ, ◌+◌, ◌≤◌, List, All, take, drop, length}
use Rattle.point_select.specs.declared.TheConstants.{MAX_POINTS}
use Rattle.shapes.specs.declared.Shape.{Shape}
use Rattle.shapes.specs.Shapes.{cells_of, count_of, LiesIn}
use Rattle.hyperslab.specs.Selected.{IsSlab, SlabIn, slab_cells}
use Rattle.chunk_store.specs.declared.picks.Picks.{Picks}
use Rattle.chunk_store.specs.declared.picks.Picks.TheVariants as picks

-- the cells with consecutive linear indices, in order
abbrev pub cells_from : ℕ → ℕ → Shape → List (List ℕ)
cells_from from many shape = take many (drop from (cells_of shape))

abbrev pub picked : Picks → Shape → List (List ℕ)
picked (picks.Slab s) shape = slab_cells s shape
picked (picks.Points ps) shape = ps.now
picked (picks.Places from many) shape = cells_from from many shape

abbrev pub PicksIn : Picks → Shape → Type 0
PicksIn (picks.Slab s) shape = IsSlab s × SlabIn s shape
PicksIn (picks.Points ps) shape = (length ps.now ≤ MAX_POINTS) × All (λ at. LiesIn at shape) ps.now
PicksIn (picks.Places from many) shape = from + many ≤ count_of shape
