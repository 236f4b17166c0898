use Rattle.std.proofs.Common.{◌≤◌, ℕ, List, All, length, sym, subst}
use Rattle.shapes.specs.Shapes.{LiesIn}
use Rattle.point_select.specs.declared.TheConstants.{MAX_POINTS}
use Rattle.chunk_store.proofs.array.Array.read_points.Goals as goal

pub read-requires : goal.read-requires
read-requires c = subst (λ (ps : List (List ℕ)). (length ps ≤ MAX_POINTS) × All (λ at. LiesIn at c.args.self.now.grid.shape) ps) (sym c.as_slice.ensures) (c.requires.few, c.requires.inside)
