-- Points of a grid, and the trees that spell them.
use Rattle.std.specs.Prelude.{◌≡◌, ℕ, ◌+◌, ◌≤◌, ◌⊎◌, List, ◌∷◌, ◌++◌, length}
use Rattle.std.specs.List.{AllZip}
use Rattle.serde_json.specs.Data.{Data, Items, array}
use Rattle.json_trees.specs.Trees.{list_of}
use Rattle.shapes.specs.declared.Shape.{Shape}
use Rattle.shapes.specs.declared.Shape.TheVariants.{Null, Scalar, Simple}
use Rattle.shapes.specs.RowMajor.{IsInside}
use Rattle.shapes.specs.Shapes.{IsDims}
use Rattle.point_select.specs.declared.TheConstants.{MAX_POINTS}
use Rattle.point_select.specs.declared.PointFault.{PointFault}
use Rattle.point_select.specs.declared.PointFault.TheVariants.{Syntax, Rank, Past}

-- the tree spells coordinates inside the dims
abbrev pub IsPoint : List ℕ → Data → List ℕ → Type 0
IsPoint dims d at = IsDims d at × IsInside at dims

-- a list that spells these points in order; a shape without an axis has no points
abbrev pub SpellsPoints : Data → Shape → List (List ℕ) → Type 0
SpellsPoints d Null points = ⊥
SpellsPoints d Scalar points = ⊥
SpellsPoints d (Simple dims limits) points = (items : Items) × (d ≡ array items) × (length points ≤ MAX_POINTS) × AllZip (IsPoint dims) (list_of items) points

-- why a tree is no point: no coordinates, more or fewer than axes, or not inside the dims
abbrev pub IsBadPoint : List ℕ → ℕ → Data → PointFault → Type 0
IsBadPoint dims k d fault =
    ((fault ≡ Syntax k) × ((at : List ℕ) → IsDims d at → ⊥))
    ⊎ ((at : List ℕ) × IsDims d at × (((fault ≡ Rank k) × (length at ≡ length dims → ⊥)) ⊎ ((fault ≡ Past k) × (length at ≡ length dims) × (IsInside at dims → ⊥))))

-- a list of trees has points, numbered from `k` on, and then this bad one
pub record IsFirstBad (dims : List ℕ) (k : ℕ) (ds : List Data) (fault : PointFault) : Type 0 where
  pub front : List Data
  pub points : List (List ℕ)
  pub good : AllZip (IsPoint dims) front points
  pub tree : Data
  pub rest : List Data
  pub split : ds ≡ front ++ tree ∷ rest
  pub number : ℕ
  pub counted : number ≡ k + length front
  pub bad : IsBadPoint dims number tree fault
