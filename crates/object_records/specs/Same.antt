-- Bodies of objects with the same parts.
use Rattle.std.specs.Prelude.{◌≡◌}
use Rattle.chunk_store.specs.Grids.{Grid}
use Rattle.object_acts.specs.declared.objects.Body.{Body}
use Rattle.object_acts.specs.declared.objects.Body.TheVariants.{Group, Dataset, Datatype}

-- two arrays that may differ in their cells alone
pub record IsSameButCells (a b : Grid) : Type 0 where
  pub kind : a.kind ≡ b.kind
  pub shape : a.shape ≡ b.shape
  pub chunk : a.chunk ≡ b.chunk
  pub fill : a.fill ≡ b.fill

abbrev pub IsSameBody : Body → Body → Type 0
IsSameBody (Group l) (Group m) = l ≡ m
IsSameBody (Dataset x) (Dataset y) = IsSameButCells x.grid y.grid
IsSameBody (Datatype s) (Datatype t) = s ≡ t
IsSameBody a b = ⊥
