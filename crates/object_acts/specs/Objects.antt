-- What an object is.
use Rattle.std.specs.Prelude.{◌≡◌, ℕ, List, []}
use Rattle.std.specs.FinMap.{empty, FinMap}
use Rattle.hdf_types.specs.Views.{elem}
use Rattle.hdf_types.specs.Types.{IsSoundType}
use Rattle.object_ids.specs.declared.ids.Kind.{Kind}
use Rattle.object_ids.specs.declared.ids.Kind.TheVariants as kind
use Rattle.chunk_store.specs.Grids.{Grid, all_fill}
use Rattle.chunk_store.specs.Marks.{Stored, IsTracked}
use Rattle.object_ops.specs.declared.ops.Make.{Make}
use Rattle.object_ops.specs.declared.ops.Make.TheVariants as make
use Rattle.object_acts.specs.declared.objects.Object.{Object}
use Rattle.object_acts.specs.declared.objects.Body.{Body}
use Rattle.object_acts.specs.declared.objects.Body.TheVariants.{Group, Dataset, Datatype}
use Rattle.object_ids.specs.IdOrder.{id_order}

-- an array of which nothing is known to have changed
abbrev pub bare : Grid → Stored
bare grid = record { grid = grid; marks = [] }

abbrev pub unmarked_body : Body → Body
unmarked_body (Group links) = Group links
unmarked_body (Dataset array) = Dataset (bare array.grid)
unmarked_body (Datatype type) = Datatype type

-- an object as requests see it: it doesn't matter which chunks of its array have changed
abbrev pub unmarked : Object → Object
unmarked o = record { attributes = o.attributes; body = unmarked_body o.body }

-- objects by their ids
abbrev pub Objects : Type 0
Objects = FinMap id_order Object

-- ---- new objects

-- a group has no links, and each cell of a dataset has the fill
abbrev pub body_made : Make → Body
body_made make.Group = Group empty
body_made (make.Dataset type shape layout fill) = Dataset (bare (all_fill (elem type) shape layout.chunk fill))
body_made (make.Datatype type) = Datatype type

-- what is made has no attributes
abbrev pub made : Make → Object
made make = record { attributes = empty; body = body_made make }

abbrev pub empty_group : Object
empty_group = made make.Group

-- ---- which objects may stand at an id

abbrev pub kind_of_body : Body → Kind
kind_of_body (Group links) = kind.Group
kind_of_body (Dataset array) = kind.Dataset
kind_of_body (Datatype type) = kind.Datatype

-- a committed type is one that can be read; all other parts are sound by themselves
abbrev pub IsSoundBody : Body → Type 0
IsSoundBody (Group links) = Unit {0}
IsSoundBody (Dataset array) = Unit {0}
IsSoundBody (Datatype type) = IsSoundType (elem type)

-- the object is of this kind
pub record IsOfKind (k : Kind) (o : Object) : Type 0 where
  pub kind : kind_of_body o.body ≡ k
  pub sound : IsSoundBody o.body

-- ---- records

-- the records of its chunks stand for each chunk of an array that is not marked as changed
abbrev pub IsTrackedBody : (List ℕ → List ℕ) → Body → Type 0
IsTrackedBody held (Group links) = Unit {0}
IsTrackedBody held (Dataset array) = IsTracked held array
IsTrackedBody held (Datatype type) = Unit {0}

-- whatever records stood for the first stand for the second
abbrev pub KeepsTrack : Body → Body → Type 0
KeepsTrack old new = (held : List ℕ → List ℕ) → IsTrackedBody held old → IsTrackedBody held new
