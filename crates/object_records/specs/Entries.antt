-- What the record of an object says of it.
use Rattle.std.specs.Prelude.{ℕ, List, Option}
use Rattle.std.specs.FinMap.{FinMap}
use Rattle.containers.specs.TextMaps.Keyed.{text_order, with_values}
use Rattle.hdf_types.specs.Elems.{Elem}
use Rattle.hdf_types.specs.Views.{elem}
use Rattle.shapes.specs.declared.Shape.{Shape}
use Rattle.hdf_values.specs.Attributes.{Content, content}
use Rattle.object_acts.specs.declared.objects.Object.{Object}
use Rattle.object_acts.specs.declared.objects.Body.{Body}
use Rattle.object_acts.specs.declared.objects.Body.TheVariants.{Group, Dataset, Datatype}
use Rattle.groups_links.specs.GroupLinks.{Titles}

abbrev pub Names : Type 0
Names = FinMap text_order Content

-- of a group its links; of a dataset its type, shape, chunk and fill, but not its cells, which have records of their own; of a
-- committed datatype its type
pub data Kept : Type 0 where
  group : Titles → Kept
  dataset : Elem → Shape → List ℕ → Option (List ℕ) → Kept
  datatype : Elem → Kept

pub record Entry : Type 0 where
  pub attributes : Names
  pub kept : Kept

abbrev pub kept_of : Body → Kept
kept_of (Group links) = group links
kept_of (Dataset array) = dataset array.grid.kind array.grid.shape array.grid.chunk array.grid.fill
kept_of (Datatype type) = datatype (elem type)

-- what is kept of an object
abbrev pub entry_of : Object → Entry
entry_of o = record { attributes = with_values content o.attributes; kept = kept_of o.body }
