-- What holds of the parts of each operation: each part is one that its own reading gives.
use Rattle.std.specs.Prelude.{◌≡◌, ℕ, ◌≤◌, List, length, All, Option, Some, None}
use Rattle.object_ids.specs.declared.ids.Kind.TheVariants.{Group, Dataset}
use Rattle.object_ids.specs.IdValues.{Id}
use Rattle.hdf_types.specs.Elems.{Elem}
use Rattle.hdf_types.specs.Views.{elem}
use Rattle.hdf_types.specs.Types.{IsSoundType}
use Rattle.hdf_types.specs.Reading.{size_of}
use Rattle.hdf_values.specs.Elements.{IsEncoded}
use Rattle.hdf_values.specs.Attributes.{content, IsSoundAttribute}
use Rattle.shapes.specs.Shapes.{IsSound, dims_of}
use Rattle.shapes.specs.declared.TheConstants.{MAX_EXTENT, MAX_RANK}
use Rattle.chunk_layout.specs.Layouts.{Fits}
use Rattle.groups_links.specs.Titles.{IsGoodTitle}
use Rattle.groups_links.specs.Targets.{IsSoundLink}
use Rattle.object_ops.specs.declared.ops.Op.{Op}
use Rattle.object_ops.specs.declared.ops.Op.TheVariants.{GetAcl, PutAcl, MakeObject, ListLinks, GetLink, PutLink, DropLink, GetAttribute, PutAttribute, DropAttribute, GetShape, PutShape, GetElem, GetValue, PutValue, GetPoints}
use Rattle.object_ops.specs.declared.ops.Make.{Make}
use Rattle.object_ops.specs.declared.ops.Make.TheVariants as make
use Rattle.object_ops.specs.declared.ops.LinkPlace.{LinkPlace}

-- the name of an attribute or of an entry
abbrev pub IsShort : List ℕ → Type 0
IsShort name = length name ≤ 255

abbrev pub IsGroup : Id → Type 0
IsGroup id = id.kind ≡ Group

abbrev pub IsDataset : Id → Type 0
IsDataset id = id.kind ≡ Dataset

-- dims that can be read
abbrev pub AreDims : List ℕ → Type 0
AreDims dims = (1 ≤ length dims) × (length dims ≤ MAX_RANK) × All (λ n. n ≤ MAX_EXTENT) dims

-- the fill is one element
abbrev pub IsSoundFill : Elem → Option (List ℕ) → Type 0
IsSoundFill e None = Unit {0}
IsSoundFill e (Some bs) = IsEncoded e bs

abbrev pub IsSoundMake : Make → Type 0
IsSoundMake make.Group = Unit {0}
IsSoundMake (make.Dataset type shape layout fill) =
    IsSoundType (elem type) × IsSound shape × Fits (size_of (elem type)) (dims_of shape) layout.chunk × IsSoundFill (elem type) fill
IsSoundMake (make.Datatype type) = IsSoundType (elem type)

abbrev pub IsSoundPlace : Option LinkPlace → Type 0
IsSoundPlace None = Unit {0}
IsSoundPlace (Some place) = IsGroup place.group × IsGoodTitle place.title

abbrev pub IsSoundOp : Op → Type 0
IsSoundOp (GetAcl name) = IsShort name
IsSoundOp (PutAcl name rights) = IsShort name
IsSoundOp (MakeObject make place) = IsSoundMake make × IsSoundPlace place
IsSoundOp (ListLinks id) = IsGroup id
IsSoundOp (GetLink id title) = IsGroup id × IsGoodTitle title
IsSoundOp (PutLink id title link) = IsGroup id × IsGoodTitle title × IsSoundLink link
IsSoundOp (DropLink id title) = IsGroup id × IsGoodTitle title
IsSoundOp (GetAttribute id name) = IsShort name
IsSoundOp (PutAttribute id name attribute) = IsShort name × IsSoundAttribute (content attribute)
IsSoundOp (DropAttribute id name) = IsShort name
IsSoundOp (GetShape id) = IsDataset id
IsSoundOp (PutShape id dims) = IsDataset id × AreDims dims
IsSoundOp (GetElem id) = IsDataset id
IsSoundOp (GetValue id select) = IsDataset id
IsSoundOp (PutValue id part value) = IsDataset id
IsSoundOp (GetPoints id points) = IsDataset id
IsSoundOp op = Unit {0}
