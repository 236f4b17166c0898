-- The objects that bodies are, and what their keys say: a folder, an entry, an attribute, a link, dims.
use Rattle.std.specs.Prelude.{ℕ, ◌<◌, List, [], ◌∷◌, Bool, true, false, Option, Some, None, is_some, option_and_then, Result, Ok, Err, IsOkAnd, codes, if◌then◌else◌}
use Rattle.serde_json.specs.Data.{Data, object, no_members}
use Rattle.serde_json.specs.Find.{get, as_object}
use Rattle.object_ids.specs.IdValues.{Id}
use Rattle.object_ids.specs.Names.{is_name, has_no_slash}
use Rattle.object_ids.specs.declared.names.NameFault.{NameFault}
use Rattle.object_ids.specs.declared.names.NameFault.TheVariants as names
use Rattle.object_ids.specs.declared.ids.Kind.{Kind}
use Rattle.object_ids.specs.declared.ids.Kind.TheVariants.{Group, Dataset, Datatype}
use Rattle.access_lists.specs.EntryTrees.{entry_in, truth_at}
use Rattle.access_lists.specs.declared.rights.Rights.{Rights}
use Rattle.hdf_types.specs.declared.faults.Cause.{Cause}
use Rattle.hdf_types.specs.declared.faults.Cause.TheVariants.{Unsupported}
use Rattle.hdf_types.specs.declared.faults.TypeFault.TheVariants as types
use Rattle.hdf_types.specs.Elems as elems
use Rattle.hdf_values.specs.Attributes.{Content, attribute_of as content_of, attribute}
use Rattle.hdf_values.specs.declared.attributes.Attribute.{Attribute}
use Rattle.hdf_values.specs.declared.attributes.AttributeFault.{AttributeFault}
use Rattle.hdf_values.specs.declared.attributes.AttributeFault.TheVariants.{NoMemory, BadType, BadShape as NoShape}
use Rattle.shapes.specs.Extents.{dims_in}
use Rattle.shapes.specs.RowMajor.{room_of}
use Rattle.shapes.specs.Shapes.{dims_of}
use Rattle.shapes.specs.Spelled.{few_of}
use Rattle.shapes.specs.declared.Shape.{Shape}
use Rattle.shapes.specs.declared.ShapeFault.{ShapeFault}
use Rattle.shapes.specs.declared.ShapeFault.TheVariants.{NotAShape, Rank, DimOverMax, TooLarge}
use Rattle.groups_links.specs.IdTexts.{id_of}
use Rattle.groups_links.specs.Targets.{link_in}
use Rattle.groups_links.specs.declared.reading.LinkFault.{LinkFault}
use Rattle.groups_links.specs.declared.reading.LinkFault.TheVariants as links
use Rattle.groups_links.specs.declared.target.LinkTo.{LinkTo}
use Rattle.json_trees.specs.Faults.{◌>>=◌, Gives as GivesTold}
use Rattle.object_ops.specs.declared.refusals.Refusal.{Refusal}
use Rattle.object_ops.specs.declared.refusals.Refusal.TheVariants.{BadJson, BadField, UnsupportedType, BadShape, BadName}
use Rattle.object_ops.specs.declared.words.FieldWord.TheVariants as field
use Rattle.object_ops.specs.declared.words.ShapeWord.{ShapeWord}
use Rattle.object_ops.specs.declared.words.ShapeWord.TheVariants as word
use Rattle.request_bodies.specs.declared.faults.BodyFault.{BodyFault}
use Rattle.request_bodies.specs.declared.faults.BodyFault.TheVariants as bodies
use Rattle.request_bodies.specs.declared.faults.AttributeBodyFault.{AttributeBodyFault}
use Rattle.request_bodies.specs.declared.faults.AttributeBodyFault.TheVariants as attribute_body
use Rattle.request_bodies.specs.Refusing.{Tells, or_refuse}
use Rattle.json_trees.specs.Trees.{tree_in}

-- ---- the object of a body

-- the tree, where it is an object
abbrev pub if_object : Data → Option Data
if_object d = if is_some (as_object d) then Some d else None

-- the object that some bytes are
unfoldable pub object_in : List ℕ → Option Data
object_in bytes = option_and_then if_object (tree_in bytes)

-- the object of a body; an empty body is `{}`
abbrev pub body_in : List ℕ → Result Data Refusal
body_in [] = Ok (object no_members)
body_in (byte ∷ rest) = or_refuse BadJson (object_in (byte ∷ rest))

-- ---- folders and entries

-- whether a folder is made: a truth value, false where there is none
abbrev pub folder_in : Data → Result Bool Refusal
folder_in d = or_refuse (BadField field.Folder) (truth_at (codes "folder") d)

-- the rights of an entry
abbrev pub rights_in : Data → Result Rights Refusal
rights_in d = or_refuse (BadField field.Acl) (entry_in d)

-- ---- faults of types and shapes

-- a type that is none is a field of the wrong form; a class that isn't supported is named
abbrev pub type_refusal : Cause → Refusal
type_refusal (Unsupported class) = UnsupportedType class
type_refusal cause = BadField field.Type

abbrev pub shape_fault_word : ShapeFault → ShapeWord
shape_fault_word NotAShape = word.NotAShape
shape_fault_word Rank = word.Rank
shape_fault_word (DimOverMax axis) = word.DimOverMax
shape_fault_word TooLarge = word.TooLarge

abbrev pub shape_refusal : ShapeFault → Refusal
shape_refusal fault = BadShape (shape_fault_word fault)

-- ---- attributes

-- a fault of the value or of its size is the value's
abbrev pub attribute_refusal : AttributeFault → Refusal
attribute_refusal (BadType (types.Refused path cause)) = type_refusal cause
attribute_refusal (NoShape fault) = shape_refusal fault
attribute_refusal fault = BadField field.Value

-- the same of what a call answers, where memory may be wanting
abbrev pub attribute_fault : AttributeFault → BodyFault
attribute_fault NoMemory = bodies.NoMemory
attribute_fault (BadType types.NoMemory) = bodies.NoMemory
attribute_fault fault = bodies.Refused (attribute_refusal fault)

abbrev pub attribute_or : Result Content AttributeFault → Result Attribute Refusal
attribute_or (Ok c) = Ok (attribute c)
attribute_or (Err fault) = Err (attribute_refusal fault)

abbrev pub attribute_in : Data → Result Attribute Refusal
attribute_in d = attribute_or (content_of d)

-- how many cells a shape has, with an extent of 0 counted as 1
abbrev pub room : Shape → ℕ
room shape = room_of (dims_of shape)

-- the most of them that an attribute of a request may have
abbrev pub most_cells : ℕ
most_cells = 65536

-- one fault of a body tells what it always tells; the other, that the attribute was found and has more cells
abbrev pub TellsOfAttribute : AttributeBodyFault → Result Attribute Refusal → Type 0
TellsOfAttribute (attribute_body.Body fault) r = Tells fault r
TellsOfAttribute attribute_body.TooManyCells r = IsOkAnd r (λ a. most_cells < room a.shape)

-- a call gives the attribute that the tests find, unless it has too many cells, or memory ran out
abbrev pub GivesAttribute : Result Attribute AttributeBodyFault → Result Attribute Refusal → Type 0
GivesAttribute given found = GivesTold TellsOfAttribute (λ a. a) given found

-- ---- ids, titles, links

abbrev pub same_kind : Kind → Kind → Bool
same_kind Group Group = true
same_kind Dataset Dataset = true
same_kind Datatype Datatype = true
same_kind a b = false

abbrev pub if_kind : Kind → Option Id → Option Id
if_kind kind None = None
if_kind kind (Some id) = if same_kind id.kind kind then Some id else None

-- the id of this kind that a text is
abbrev pub id_in : Kind → List ℕ → Option Id
id_in kind text = if_kind kind (id_of text)

-- why a call finds no name, or no link
abbrev pub name_fault : NameFault → BodyFault
name_fault names.BadName = bodies.Refused BadName
name_fault names.NoMemory = bodies.NoMemory

abbrev pub link_fault : LinkFault → BodyFault
link_fault links.NotALink = bodies.Refused (BadField field.Link)
link_fault links.NoMemory = bodies.NoMemory

-- the name of an attribute or an entry
abbrev pub name_in : List ℕ → Result (List ℕ) Refusal
name_in text = if is_name 255 text then Ok text else Err BadName

-- a title is a name without a slash
abbrev pub title_in : List ℕ → Result (List ℕ) Refusal
title_in text = name_in text >>= λ name. if has_no_slash name then Ok name else Err BadName

-- where a new link leads
abbrev pub target_in : Data → Result LinkTo Refusal
target_in d = or_refuse (BadField field.Link) (link_in d)

-- ---- dims

-- the dims at the key `shape`
abbrev pub dims_at : Data → Result (List ℕ) Refusal
dims_at d = or_refuse (BadField field.Shape) (option_and_then (λ tree. option_and_then few_of (dims_in tree)) (get (codes "shape") d))
