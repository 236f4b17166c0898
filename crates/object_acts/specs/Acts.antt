-- What each operation answers and leaves of one object.
use Rattle.std.specs.Prelude.{ℕ, List, Bool, true, false, Option, Some, None, codes, if◌then◌else◌}
use Rattle.std.specs.FinMap.{FinMap, get, insert, remove, contains_key}
use Rattle.serde_json.specs.Data.{Data}
use Rattle.containers.specs.TextMaps.Keyed.{text_order}
use Rattle.object_ids.specs.IdValues.{Id}
use Rattle.object_ids.specs.declared.limits.LimitKind.{LimitKind}
use Rattle.object_ids.specs.declared.limits.LimitKind.TheVariants as limit
use Rattle.object_ids.specs.declared.puts.PutFault.{PutFault}
use Rattle.object_ids.specs.declared.puts.PutFault.TheVariants as put
use Rattle.object_ids.specs.Puts.{put_fault}
use Rattle.shapes.specs.declared.printing.Form.TheVariants.{Rest}
use Rattle.hdf_values.specs.declared.attributes.Attribute.{Attribute}
use Rattle.hdf_values.specs.Attributes.{content}
pub use Rattle.attributes.specs.AttributeMaps.{AttributeMap}
use Rattle.attributes.specs.AttributeMaps.{most_attributes}
use Rattle.attributes.specs.AttributeTrees.{attribute_tree, attributes_list}
use Rattle.groups_links.specs.declared.target.LinkTo.{LinkTo}
use Rattle.groups_links.specs.GroupLinks.{most_links, Titles}
use Rattle.groups_links.specs.Printed.{link_tree, links_list}
use Rattle.chunk_store.specs.Grids.{Grid}
use Rattle.object_ops.specs.declared.ops.Op.{Op}
use Rattle.object_ops.specs.declared.ops.Op.TheVariants.{GetObject, ListLinks, GetLink, PutLink, DropLink, ListAttributes, GetAttribute, PutAttribute, DropAttribute, GetShape, PutShape, GetElem, GetValue, PutValue, GetPoints}
use Rattle.object_ops.specs.declared.replies.Reply.{Reply}
use Rattle.object_ops.specs.declared.replies.Reply.TheVariants.{Done, Refused}
use Rattle.object_ops.specs.Replies.{nothing, only}
use Rattle.object_ops.specs.declared.refusals.Refusal.TheVariants.{NoObject, Taken, NoName, Limit}
use Rattle.object_acts.specs.declared.objects.Object.{Object}
use Rattle.object_acts.specs.declared.objects.Body.{Body}
use Rattle.object_acts.specs.declared.objects.Body.TheVariants.{Group, Dataset, Datatype}
use Rattle.object_acts.specs.Objects.{bare}
use Rattle.object_acts.specs.Trees.{object_tree}
use Rattle.object_acts.specs.Arrays.Arrays.{value_read, points_read, shape_read, type_read, value_written, shape_changed}

-- ---- a title or a name is put or taken away

-- the value is put, or the name is taken, or there are as many names as there may be
abbrev pub put_in : {X : Type 0} → ℕ → LimitKind → List ℕ → X → FinMap text_order X → Option PutFault → Reply × FinMap text_order X
put_in most what name x m None = (Done 201 nothing, insert m name x)
put_in most what name x m (Some put.Taken) = (Refused (Taken name), m)
put_in most what name x m (Some put.Limit) = (Refused (Limit most what), m)
put_in most what name x m (Some put.NoMemory) = (Refused (Limit most what), m)

abbrev pub drop_from : {X : Type 0} → List ℕ → FinMap text_order X → Reply × FinMap text_order X
drop_from name m = if contains_key m name then (Done 200 nothing, remove m name) else (Refused (NoName name), m)

abbrev pub link_put : List ℕ → LinkTo → Titles → Reply × Titles
link_put title link links = put_in most_links limit.Links title link links (put_fault most_links links title)

abbrev pub attribute_put : List ℕ → Attribute → AttributeMap → Reply × AttributeMap
attribute_put name attribute names = put_in most_attributes limit.Attributes name attribute names (put_fault most_attributes names name)

-- ---- what is read

-- one of these by its name, as a tree
abbrev pub one_read : {X : Type 0} → (List ℕ → X → Data) → List ℕ → Option X → Reply
one_read tree name None = Refused (NoName name)
one_read tree name (Some x) = Done 200 (tree name x)

abbrev pub attribute_read : List ℕ → AttributeMap → Reply
attribute_read name names = one_read (λ n a. attribute_tree n (content a) Rest true) name (get names name)

abbrev pub link_read : List ℕ → Titles → Reply
link_read title links = one_read (λ t l. only (codes "link") (link_tree t l Rest)) title (get links title)

-- of a group its links, and of a dataset its array; an id's kind is that of its object
abbrev pub of_links : Id → (Titles → Reply) → Body → Reply
of_links id f (Group links) = f links
of_links id f (Dataset array) = Refused (NoObject id)
of_links id f (Datatype type) = Refused (NoObject id)

abbrev pub of_array : Id → (Grid → Reply) → Body → Reply
of_array id f (Group links) = Refused (NoObject id)
of_array id f (Dataset array) = f array.grid
of_array id f (Datatype type) = Refused (NoObject id)

-- what is answered to an operation that reads an object, in a domain with this root; the last case is for all others, which `reads_object` leaves out
abbrev pub reply_of : Id → Op → Object → Reply
reply_of root (GetObject id) o = Done 200 (object_tree id root o)
reply_of root (ListLinks id) o = of_links id (λ links. Done 200 (only (codes "links") (links_list links Rest))) o.body
reply_of root (GetLink id title) o = of_links id (link_read title) o.body
reply_of root (ListAttributes id) o = Done 200 (only (codes "attributes") (attributes_list o.attributes Rest false))
reply_of root (GetAttribute id name) o = attribute_read name o.attributes
reply_of root (GetShape id) o = of_array id shape_read o.body
reply_of root (GetElem id) o = of_array id type_read o.body
reply_of root (GetValue id select) o = of_array id (value_read select) o.body
reply_of root (GetPoints id points) o = of_array id (points_read points) o.body
reply_of root op o = Done 200 nothing

-- ---- what is changed

abbrev pub on_links : Id → (Titles → Reply × Titles) → AttributeMap → Body → Reply × Object
on_links id f names (Group links) = ((f links).0, record { attributes = names; body = Group (f links).1 })
on_links id f names (Dataset array) = (Refused (NoObject id), record { attributes = names; body = Dataset array })
on_links id f names (Datatype type) = (Refused (NoObject id), record { attributes = names; body = Datatype type })

abbrev pub on_array : Id → (Grid → Reply × Grid) → AttributeMap → Body → Reply × Object
on_array id f names (Group links) = (Refused (NoObject id), record { attributes = names; body = Group links })
on_array id f names (Dataset array) = ((f array.grid).0, record { attributes = names; body = Dataset (bare (f array.grid).1) })
on_array id f names (Datatype type) = (Refused (NoObject id), record { attributes = names; body = Datatype type })

abbrev pub on_attributes : (AttributeMap → Reply × AttributeMap) → Object → Reply × Object
on_attributes f o = ((f o.attributes).0, record { attributes = (f o.attributes).1; body = o.body })

-- what is answered to an operation that changes an object, and the object that follows; the last case is for all others, which `changes_object` leaves out
abbrev pub change_of : Op → Object → Reply × Object
change_of (PutLink id title link) o = on_links id (link_put title link) o.attributes o.body
change_of (DropLink id title) o = on_links id (drop_from title) o.attributes o.body
change_of (PutAttribute id name attribute) o = on_attributes (attribute_put name attribute) o
change_of (DropAttribute id name) o = on_attributes (drop_from name) o
change_of (PutShape id dims) o = on_array id (shape_changed dims) o.attributes o.body
change_of (PutValue id part value) o = on_array id (value_written part value) o.attributes o.body
change_of op o = (Done 200 nothing, o)

-- ---- which operations read an object, and which change one

abbrev pub reads_object : Op → Bool
reads_object (GetObject id) = true
reads_object (ListLinks id) = true
reads_object (GetLink id title) = true
reads_object (ListAttributes id) = true
reads_object (GetAttribute id name) = true
reads_object (GetShape id) = true
reads_object (GetElem id) = true
reads_object (GetValue id select) = true
reads_object (GetPoints id points) = true
reads_object op = false

abbrev pub changes_object : Op → Bool
changes_object (PutLink id title link) = true
changes_object (DropLink id title) = true
changes_object (PutAttribute id name attribute) = true
changes_object (DropAttribute id name) = true
changes_object (PutShape id dims) = true
changes_object (PutValue id part value) = true
changes_object op = false
