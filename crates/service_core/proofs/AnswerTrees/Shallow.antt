-- Where types nest little and shapes have few axes, each request leaves it so.
use Rattle.std.proofs.Common.{ℕ, ◌≤◌, List, [], ◌∷◌, length, Option, Some, None, Result, Ok, Err}
use Rattle.std.specs.FinMap.{contains_key}
use Rattle.serde_json.specs.Data.{Data}
use Rattle.object_ids.specs.IdValues.{Id}
use Rattle.object_ids.specs.Puts.{put_fault}
use Rattle.object_ids.specs.declared.limits.LimitKind.{LimitKind}
use Rattle.object_ids.specs.declared.limits.LimitKind.TheVariants as limit
use Rattle.object_ids.specs.declared.puts.PutFault.{PutFault}
use Rattle.object_ids.specs.declared.puts.PutFault.TheVariants as put
use Rattle.hdf_types.specs.Views.{elem}
use Rattle.shapes.specs.declared.Shape.{Shape}
use Rattle.shapes.specs.declared.Shape.TheVariants.{Null, Scalar, Simple}
use Rattle.shapes.specs.declared.ShapeFault.{ShapeFault}
use Rattle.shapes.specs.declared.TheConstants.{MAX_RANK}
use Rattle.shapes.specs.Shapes.{dims_of, resized_of}
use Rattle.hyperslab.specs.declared.Slab.{Slab}
use Rattle.hyperslab.specs.declared.SlabFault.{SlabFault}
use Rattle.hyperslab.specs.Judged.{lists_slab}
use Rattle.hyperslab.specs.Selected.{extents, slab_cells}
use Rattle.point_select.specs.declared.PointFault.{PointFault}
use Rattle.point_select.specs.Faults.{points_of}
use Rattle.hdf_values.specs.declared.attributes.Attribute.{Attribute}
use Rattle.attributes.specs.AttributeMaps.{most_attributes, AttributeMap}
use Rattle.attributes.proofs.MapLemmas.{each_inserted, each_left, each_of_none}
use Rattle.groups_links.specs.declared.target.LinkTo.TheVariants.{Hard}
use Rattle.chunk_store.specs.Grids.{Grid, with_dims}
use Rattle.object_ops.specs.Conditions.{AreDims, IsSoundMake, IsSoundOp}
use Rattle.object_ops.specs.declared.ops.LinkPlace.{LinkPlace}
use Rattle.object_ops.specs.declared.ops.Make.{Make}
use Rattle.object_ops.specs.declared.ops.Make.TheVariants as make
use Rattle.object_ops.specs.declared.ops.Op.{Op}
use Rattle.object_ops.specs.declared.ops.Op.TheVariants.{PutLink, DropLink, PutAttribute, DropAttribute, PutShape, PutValue}
use Rattle.object_ops.specs.declared.ops.Part.{Part}
use Rattle.object_ops.specs.declared.ops.Part.TheVariants as part
use Rattle.object_ops.specs.declared.refusals.Refusal.{Refusal}
use Rattle.object_ops.specs.declared.replies.Reply.{Reply}
use Rattle.object_acts.specs.Arrays.Arrays.{bytes_read, bytes_written, dims_taken, points_written, shape_changed, slab_written, value_written}
use Rattle.object_acts.specs.declared.objects.Body.{Body}
use Rattle.object_acts.specs.declared.objects.Body.TheVariants.{Group, Dataset, Datatype}
use Rattle.object_acts.specs.declared.objects.Object.{Object}
use Rattle.object_acts.specs.Objects.{body_made, made}
use Rattle.object_acts.specs.Acts.{change_of, drop_from, link_put, on_array, on_links, put_in}
use Rattle.chunk_owner.specs.Acts.{link_to}
use Rattle.object_acts.specs.Depths.Shallow.{AreShallowAttributes, IsShallow}
use Rattle.object_acts.proofs.OfDepths.Depths.{sound_shallow}
use Rattle.service_core.specs.AnswerTrees.Readable.{IsShallowBody, IsShallowGrid, IsShallowObject}
use Rattle.service_core.proofs.AnswerTrees.Trees.{either_way}
use Rattle.groups_links.specs.GroupLinks.{Titles}

-- ---- new objects

abbrev NameAt : List ℕ → Attribute → Type 0
NameAt name a = IsShallow (elem a.elem) a.shape

body_made_shallow : (m : Make) → IsSoundMake m → IsShallowBody (body_made m)
body_made_shallow make.Group sound = tt
body_made_shallow (make.Dataset type shape layout fill) sound = sound_shallow (elem type) shape sound.0 sound.1
body_made_shallow (make.Datatype type) sound = sound.nested

pub made_shallow : (m : Make) → IsSoundMake m → IsShallowObject (made m)
made_shallow m sound = record { attributes = each_of_none NameAt; body = body_made_shallow m sound }

-- ---- what is changed of an object

put_shallow : (most : ℕ) (what : LimitKind) (name : List ℕ) (a : Attribute) (names : AttributeMap) (o : Option PutFault) → NameAt name a
    → AreShallowAttributes names → AreShallowAttributes (put_in most what name a names o).1
put_shallow most what name a names None new old = each_inserted NameAt names name a new old
put_shallow most what name a names (Some put.Taken) new old = old
put_shallow most what name a names (Some put.Limit) new old = old
put_shallow most what name a names (Some put.NoMemory) new old = old

drop_shallow : (name : List ℕ) (names : AttributeMap) → AreShallowAttributes names → AreShallowAttributes (drop_from name names).1
drop_shallow name names old =
    either_way (λ (p : Reply × AttributeMap). AreShallowAttributes p.1) (contains_key names name) (each_left NameAt names name old) old

-- links have nothing that nests
on_links_shallow : (id : Id) (f : Titles → Reply × Titles) (o : Object) → IsShallowObject o
    → IsShallowObject (on_links id f o.attributes o.body).1
on_links_shallow id f o h = at o.body h.body where
  at : (body : Body) → IsShallowBody body → IsShallowObject (on_links id f o.attributes body).1
  at (Group links) b = record { attributes = h.attributes; body = tt }
  at (Dataset array) b = record { attributes = h.attributes; body = b }
  at (Datatype type) b = record { attributes = h.attributes; body = b }

on_array_shallow : (id : Id) (f : Grid → Reply × Grid) (o : Object) → ((g : Grid) → IsShallowGrid g → IsShallowGrid (f g).1)
    → IsShallowObject o
    → IsShallowObject (on_array id f o.attributes o.body).1
on_array_shallow id f o keeps h = at o.body h.body where
  at : (body : Body) → IsShallowBody body → IsShallowObject (on_array id f o.attributes body).1
  at (Group links) b = record { attributes = h.attributes; body = tt }
  at (Dataset array) b = record { attributes = h.attributes; body = keeps array.grid b }
  at (Datatype type) b = record { attributes = h.attributes; body = b }

bytes_keep : (g : Grid) (ats : List (List ℕ)) (r : Result (List ℕ) Refusal) → IsShallowGrid g → IsShallowGrid (bytes_written g ats r).1
bytes_keep g ats (Err refusal) h = h
bytes_keep g ats (Ok bs) h = h

slab_keeps : (g : Grid) (tree : Data) (r : Result Slab SlabFault) → IsShallowGrid g → IsShallowGrid (slab_written g tree r).1
slab_keeps g tree (Err f) h = h
slab_keeps g tree (Ok s) h = bytes_keep g (slab_cells s g.shape) (bytes_read g (length (slab_cells s g.shape)) (extents s) tree) h

points_keep : (g : Grid) (tree : Data) (r : Result (List (List ℕ)) PointFault) → IsShallowGrid g → IsShallowGrid (points_written g tree r).1
points_keep g tree (Err f) h = h
points_keep g tree (Ok ps) h = bytes_keep g ps (bytes_read g (length ps) (length ps ∷ []) tree) h

value_keeps : (p : Part) (tree : Data) (g : Grid) → IsShallowGrid g → IsShallowGrid (value_written p tree g).1
value_keeps (part.Slab start stop step) tree g h = slab_keeps g tree (lists_slab g.shape start stop step) h
value_keeps (part.Points points) tree g h = points_keep g tree (points_of points g.shape) h

other_axes : (s : Shape) (dims : List ℕ) → length dims ≤ MAX_RANK → length (dims_of s) ≤ MAX_RANK
    → length (dims_of (with_dims s dims)) ≤ MAX_RANK
other_axes Null dims few old = old
other_axes Scalar dims few old = old
other_axes (Simple ns limits) dims few old = few

dims_keep : (dims : List ℕ) (g : Grid) (r : Result Shape ShapeFault) → AreDims dims → IsShallowGrid g
    → IsShallowGrid (dims_taken dims g r).1
dims_keep dims g (Err f) few h = h
dims_keep dims g (Ok s) few h = record { nested = h.nested; few_axes = other_axes g.shape dims few.1 h.few_axes }

pub linked_shallow : (place : LinkPlace) (fresh : Id) (o : Object) → IsShallowObject o → IsShallowObject (link_to place fresh o).1
linked_shallow place fresh o h = on_links_shallow place.group (link_put place.title (Hard fresh)) o h

pub change_shallow : (op : Op) (o : Object) → IsSoundOp op → IsShallowObject o → IsShallowObject (change_of op o).1
change_shallow (PutLink id title to) o sound h = on_links_shallow id (link_put title to) o h
change_shallow (DropLink id title) o sound h = on_links_shallow id (drop_from title) o h
change_shallow (PutAttribute id name a) o sound h = record {
  attributes = put_shallow most_attributes limit.Attributes name a o.attributes (put_fault most_attributes o.attributes name)
      (sound_shallow (elem a.elem) a.shape sound.1.kind sound.1.shape) h.attributes;
  body = h.body;
}
change_shallow (DropAttribute id name) o sound h = record { attributes = drop_shallow name o.attributes h.attributes; body = h.body }
change_shallow (PutShape id dims) o sound h =
    on_array_shallow id (shape_changed dims) o (λ g low. dims_keep dims g (resized_of g.shape dims) sound.1 low) h
change_shallow (PutValue id part value) o sound h = on_array_shallow id (value_written part value) o (value_keeps part value) h
change_shallow op o sound h = h
