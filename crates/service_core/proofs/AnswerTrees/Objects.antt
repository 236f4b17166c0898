-- What a step on an object answers, and the object that it leaves.
use Rattle.std.proofs.Common.{◌≡◌, ℕ, ◌==◌, Bool, true, List, Option, Some, None, codes, refl}
use Rattle.std.specs.FinMap.{FinMap, contains_key, get}
use Rattle.serde_json.specs.Data.{Data}
use Rattle.containers.specs.TextMaps.Keyed.{text_order}
use Rattle.object_ids.specs.IdValues.{Id}
use Rattle.object_ids.specs.IdOrder.{id_eq}
use Rattle.object_ids.specs.Puts.{put_fault}
use Rattle.object_ids.specs.declared.limits.LimitKind.{LimitKind}
use Rattle.object_ids.specs.declared.limits.LimitKind.TheVariants as limit
use Rattle.object_ids.specs.declared.puts.PutFault.{PutFault}
use Rattle.object_ids.specs.declared.puts.PutFault.TheVariants as put
use Rattle.shapes.specs.declared.printing.Form.TheVariants.{Rest}
use Rattle.hdf_values.specs.declared.attributes.Attribute.{Attribute}
use Rattle.hdf_values.specs.Attributes.{content}
use Rattle.attributes.specs.AttributeMaps.{most_attributes, AttributeMap}
use Rattle.attributes.specs.AttributeTrees.{attribute_tree}
use Rattle.groups_links.specs.GroupLinks.{most_links, Titles}
use Rattle.groups_links.specs.declared.target.LinkTo.{LinkTo}
use Rattle.groups_links.specs.declared.target.LinkTo.TheVariants.{Hard}
use Rattle.groups_links.specs.Printed.{link_tree, links_list}
use Rattle.chunk_store.specs.Grids.{Grid}
use Rattle.object_ops.specs.Replies.{only}
use Rattle.object_ops.specs.declared.grants.Grant.{Grant}
use Rattle.object_ops.specs.declared.grants.Step.{Step}
use Rattle.object_ops.specs.declared.grants.Step.TheVariants.{Only, Link, Make as Making}
use Rattle.object_ops.specs.declared.ops.LinkPlace.{LinkPlace}
use Rattle.object_ops.specs.declared.ops.Make.{Make}
use Rattle.object_ops.specs.declared.ops.Op.{Op}
use Rattle.object_ops.specs.declared.ops.Op.TheVariants.{MakeObject, DropObject, GetObject, ListLinks, GetLink, PutLink, DropLink, ListAttributes, GetAttribute, PutAttribute, DropAttribute, GetShape, PutShape, GetElem, GetValue, PutValue, GetPoints}
use Rattle.object_ops.specs.declared.refusals.Refusal.{Refusal}
use Rattle.object_ops.specs.declared.replies.Reply.{Reply}
use Rattle.object_ops.specs.declared.replies.Reply.TheVariants.{Done, Refused}
use Rattle.object_acts.specs.Arrays.Arrays.{points_read, shape_changed, shape_read, type_read, value_read, value_written}
use Rattle.object_acts.specs.declared.objects.Body.{Body}
use Rattle.object_acts.specs.declared.objects.Body.TheVariants.{Group, Dataset, Datatype}
use Rattle.object_acts.specs.declared.objects.Object.{Object}
use Rattle.object_acts.specs.Objects.{made, Objects}
use Rattle.object_acts.specs.Acts.{attribute_put, change_of, drop_from, link_put, link_read, of_array, of_links, on_array, on_links, one_read, put_in, reads_object, reply_of}
use Rattle.chunk_owner.specs.Acts.{act, acted, changed_by, object_or_root, left, link_to, linking, make_act, making, missing, on_object, on_touched, read_by, removed, object_here, touched}
use Rattle.chunk_owner.specs.Lanes.{Each, set_at}
use Rattle.chunk_owner.proofs.Eaches.{each_insert, each_remove}
use Rattle.service_core.specs.AnswerTrees.Bodies.{ReplyHas}
use Rattle.service_core.proofs.AnswerTrees.Arrays.{points_have, resized_has, shape_has, type_has, value_has, written_has}
use Rattle.service_core.proofs.AnswerTrees.Trees.{ArrayHas, Trees, either_way}

module _ {P : ℕ → Data → Type 0} {Q : Object → Type 0} {G : Grid → Type 0} {S : Op → Type 0} (t : Trees P Q G S) where
  -- ---- what is read of an object

  attribute_has : (o : Object) (name : List ℕ) (found : Option Attribute) → Q o → get o.attributes name ≡ found
      → ReplyHas P (one_read (λ (n : List ℕ) (a : Attribute). attribute_tree n (content a) Rest true) name found)
  attribute_has o name None h e = tt
  attribute_has o name (Some a) h e = t.attribute o name a h e

  link_has : (title : List ℕ) (found : Option LinkTo)
      → ReplyHas P (one_read (λ (n : List ℕ) (l : LinkTo). only (codes "link") (link_tree n l Rest)) title found)
  link_has title None = tt
  link_has title (Some to) = t.link title to

  of_links_has : (id : Id) (f : Titles → Reply) (body : Body) → ((links : Titles) → ReplyHas P (f links)) → ReplyHas P (of_links id f body)
  of_links_has id f (Group links) each = each links
  of_links_has id f (Dataset array) each = tt
  of_links_has id f (Datatype type) each = tt

  of_array_has : (id : Id) (f : Grid → Reply) (body : Body) → ((g : Grid) → G g → ReplyHas P (f g)) → ArrayHas G body
      → ReplyHas P (of_array id f body)
  of_array_has id f (Group links) each h = tt
  of_array_has id f (Dataset array) each h = each array.grid h
  of_array_has id f (Datatype type) each h = tt

  reply_has : (root : Id) (op : Op) (o : Object) → Q o → ReplyHas P (reply_of root op o)
  reply_has root (GetObject id) o h = t.object id root o h
  reply_has root (ListLinks id) o h =
      of_links_has id (λ (links : Titles). Done 200 (only (codes "links") (links_list links Rest))) o.body t.links
  reply_has root (GetLink id title) o h = of_links_has id (link_read title) o.body (λ links. link_has title (get links title))
  reply_has root (ListAttributes id) o h = t.attributes o h
  reply_has root (GetAttribute id name) o h = attribute_has o name (get o.attributes name) h refl
  reply_has root (GetShape id) o h = of_array_has id shape_read o.body (shape_has t) (t.array o h)
  reply_has root (GetElem id) o h = of_array_has id type_read o.body (type_has t) (t.array o h)
  reply_has root (GetValue id select) o h = of_array_has id (value_read select) o.body (value_has t select) (t.array o h)
  reply_has root (GetPoints id points) o h = of_array_has id (points_read points) o.body (points_have t points) (t.array o h)
  reply_has root op o h = t.none

  -- ---- what is changed of one

  -- of what is answered beside what is left
  abbrev Says : {X : Type 0} → Reply × X → Type 0
  Says p = ReplyHas P p.0

  put_says : {X : Type 0} (most : ℕ) (what : LimitKind) (name : List ℕ) (x : X) (m : FinMap text_order X) (o : Option PutFault)
      → Says (put_in most what name x m o)
  put_says most what name x m None = t.added
  put_says most what name x m (Some put.Taken) = tt
  put_says most what name x m (Some put.Limit) = tt
  put_says most what name x m (Some put.NoMemory) = tt

  drop_says : {X : Type 0} (name : List ℕ) (m : FinMap text_order X) → Says (drop_from name m)
  drop_says {X = X} name m = either_way (Says {X = FinMap text_order X}) (contains_key m name) t.none tt

  on_links_says : (id : Id) (f : Titles → Reply × Titles) (names : AttributeMap) (body : Body) → ((links : Titles) → Says (f links))
      → Says (on_links id f names body)
  on_links_says id f names (Group links) each = each links
  on_links_says id f names (Dataset array) each = tt
  on_links_says id f names (Datatype type) each = tt

  on_array_says : (id : Id) (f : Grid → Reply × Grid) (names : AttributeMap) (body : Body) → ((g : Grid) → Says (f g))
      → Says (on_array id f names body)
  on_array_says id f names (Group links) each = tt
  on_array_says id f names (Dataset array) each = each array.grid
  on_array_says id f names (Datatype type) each = tt

  link_put_says : (title : List ℕ) (to : LinkTo) (links : Titles) → Says (link_put title to links)
  link_put_says title to links = put_says most_links limit.Links title to links (put_fault most_links links title)

  attribute_put_says : (name : List ℕ) (a : Attribute) (names : AttributeMap) → Says (attribute_put name a names)
  attribute_put_says name a names = put_says most_attributes limit.Attributes name a names (put_fault most_attributes names name)

  change_says : (op : Op) (o : Object) → Says (change_of op o)
  change_says (PutLink id title to) o = on_links_says id (link_put title to) o.attributes o.body (link_put_says title to)
  change_says (DropLink id title) o = on_links_says id (drop_from title) o.attributes o.body (drop_says title)
  change_says (PutAttribute id name a) o = attribute_put_says name a o.attributes
  change_says (DropAttribute id name) o = drop_says name o.attributes
  change_says (PutShape id dims) o = on_array_says id (shape_changed dims) o.attributes o.body (resized_has t dims)
  change_says (PutValue id part value) o = on_array_says id (value_written part value) o.attributes o.body (written_has t part value)
  change_says op o = t.none

  -- ---- steps, by ids

  abbrev At : Option Object → Type 0
  At None = Unit {0}
  At (Some o) = Q o

  -- what is answered, and what is left at the id
  abbrev Gives : Reply × Option Object → Type 0
  Gives p = ReplyHas P p.0 × At p.1

  object_or_root_at : (g : Grant) (id : Id) (o : Option Object) → At o → At (object_or_root g id o)
  object_or_root_at g id None h = either_way At (id_eq id g.root) t.empty tt
  object_or_root_at g id (Some o) h = h

  object_here_at : (g : Grant) (id : Id) (o : Option Object) → At o → At (object_here g id o)
  object_here_at g id o h = either_way At (id.domain == g.number) (object_or_root_at g id o h) tt

  read_gives : (f : Object → Reply) (absent : Refusal) (o : Option Object) → ((x : Object) → Q x → ReplyHas P (f x)) → At o
      → ReplyHas P (read_by f absent o)
  read_gives f absent None each h = tt
  read_gives f absent (Some o) each h = each o h

  left_gives : (old : Option Object) (p : Reply × Object) → Says p → Q p.1 → Gives (left old p)
  left_gives None (Refused r, new) said h = (tt, tt)
  left_gives None (Done status body, new) said h = (said, h)
  left_gives (Some o) (reply, new) said h = (said, h)

  changed_gives : (f : Object → Reply × Object) (absent : Refusal) (old o : Option Object) → ((x : Object) → Says (f x))
      → ((x : Object) → Q x → Q (f x).1) → At old → At o
      → Gives (changed_by f absent old o)
  changed_gives f absent old None says keeps before h = (tt, before)
  changed_gives f absent old (Some o) says keeps before h = left_gives old (f o) (says o) (keeps o h)

  removed_gives : (is_root : Bool) (absent : Refusal) (old o : Option Object) → At old → Gives (removed is_root absent old o)
  removed_gives is_root absent old None before = (tt, before)
  removed_gives is_root absent old (Some o) before = either_way Gives is_root (tt, before) (t.none, tt)

  linking_gives : (g : Grant) (place : Option LinkPlace) (fresh : Option Id) (o : Option Object) → At o → Gives (linking g place fresh o)
  linking_gives g (Some place) (Some fresh) o h =
      changed_gives (link_to place fresh) (missing g place.group) o (object_here g place.group o)
      (λ x. on_links_says place.group (link_put place.title (Hard fresh)) x.attributes x.body (link_put_says place.title (Hard fresh)))
      (t.linked place fresh) h (object_here_at g place.group o h)
  linking_gives g place fresh o h = (tt, h)

  making_gives : (g : Grant) (make : Make) (fresh : Option Id) (o : Option Object) → Q (made make) → At o → Gives (making g make fresh o)
  making_gives g make (Some fresh) o new h = (t.object_made fresh g.root (made make) new, new)
  making_gives g make None o new h = (tt, h)

  make_gives : (g : Grant) (make : Make) (place : Option LinkPlace) (s : Step) (o : Option Object) → Q (made make) → At o
      → Gives (make_act g make place s o)
  make_gives g make place Link o new h = linking_gives g place g.fresh o h
  make_gives g make place Only o new h = making_gives g make g.fresh o new h
  make_gives g make place Making o new h = making_gives g make g.fresh o new h

  on_object_gives : (g : Grant) (op : Op) (id : Id) (o : Option Object) → S op → At o → Gives (on_object g op id o)
  on_object_gives g op id o sound h =
      either_way Gives (reads_object op)
      (read_gives (reply_of g.root op) (missing g id) (object_here g id o) (reply_has g.root op) (object_here_at g id o h), h)
      (changed_gives (change_of op) (missing g id) o (object_here g id o) (change_says op) (λ x. t.changed op x sound) h (object_here_at g id o h))

  act_gives : (g : Grant) (op : Op) (s : Step) (id : Id) (o : Option Object) → S op → At o → Gives (act g op s id o)
  act_gives g (MakeObject make place) s id o sound h = make_gives g make place s o (t.made make place sound) h
  act_gives g (DropObject at) s id o sound h = removed_gives (id_eq id g.root) (missing g id) o (object_here g id o) h
  act_gives g op s id o sound h = on_object_gives g op id o sound h

  -- ---- all objects

  abbrev pub AreAll : Objects → Type 0
  AreAll = Each (λ id o. Q o)

  abbrev pub OutcomeHas : Reply × Objects → Type 0
  OutcomeHas p = ReplyHas P p.0 × AreAll p.1

  stands : (o : Option Object) → ((x : Object) → o ≡ Some x → Q x) → At o
  stands None each = tt
  stands (Some x) each = each x refl

  set_all : (m : Objects) (id : Id) (o : Option Object) → AreAll m → At o → AreAll (set_at m id o)
  set_all m id None old new = each_remove (λ id o. Q o) m id old
  set_all m id (Some o) old new = each_insert (λ id o. Q o) m id o new old

  touched_leaves : (at : Option Id) (f : Id → Option Object → Reply × Option Object) (m : Objects)
      → ((id : Id) (o : Option Object) → At o → Gives (f id o)) → AreAll m → OutcomeHas (on_touched at f m)
  touched_leaves None f m each h = (tt, h)
  touched_leaves (Some id) f m each h =
      let given = each id (get m id) (stands (get m id) (h id)) in
      (given.0, set_all m id (f id (get m id)).1 h given.1)

  pub acted_leaves : (g : Grant) (op : Op) (s : Step) (m : Objects) → S op → AreAll m → OutcomeHas (acted g op s m)
  acted_leaves g op s m sound h = touched_leaves (touched g op s) (act g op s) m (λ id o. act_gives g op s id o sound) h
