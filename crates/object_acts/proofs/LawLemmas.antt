-- What a refused change leaves.
use Rattle.std.proofs.Common.{◌≡◌, ℕ, Bool, true, false, cond, List, Option, Some, None, refl, ap}
use Rattle.std.specs.FinMap.{FinMap, contains_key, remove}
use Rattle.serde_json.specs.Data.{Data}
use Rattle.containers.specs.TextMaps.Keyed.{text_order}
use Rattle.object_ids.specs.IdValues.{Id}
use Rattle.object_ids.specs.declared.limits.LimitKind.{LimitKind}
use Rattle.object_ids.specs.declared.limits.LimitKind.TheVariants as limit
use Rattle.object_ids.specs.declared.puts.PutFault.{PutFault}
use Rattle.object_ids.specs.declared.puts.PutFault.TheVariants as put
use Rattle.object_ids.specs.Puts.{put_fault}
use Rattle.attributes.specs.AttributeMaps.{most_attributes, AttributeMap}
use Rattle.groups_links.specs.GroupLinks.{most_links, Titles}
use Rattle.groups_links.specs.declared.target.LinkTo.{LinkTo}
use Rattle.chunk_store.specs.Grids.{Grid}
use Rattle.object_ops.specs.declared.ops.Part.{Part}
use Rattle.object_ops.specs.declared.ops.Op.{Op}
use Rattle.object_ops.specs.declared.ops.Op.TheVariants.{PutLink, DropLink, PutAttribute, DropAttribute, PutShape, PutValue}
use Rattle.object_ops.specs.declared.refusals.Refusal.{Refusal}
use Rattle.object_ops.specs.declared.refusals.Refusal.TheVariants.{NoName}
use Rattle.object_ops.specs.declared.replies.Reply.{Reply}
use Rattle.object_ops.specs.declared.replies.Reply.TheVariants.{Done, Refused}
use Rattle.object_ops.specs.Replies.{nothing}
use Rattle.object_acts.specs.Arrays.Arrays.{shape_changed, value_written}
use Rattle.object_acts.specs.declared.objects.Object.{Object}
use Rattle.object_acts.specs.declared.objects.Body.{Body}
use Rattle.object_acts.specs.declared.objects.Body.TheVariants.{Group, Dataset, Datatype}
use Rattle.object_acts.specs.Objects.{bare, unmarked, unmarked_body}
use Rattle.object_acts.specs.Acts.{put_in, drop_from, link_put, attribute_put, on_links, on_array, on_attributes, change_of}

-- a refusal stands beside what was there before
abbrev pub Keeps : {S : Type 0} → S → Reply × S → Type 0
Keeps old p = (refusal : Refusal) → p.0 ≡ Refused refusal → p.1 ≡ old

not_done : (P : Type 0) (status : ℕ) (refusal : Refusal) → Done status nothing ≡ Refused refusal → P
not_done P status refusal e = absurd (cc)

-- ---- names

put_kept : {X : Type 0} (most : ℕ) (what : LimitKind) (name : List ℕ) (x : X) (m : FinMap text_order X) (f : Option PutFault) → Keeps m (put_in most what name x m f)
put_kept most what name x m None refusal e = not_done _ 201 refusal e
put_kept most what name x m (Some put.Taken) refusal e = refl
put_kept most what name x m (Some put.Limit) refusal e = refl
put_kept most what name x m (Some put.NoMemory) refusal e = refl

drop_kept : {X : Type 0} (name : List ℕ) (m : FinMap text_order X) → Keeps m (drop_from name m)
drop_kept {X = X} name m = at (contains_key m name) where
  at : (b : Bool) → Keeps m (cond b (Done 200 nothing, remove m name) (Refused (NoName name), m))
  at true refusal e = not_done _ 200 refusal e
  at false refusal e = refl

-- ---- objects

links_kept : (id : Id) (f : Titles → Reply × Titles) (names : AttributeMap) (body : Body) → ((links : Titles) → Keeps links (f links))
    → Keeps (record { attributes = names; body = body }) (on_links id f names body)
links_kept id f names (Group links) kept refusal e = ap (λ (t : Titles). record { attributes = names; body = Group t }) (kept links refusal e)
links_kept id f names (Dataset array) kept refusal e = refl
links_kept id f names (Datatype type) kept refusal e = refl

array_kept : (id : Id) (f : Grid → Reply × Grid) (names : AttributeMap) (body : Body) → ((g : Grid) → Keeps g (f g))
    → Keeps (record { attributes = names; body = unmarked_body body }) (on_array id f names (unmarked_body body))
array_kept id f names (Group links) kept refusal e = refl
array_kept id f names (Dataset array) kept refusal e = ap (λ (g : Grid). record { attributes = names; body = Dataset (bare g) }) (kept array.grid refusal e)
array_kept id f names (Datatype type) kept refusal e = refl

attributes_kept : (f : AttributeMap → Reply × AttributeMap) (o : Object) → ((names : AttributeMap) → Keeps names (f names)) → Keeps o (on_attributes f o)
attributes_kept f o kept refusal e = ap (λ (names : AttributeMap). record { attributes = names; body = o.body }) (kept o.attributes refusal e)

pub link_kept : (id : Id) (title : List ℕ) (link : LinkTo) (o : Object) → Keeps o (on_links id (link_put title link) o.attributes o.body)
link_kept id title link o = links_kept id (link_put title link) o.attributes o.body
    (λ links. put_kept most_links limit.Links title link links (put_fault most_links links title))

-- where a refused request leaves the array
module _ (value : (g : Grid) (part : Part) (d : Data) → Keeps g (value_written part d g)) (dims : (g : Grid) (ds : List ℕ) → Keeps g (shape_changed ds g)) where
  pub change_kept : (op : Op) (o : Object) → Keeps (unmarked o) (change_of op (unmarked o))
  change_kept (PutLink id title link) o = link_kept id title link (unmarked o)
  change_kept (DropLink id title) o = links_kept id (drop_from title) o.attributes (unmarked_body o.body) (drop_kept title)
  change_kept (PutAttribute id name attribute) o = attributes_kept (attribute_put name attribute) (unmarked o)
      (λ names. put_kept most_attributes limit.Attributes name attribute names (put_fault most_attributes names name))
  change_kept (DropAttribute id name) o = attributes_kept (drop_from name) (unmarked o) (drop_kept name)
  change_kept (PutShape id ds) o = array_kept id (shape_changed ds) o.attributes o.body (λ g. dims g ds)
  change_kept (PutValue id part d) o = array_kept id (value_written part d) o.attributes o.body (λ g. value g part d)
  change_kept op o = λ refusal e. not_done _ 200 refusal e
