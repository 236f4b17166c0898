-- What one step of a request answers, and what it leaves of the object that it touches.
use Rattle.std.specs.Prelude.{◌≡◌, ℕ, Bool, ◌&&◌, ◌||◌, ◌==◌, nat_lt, Option, Some, None, IsSomeAnd, if◌then◌else◌}
use Rattle.std.specs.FinMap.{get}
use Rattle.object_ids.specs.IdValues.{Id}
use Rattle.object_ids.specs.IdOrder.{id_eq}
use Rattle.object_ids.specs.Ids.{lane_of}
use Rattle.groups_links.specs.declared.target.LinkTo.TheVariants.{Hard}
use Rattle.object_ops.specs.declared.ops.Op.{Op}
use Rattle.object_ops.specs.declared.ops.Op.TheVariants.{MakeObject, DropObject}
use Rattle.object_ops.specs.declared.ops.Make.{Make}
use Rattle.object_ops.specs.declared.ops.LinkPlace.{LinkPlace}
use Rattle.object_ops.specs.declared.grants.Grant.{Grant}
use Rattle.object_ops.specs.declared.grants.Step.{Step}
use Rattle.object_ops.specs.declared.grants.Step.TheVariants.{Only, Link, Make as Making}
use Rattle.object_ops.specs.declared.replies.Reply.{Reply}
use Rattle.object_ops.specs.declared.replies.Reply.TheVariants.{Done, Refused}
use Rattle.object_ops.specs.declared.refusals.Refusal.{Refusal}
use Rattle.object_ops.specs.declared.refusals.Refusal.TheVariants.{NoObject, Gone, Root}
use Rattle.object_ops.specs.Replies.{nothing}
use Rattle.object_ops.specs.Parts.{id_of, kind_made}
use Rattle.object_acts.specs.declared.objects.Object.{Object}
use Rattle.object_acts.specs.Objects.{empty_group, made, Objects}
use Rattle.object_acts.specs.Trees.{object_tree}
use Rattle.object_acts.specs.Acts.{reply_of, change_of, reads_object, on_links, link_put}
use Rattle.chunk_owner.specs.Lanes.{at_id}

-- ---- an id without an object

-- the id was given before: in an earlier run, or in this one below the next serial
abbrev pub is_used : Grant → Id → Bool
is_used g id = nat_lt id.run g.run || (id.run == g.run && nat_lt id.serial g.serial)

abbrev pub missing : Grant → Id → Refusal
missing g id = if id.domain == g.number && is_used g id then Gone id else NoObject id

-- a domain's root that isn't held is the empty group
abbrev pub object_or_root : Grant → Id → Option Object → Option Object
object_or_root g id None = if id_eq id g.root then Some empty_group else None
object_or_root g id (Some o) = Some o

-- an id of another domain has no object here, even where that domain has one
abbrev pub object_here : Grant → Id → Option Object → Option Object
object_here g id o = if id.domain == g.number then object_or_root g id o else None

-- ---- the object of an id is read, changed, removed or made

abbrev pub read_by : (Object → Reply) → Refusal → Option Object → Reply
read_by f absent None = Refused absent
read_by f absent (Some o) = f o

abbrev pub reading : Grant → Id → (Object → Reply) → Option Object → Reply × Option Object
reading g id f o = (read_by f (missing g id) (object_here g id o), o)

-- what follows is kept, but a root that isn't held stays so where the change is refused
abbrev pub left : Option Object → Reply × Object → Reply × Option Object
left None (Refused r, new) = (Refused r, None)
left None (Done status body, new) = (Done status body, Some new)
left (Some o) (reply, new) = (reply, Some new)

abbrev pub changed_by : (Object → Reply × Object) → Refusal → Option Object → Option Object → Reply × Option Object
changed_by f absent old None = (Refused absent, old)
changed_by f absent old (Some o) = left old (f o)

abbrev pub changing : Grant → Id → (Object → Reply × Object) → Option Object → Reply × Option Object
changing g id f o = changed_by f (missing g id) o (object_here g id o)

-- a root is never removed
abbrev pub removed : Bool → Refusal → Option Object → Option Object → Reply × Option Object
removed is_root absent old None = (Refused absent, old)
removed is_root absent old (Some o) = if is_root then (Refused Root, old) else (Done 200 nothing, None)

abbrev pub removing : Grant → Id → Option Object → Reply × Option Object
removing g id o = removed (id_eq id g.root) (missing g id) o (object_here g id o)

abbrev pub placing : Id → Id → Object → Option Object → Reply × Option Object
placing id root new o = (Done 201 (object_tree id root new), Some new)

-- ---- steps

-- the object that a step touches
abbrev pub group_of : Option LinkPlace → Option Id
group_of None = None
group_of (Some place) = Some place.group

abbrev pub touched_by_make : Grant → Option LinkPlace → Step → Option Id
touched_by_make g place Link = group_of place
touched_by_make g place Only = g.fresh
touched_by_make g place Making = g.fresh

abbrev pub touched : Grant → Op → Step → Option Id
touched g (MakeObject make place) s = touched_by_make g place s
touched g op s = id_of op

-- a group with a link to an object that is to be made
abbrev pub link_to : LinkPlace → Id → Object → Reply × Object
link_to place fresh group = on_links place.group (link_put place.title (Hard fresh)) group.attributes group.body

-- the link to an object that is to be made; without a place or a fresh id there is no such step
abbrev pub linking : Grant → Option LinkPlace → Option Id → Option Object → Reply × Option Object
linking g (Some place) (Some fresh) o = changing g place.group (link_to place fresh) o
linking g place fresh o = (Refused Root, o)

abbrev pub making : Grant → Make → Option Id → Option Object → Reply × Option Object
making g make (Some fresh) o = placing fresh g.root (made make) o
making g make None o = (Refused Root, o)

abbrev pub make_act : Grant → Make → Option LinkPlace → Step → Option Object → Reply × Option Object
make_act g make place Link o = linking g place g.fresh o
make_act g make place Only o = making g make g.fresh o
make_act g make place Making o = making g make g.fresh o

-- an operation on the object of an id: it reads the object, or it changes it
abbrev pub on_object : Grant → Op → Id → Option Object → Reply × Option Object
on_object g op id o = if reads_object op then reading g id (reply_of g.root op) o else changing g id (change_of op) o

-- what a step answers, and what it leaves at the id that it touches
abbrev pub act : Grant → Op → Step → Id → Option Object → Reply × Option Object
act g (MakeObject make place) s id o = make_act g make place s o
act g (DropObject at) s id o = removing g id o
act g op s id o = on_object g op id o

abbrev pub on_touched : Option Id → (Id → Option Object → Reply × Option Object) → Objects → Reply × Objects
on_touched None f m = (Refused Root, m)
on_touched (Some id) f m = at_id id (f id) m

-- the same on the objects of a lane: all others stay
abbrev pub acted : Grant → Op → Step → Objects → Reply × Objects
acted g op s m = on_touched (touched g op s) (act g op s) m

-- ---- when a step can be taken

-- a request on one object is one step; what is made with a link has two, and without a link one
abbrev pub IsMakeStep : Option LinkPlace → Step → Type 0
IsMakeStep None s = s ≡ Only
IsMakeStep (Some place) Only = ⊥
IsMakeStep (Some place) Link = Unit {0}
IsMakeStep (Some place) Making = Unit {0}

abbrev pub IsStepOf : Op → Step → Type 0
IsStepOf (MakeObject make place) s = IsMakeStep place s
IsStepOf op s = s ≡ Only

-- the id is of the kind of what is made, and no object has it
pub record IsFreshFor (make : Make) (m : Objects) (id : Id) : Type 0 where
  pub kind : id.kind ≡ kind_made make
  pub new : get m id ≡ None

-- what makes an object has a fresh id
abbrev pub HasFresh : Grant → Op → Objects → Type 0
HasFresh g (MakeObject make place) m = IsSomeAnd g.fresh (IsFreshFor make m)
HasFresh g op m = Unit {0}

-- the object that is touched is of the lane
abbrev pub IsTouchedIn : ℕ → ℕ → Option Id → Type 0
IsTouchedIn lane lanes None = ⊥
IsTouchedIn lane lanes (Some id) = lane_of lanes id ≡ lane
