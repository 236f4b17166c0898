-- What a step leaves that is refused, that reads, or that names an object of another domain.
use Rattle.std.proofs.Common.{◌≡◌, ℕ, Bool, true, false, cond, ◌==◌, List, Option, Some, None, Result, option_map, sym, ap, subst, refl, ◌∙◌, ne_eqb}
use Rattle.std.specs.FinMap.{get}
use Rattle.object_ids.specs.IdOrder.{id_eq}
use Rattle.object_ids.specs.IdValues.{Id}
use Rattle.groups_links.specs.declared.target.LinkTo.{LinkTo}
use Rattle.groups_links.specs.declared.target.LinkTo.TheVariants.{Hard}
use Rattle.object_ops.specs.declared.ops.LinkPlace.{LinkPlace}
use Rattle.object_ops.specs.declared.ops.Make.{Make}
use Rattle.object_ops.specs.declared.ops.Op.{Op}
use Rattle.object_ops.specs.declared.ops.Op.TheVariants.{MakeObject, DropObject}
use Rattle.object_ops.specs.declared.grants.Grant.{Grant}
use Rattle.object_ops.specs.declared.grants.Step.{Step}
use Rattle.object_ops.specs.declared.grants.Step.TheVariants.{Only, Link, Make as Making}
use Rattle.object_ops.specs.declared.refusals.Refusal.{Refusal}
use Rattle.object_ops.specs.declared.refusals.Refusal.TheVariants.{NoObject, Root}
use Rattle.object_ops.specs.declared.replies.Reply.{Reply}
use Rattle.object_ops.specs.declared.replies.Reply.TheVariants.{Done, Refused}
use Rattle.object_ops.specs.Replies.{Follows}
use Rattle.object_ops.specs.Parts.{id_of}
use Rattle.object_acts.specs.declared.objects.Object.{Object}
use Rattle.object_acts.specs.Objects.{unmarked, Objects}
use Rattle.object_acts.specs.Acts.{change_of, link_put, on_links, reads_object, reply_of}
use Rattle.object_acts.proofs.LawLemmas.{Keeps}
use Rattle.chunk_owner.specs.Lanes.{shown, at_id}
use Rattle.chunk_owner.specs.Acts.{act, acted, changed_by, changing, left, link_to, linking, make_act, making, missing, on_touched, reading, removed, removing, object_here, touched}
use Rattle.chunk_owner.specs.Laws.{RefusalsLeaveAll, ReadsLeaveAll, OthersAreLeft, OthersAreUnlinked}
use Rattle.chunk_owner.proofs.AtIds.{answers_here, own_set, removing-foreign}
use Rattle.chunk_owner.proofs.Eaches.{get-shown}
use Rattle.chunk_owner.proofs.LawLemmas.{no_object_elsewhere, others_are_hidden}

-- ---- refusals

-- a root that isn't held stays so
left_none : (p : Reply × Object) → Keeps None (left None p)
left_none (Done status body, new) refusal e = absurd (cc)
left_none (Refused r, new) refusal e = refl

left_some : (x : Object) (p : Reply × Object) → Keeps x p → Keeps (Some x) (left (Some x) p)
left_some x (reply, new) kept refusal e = ap (λ (o : Object). Some o) (kept refusal e)

changed_none : (f : Object → Reply × Object) (absent : Refusal) (s : Option Object) → Keeps None (changed_by f absent None s)
changed_none f absent None refusal e = refl
changed_none f absent (Some o) refusal e = left_none (f o) refusal e

changed_some : (f : Object → Reply × Object) (absent : Refusal) (x : Object) (b : Bool) → Keeps x (f x) → Keeps (Some x) (changed_by f absent (Some x) (cond b (Some x) None))
changed_some f absent x true kept refusal e = left_some x (f x) kept refusal e
changed_some f absent x false kept refusal e = refl

changing_kept : (g : Grant) (id : Id) (f : Object → Reply × Object) (w : Option Object) → ((x : Object) → Keeps (unmarked x) (f (unmarked x)))
    → Keeps (option_map unmarked w) (changing g id f (option_map unmarked w))
changing_kept g id f None kept = changed_none f (missing g id) (object_here g id None)
changing_kept g id f (Some x) kept = changed_some f (missing g id) (unmarked x) (id.domain == g.number) (kept x)

removed_kept : (is_root : Bool) (absent : Refusal) (old s : Option Object) → Keeps old (removed is_root absent old s)
removed_kept is_root absent old None refusal e = refl
removed_kept true absent old (Some o) refusal e = refl
removed_kept false absent old (Some o) refusal e = absurd (cc)

removing_kept : (g : Grant) (id : Id) (o : Option Object) → Keeps o (removing g id o)
removing_kept g id o = removed_kept (id_eq id g.root) (missing g id) o (object_here g id o)

making_kept : (g : Grant) (make : Make) (fresh : Option Id) (o : Option Object) → Keeps o (making g make fresh o)
making_kept g make None o refusal e = refl
making_kept g make (Some id) o refusal e = absurd (cc)

touched_kept : (t : Option Id) (f : Id → Option Object → Reply × Option Object) (m : Objects) → ((id : Id) → Keeps (get m id) (f id (get m id))) → Keeps m (on_touched t f m)
touched_kept None f m kept refusal e = refl
touched_kept (Some id) f m kept refusal e = own_set m id (f id (get m id)).1 (sym (kept id refusal e))

-- where a refused change leaves the object, and a refused link the group
module _ (change : (op : Op) (o : Object) → Keeps (unmarked o) (change_of op (unmarked o)))
    (link : (id : Id) (title : List ℕ) (to : LinkTo) (o : Object) → Keeps o (on_links id (link_put title to) o.attributes o.body)) where
  linking_kept : (g : Grant) (place : Option LinkPlace) (fresh : Option Id) (w : Option Object) → Keeps (option_map unmarked w) (linking g place fresh (option_map unmarked w))
  linking_kept g (Some place) (Some fresh) w = changing_kept g place.group (link_to place fresh) w (λ x. link place.group place.title (Hard fresh) (unmarked x))
  linking_kept g (Some place) None w = λ refusal e. refl
  linking_kept g None fresh w = λ refusal e. refl

  make_kept : (g : Grant) (make : Make) (place : Option LinkPlace) (s : Step) (w : Option Object) → Keeps (option_map unmarked w) (make_act g make place s (option_map unmarked w))
  make_kept g make place Link w = linking_kept g place g.fresh w
  make_kept g make place Only w = making_kept g make g.fresh (option_map unmarked w)
  make_kept g make place Making w = making_kept g make g.fresh (option_map unmarked w)

  object_kept : (g : Grant) (op : Op) (id : Id) (w : Option Object) (b : Bool)
      → Keeps (option_map unmarked w) (cond b (reading g id (reply_of g.root op) (option_map unmarked w)) (changing g id (change_of op) (option_map unmarked w)))
  object_kept g op id w true = λ refusal e. refl
  object_kept g op id w false = changing_kept g id (change_of op) w (change op)

  act_kept : (g : Grant) (op : Op) (s : Step) (id : Id) (w : Option Object) → Keeps (option_map unmarked w) (act g op s id (option_map unmarked w))
  act_kept g (MakeObject make place) s id w = make_kept g make place s w
  act_kept g (DropObject at) s id w = removing_kept g id (option_map unmarked w)
  act_kept g op s id w = object_kept g op id w (reads_object op)

  pub all_kept : RefusalsLeaveAll
  all_kept g op s objects = touched_kept (touched g op s) (act g op s) (shown objects)
      (λ id. subst (λ (o : Option Object). Keeps o (act g op s id o)) (sym (get-shown objects id)) (act_kept g op s id (get objects id)))

-- ---- reads

object_read : (g : Grant) (op : Op) (id : Id) (o : Option Object) (b : Bool) → b ≡ true → (cond b (reading g id (reply_of g.root op) o) (changing g id (change_of op) o)).1 ≡ o
object_read g op id o true e = refl
object_read g op id o false e = absurd (cc)

act_read : (g : Grant) (op : Op) (s : Step) (id : Id) (o : Option Object) → reads_object op ≡ true → (act g op s id o).1 ≡ o
act_read g (MakeObject make place) s id o e = absurd (cc)
act_read g (DropObject at) s id o e = absurd (cc)
act_read g op s id o e = object_read g op id o (reads_object op) e

touched_read : (t : Option Id) (f : Id → Option Object → Reply × Option Object) (m : Objects) → ((id : Id) → (f id (get m id)).1 ≡ get m id) → (on_touched t f m).1 ≡ m
touched_read None f m kept = refl
touched_read (Some id) f m kept = own_set m id (f id (get m id)).1 (sym (kept id))

pub reads_kept : ReadsLeaveAll
reads_kept g op s objects reads = touched_read (touched g op s) (act g op s) objects (λ id. act_read g op s id (get objects id) reads)

-- ---- other domains

-- the reply at an id where nothing is left otherwise
answered_at : (id : Id) (f : Option Object → Reply × Option Object) (m : Objects) (r : Reply) → f (get m id) ≡ (r, get m id) → at_id id f m ≡ (r, m)
answered_at id f m r e = let here = answers_here id f m (get m id) r refl e in λ i. (sym here.0 i, sym here.1 i)

removing_other : (g : Grant) (id : Id) (o : Option Object) → (id.domain ≡ g.number → ⊥) → removing g id o ≡ (Refused (NoObject id), o)
removing_other g id o other =
    removing-foreign g id o (ne_eqb id.domain g.number other) ∙ (λ i. (Refused (no_object_elsewhere g id (λ w. other w.0) i), o))

object_other : (g : Grant) (op : Op) (id : Id) (o : Option Object) (b : Bool) → (id.domain ≡ g.number → ⊥)
    → cond b (reading g id (reply_of g.root op) o) (changing g id (change_of op) o) ≡ (Refused (NoObject id), o)
object_other g op id o true other = (others_are_hidden g id o (reply_of g.root op) (change_of op) other).0
object_other g op id o false other = (others_are_hidden g id o (reply_of g.root op) (change_of op) other).1

act_other : (g : Grant) (op : Op) (s : Step) (id : Id) (o : Option Object) → id_of op ≡ Some id → (id.domain ≡ g.number → ⊥)
    → act g op s id o ≡ (Refused (NoObject id), o)
act_other g (MakeObject make place) s id o names other = absurd (cc)
act_other g (DropObject at) s id o names other = removing_other g id o other
act_other g op s id o names other = object_other g op id o (reads_object op) other

-- an operation on one object touches it
pub touched_named : (g : Grant) (op : Op) (s : Step) (id : Id) → id_of op ≡ Some id → touched g op s ≡ Some id
touched_named g (MakeObject make place) s id names = absurd (cc)
touched_named g op s id names = names

pub others_left : OthersAreLeft
others_left g op s objects id names other =
    ap (λ (t : Option Id). on_touched t (act g op s) objects) (touched_named g op s id names)
    ∙ answered_at id (act g op s id) objects (Refused (NoObject id)) (act_other g op s id (get objects id) names other)

pub others_unlinked : OthersAreUnlinked
others_unlinked g make place fresh objects has other =
    let id = place.group in
    let o = get objects id in
    answered_at id (linking g (Some place) g.fresh) objects (Refused (NoObject id))
    (ap (λ (f : Option Id). linking g (Some place) f o) has ∙ (others_are_hidden g id o (λ x. Refused Root) (link_to place fresh) other).1)

-- ---- what is read of an object that is named

act_reading : (g : Grant) (op : Op) (s : Step) (id : Id) → reads_object op ≡ true → act g op s id ≡ reading g id (reply_of g.root op)
act_reading g (MakeObject make place) s id e = absurd (cc)
act_reading g (DropObject at) s id e = absurd (cc)
act_reading g op s id e = λ i o. cond (e i) (reading g id (reply_of g.root op) o) (changing g id (change_of op) o)

pub acted_reading : {E : Type 0} (g : Grant) (op : Op) (s : Step) (id : Id) (m : Objects) (r : Result Reply E) → reads_object op ≡ true → id_of op ≡ Some id
    → Follows (at_id id (reading g id (reply_of g.root op)) m) m r m → Follows (acted g op s m) m r m
acted_reading g op s id m r reads names said =
    subst (λ (t : Option Id). Follows (on_touched t (act g op s) m) m r m) (sym (touched_named g op s id names))
    (subst (λ (f : Option Object → Reply × Option Object). Follows (at_id id f m) m r m) (sym (act_reading g op s id reads)) said)
