-- A step adds an object only at its grant's root, or at the id of what it makes.
use Rattle.std.proofs.Common.{◌≡◌, ◌==◌, Bool, true, false, cond, Option, Some, None, refl, subst}
use Rattle.std.specs.FinMap.{get}
use Rattle.std.proofs.lemmas.Option.{none-some}
use Rattle.object_ids.specs.IdOrder.{id_eq}
use Rattle.object_ids.specs.IdValues.{Id}
use Rattle.object_ops.specs.declared.ops.Op.{Op}
use Rattle.object_ops.specs.declared.ops.Op.TheVariants.{DropObject, MakeObject}
use Rattle.object_ops.specs.declared.ops.Make.{Make}
use Rattle.object_ops.specs.declared.ops.LinkPlace.{LinkPlace}
use Rattle.object_ops.specs.declared.grants.Grant.{Grant}
use Rattle.object_ops.specs.declared.grants.Step.{Step}
use Rattle.object_ops.specs.declared.grants.Step.TheVariants.{Only, Link, Make as Making}
use Rattle.object_ops.specs.declared.replies.Reply.{Reply}
use Rattle.object_acts.specs.declared.objects.Object.{Object}
use Rattle.object_acts.specs.Objects.{empty_group, Objects}
use Rattle.object_acts.specs.Acts.{change_of, reads_object, reply_of}
use Rattle.chunk_owner.specs.Lanes.{Each}
use Rattle.chunk_owner.specs.Acts.{act, acted, changed_by, changing, group_of, linking, link_to, make_act, missing, object_here, on_touched, reading, removed, touched, touched_by_make}
use Rattle.service_histories.proofs.IdMaps.{each_set}

-- the step makes the object whose id is fresh
abbrev pub makes : Op → Step → Bool
makes (MakeObject make place) Link = false
makes (MakeObject make place) Only = true
makes (MakeObject make place) Making = true
makes op s = false

module _ (P : Id → Type 0) (g : Grant) (root : (id : Id) → id_eq id g.root ≡ true → P id) where
  -- ---- what one step leaves where no object was

  module _ (id : Id) (f : Object → Reply × Object) where
    changed_none : (own same : Bool) → (same ≡ true → P id) → (o : Object)
        → (changed_by f (missing g id) None (cond own (cond same (Some empty_group) None) None)).1 ≡ Some o → P id
    changed_none true true h o e = h refl
    changed_none true false h o e = absurd (none-some o e)
    changed_none false same h o e = absurd (none-some o e)

    changing_none : (o : Object) → (changing g id f None).1 ≡ Some o → P id
    changing_none o e = changed_none (id.domain == g.number) (id_eq id g.root) (root id) o e

  on_none : (b : Bool) (op : Op) (id : Id) (o : Object) → (cond b (reading g id (reply_of g.root op) None) (changing g id (change_of op) None)).1 ≡ Some o → P id
  on_none true op id o e = absurd (none-some o e)
  on_none false op id o e = changing_none id (change_of op) o e

  removing_none : (b : Bool) (id : Id) (s : Option Object) (o : Object) → (removed b (missing g id) None s).1 ≡ Some o → P id
  removing_none b id None o e = absurd (none-some o e)
  removing_none true id (Some x) o e = absurd (none-some o e)
  removing_none false id (Some x) o e = absurd (none-some o e)

  linking_none : (place : Option LinkPlace) (new : Option Id) (id : Id) → group_of place ≡ Some id → (o : Object) → (linking g place new None).1 ≡ Some o → P id
  linking_none (Some place) (Some new) id at o e =
      let same : place.group ≡ id = (let both : Some place.group ≡ Some id = at in cc) in
      subst P same (changing_none place.group (link_to place new) o e)
  linking_none (Some place) None id at o e = absurd (none-some o e)
  linking_none None new id at o e = absurd (none-some o e)

  make_none : (make : Make) (place : Option LinkPlace) (s : Step) (id : Id) → (makes (MakeObject make place) s ≡ true → g.fresh ≡ Some id → P id)
      → touched_by_make g place s ≡ Some id → (o : Object) → (make_act g make place s None).1 ≡ Some o → P id
  make_none make place Only id fresh at o e = fresh refl at
  make_none make place Link id fresh at o e = linking_none place g.fresh id at o e
  make_none make place Making id fresh at o e = fresh refl at

  act_none : (op : Op) (s : Step) (id : Id) → (makes op s ≡ true → g.fresh ≡ Some id → P id) → touched g op s ≡ Some id → (o : Object) → (act g op s id None).1 ≡ Some o → P id
  act_none (MakeObject make place) s id fresh at o e = make_none make place s id fresh at o e
  act_none (DropObject own) s id fresh at o e = removing_none (id_eq id g.root) id (object_here g id None) o e
  act_none op s id fresh at o e = on_none (reads_object op) op id o e

  -- ---- a step

  module _ (op : Op) (s : Step) (fresh : (id : Id) → makes op s ≡ true → g.fresh ≡ Some id → P id) where
    left_of : (id : Id) (old : Option Object) → touched g op s ≡ Some id → ((o : Object) → old ≡ Some o → P id) → (o : Object) → (act g op s id old).1 ≡ Some o → P id
    left_of id None at known o e = act_none op s id (fresh id) at o e
    left_of id (Some x) at known o e = known x refl

    touched_each : (t : Option Id) (m : Objects) → touched g op s ≡ t → Each (λ id o. P id) m → Each (λ id o. P id) (on_touched t (act g op s) m).1
    touched_each None m at all = all
    touched_each (Some id) m at all = each_set (λ q o. P q) m id (act g op s id (get m id)).1 (left_of id (get m id) at (all id)) all

    pub acted_each : (m : Objects) → Each (λ id o. P id) m → Each (λ id o. P id) (acted g op s m).1
    acted_each m all = touched_each (touched g op s) m refl all
