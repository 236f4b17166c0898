-- One slot that is changed in its place.
use Rattle.std.proofs.Common.{◌≡◌, ◌≢◌, true, false, Option, Some, None, Result, is_some, refl, sym, ap, subst, ◌∙◌}
use Rattle.std.specs.FinMap.{get, insert}
use Rattle.object_ids.specs.IdValues.{Id}
use Rattle.object_ids.specs.declared.ids.Kind.{Kind}
use Rattle.object_ops.specs.Replies.{Follows}
use Rattle.object_ops.specs.declared.replies.Reply.{Reply}
use Rattle.object_acts.specs.declared.objects.Object.{Object}
use Rattle.object_acts.specs.Objects.{IsOfKind, unmarked}
use Rattle.flush_journal.specs.Records.{Held}
use Rattle.chunk_owner.specs.declared.slots.slot.Mark.{Mark}
use Rattle.chunk_owner.specs.declared.slots.slot.Mark.TheVariants.{Kept, Changed, Dropped}
use Rattle.chunk_owner.specs.declared.slots.slot.Slot.{Slot}
use Rattle.chunk_owner.specs.Slots.Changed.{ChangesAt}
use Rattle.chunk_owner.specs.Slots.Slots.{AreOfKind, Says, Slots, StillSays, object_by, object_of, objects_of}
use Rattle.containers.proofs.Passing.{contrary}
use Rattle.chunk_owner.proofs.OfSlots.KeptSlots.{put_here, put_others}
use Rattle.chunk_owner.proofs.OfSlots.Placed.{everywhere, StillKind, StillSaid, kind_there}
use Rattle.chunk_owner.proofs.OfSlots.Standing.{get-objects_of, objects-insert}

pub live_object : (m : Mark) (o : Object) → m ≢ Dropped → object_by m o ≡ Some (unmarked o)
live_object Kept o live = refl
live_object Changed o live = refl
live_object Dropped o live = absurd (live refl)

object_live : (m : Mark) (o : Object) → is_some (object_by m o) ≡ true → m ≢ Dropped
object_live m o held gone = let none : is_some (object_by m o) ≡ false = ap (λ (x : Mark). is_some (object_by x o)) gone in contrary (is_some (object_by m o)) ⊥ held none

-- a slot that is held has an object
pub there_live : (m : Slots) (id : Id) (s : Slot) → get m id ≡ Some s → is_some (object_of (get m id)) ≡ true → s.mark ≢ Dropped
there_live m id s here held = object_live s.mark s.object (sym (ap (λ (o : Option Slot). is_some (object_of o)) here) ∙ held)

pub never_none : {P : Type 0} (m : Slots) (id : Id) → get m id ≡ None → is_some (object_of (get m id)) ≡ true → P
never_none {P} m id here held = contrary false P (sym (ap (λ (o : Option Slot). is_some (object_of o)) here) ∙ held) refl

some_object : (a b : Object) → Some a ≡ Some b → a ≡ b
some_object a b e = cc

module _ (m : Slots) (id : Id) (s t : Slot) (here : get m id ≡ Some s) (live : s.mark ≢ Dropped) (alive : t.mark ≢ Dropped) where
  now : get (insert m id t) id ≡ Some t
  now = put_here m id t

  pub changes_at : {E : Type 0} (f : Object → Reply × Object) (r : Result Reply E) → Follows (f (unmarked s.object)) (unmarked s.object) r (unmarked t.object)
      → ChangesAt id f (objects_of m) r (objects_of (insert m id t))
  changes_at f r acts o there =
      let same : unmarked s.object ≡ o = some_object (unmarked s.object) o (sym (live_object s.mark s.object live) ∙ sym (ap object_of here) ∙ sym (get-objects_of m id) ∙ there) in (
        unmarked t.object,
        objects-insert m (insert m id t) id (unmarked t.object) (ap object_of now ∙ live_object t.mark t.object alive) (put_others m id t),
        subst (λ (x : Object). Follows (f x) x r (unmarked t.object)) same acts,
      )

  pub changed_said : ((i : Id) (held : Held) → Says (Some s) i held → Says (Some t) i held) → StillSays m (insert m id t)
  changed_said says = everywhere StillSaid m (insert m id t) id (put_others m id t)
      (λ held said. subst (λ (w : Option Slot). Says w id held) (sym now) (says id held (subst (λ (w : Option Slot). Says w id held) here said))) (λ q w held said. said)

  pub changed_kinds : ((k : Kind) → IsOfKind k s.object → IsOfKind k t.object) → AreOfKind m → AreOfKind (insert m id t)
  changed_kinds keeps kinds q = everywhere StillKind m (insert m id t) id (put_others m id t)
      (λ were x e. kind_there id t (keeps id.kind (were s here)) x (sym now ∙ e)) (λ x w were. were) q (kinds q)
