-- A slot that is settled among others.
use Rattle.std.proofs.Common.{◌≡◌, ◌≢◌, true, false, cond, Option, Some, None, refl, sym, ap, subst, ◌∙◌}
use Rattle.std.specs.Cmp.{Equal-is}
use Rattle.std.specs.FinMap.{get, insert, remove, get-insert, get-remove}
use Rattle.std.specs.Ordering.{eq_by_cmp}
use Rattle.object_ids.specs.IdOrder.{id_order}
use Rattle.object_ids.specs.IdValues.{Id}
use Rattle.object_ids.proofs.IdOrders.{id_order_once, id_order_total, itself}
use Rattle.chunk_owner.specs.declared.slots.slot.Mark.{Mark}
use Rattle.chunk_owner.specs.declared.slots.slot.Mark.TheVariants.{Kept, Changed, Dropped}
use Rattle.chunk_owner.specs.declared.slots.slot.Slot.{Slot}
use Rattle.chunk_owner.specs.Slots.Slots.{Slots}
use Rattle.chunk_owner.specs.Slots.Settled.{Settles, SettlesBy, SlotSettles, is_dropped, is_dropped_slot}
use Rattle.containers.proofs.Passing.{by_bool, contrary}

apart : (q id : Id) → q ≢ id → eq_by_cmp id_order q id ≡ false
apart q id other = by_bool (eq_by_cmp id_order q id) (eq_by_cmp id_order q id ≡ false) (λ y. absurd (other (id_order_once q id ((Equal-is (id_order q id)).0 y)))) (λ n. n)

pub put_here : (m : Slots) (id : Id) (t : Slot) → get (insert m id t) id ≡ Some t
put_here m id t = get-insert id_order_total m id t id ∙ ap (λ b. cond b (Some t) (get m id)) (itself id)

pub put_others : (m : Slots) (id : Id) (t : Slot) (q : Id) → q ≢ id → get (insert m id t) q ≡ get m q
put_others m id t q other = get-insert id_order_total m id t q ∙ ap (λ b. cond b (Some t) (get m q)) (apart q id other)

pub gone_others : (m n : Slots) (id q : Id) → n ≡ remove m id → q ≢ id → get n q ≡ get m q
gone_others m n id q is other = ap (λ (x : Slots). get x q) is ∙ get-remove id_order_total m id q ∙ ap (λ b. cond b None (get m q)) (apart q id other)

gone_here : (m n : Slots) (id : Id) → n ≡ remove m id → get n id ≡ None
gone_here m n id is = ap (λ (x : Slots). get x id) is ∙ get-remove id_order_total m id id ∙ ap (λ b. cond b None (get m id)) (itself id)

kept_by : (mark : Mark) (s t : Slot) (new : Option Slot) → is_dropped mark ≡ false → new ≡ Some t → SlotSettles s t → SettlesBy mark s new
kept_by Kept s t new live e h = (t, e, h)
kept_by Changed s t new live e h = (t, e, h)
kept_by Dropped s t new live e h = contrary true (new ≡ None) refl live

pub kept_here : (m : Slots) (id : Id) (s t : Slot) → get m id ≡ Some s → is_dropped_slot (get m id) ≡ false → SlotSettles s t → Settles (get m id) (get (insert m id t) id)
kept_here m id s t here live h = subst (λ (o : Option Slot). Settles o (get (insert m id t) id)) (sym here)
    (kept_by s.mark s t (get (insert m id t) id) (sym (ap is_dropped_slot here) ∙ live) (put_here m id t) h)

dropped_by : (mark : Mark) (s : Slot) (new : Option Slot) → is_dropped mark ≡ true → new ≡ None → SettlesBy mark s new
dropped_by Kept s new gone e = contrary false ((t : Slot) × (new ≡ Some t) × SlotSettles s t) gone refl
dropped_by Changed s new gone e = contrary false ((t : Slot) × (new ≡ Some t) × SlotSettles s t) gone refl
dropped_by Dropped s new gone e = e

dropped_at : (o new : Option Slot) → is_dropped_slot o ≡ true → new ≡ None → Settles o new
dropped_at None new gone e = e
dropped_at (Some s) new gone e = dropped_by s.mark s new gone e

pub dropped_here : (m n : Slots) (id : Id) → is_dropped_slot (get m id) ≡ true → n ≡ remove m id → Settles (get m id) (get n id)
dropped_here m n id gone is = dropped_at (get m id) (get n id) gone (gone_here m n id is)
