-- Where the slots of a lane stand, and the objects in them.
use Rattle.std.proofs.Common.{◌≡◌, ◌≢◌, ◌⊎◌, inl, inr, ⊎_elim, ℕ, ◌<◌, ◌==◌, true, false, cond, Option, Some, None, is_some, OnOk, OnErr, Result, Ok, Err, option_map, refl, sym, ap, subst, ◌∙◌}
use Rattle.std.specs.FinMap.{empty, get, insert, get-empty, same_map}
use Rattle.std.proofs.lemmas.Option.{none-some}
use Rattle.object_ids.specs.IdOrder.{id_order}
use Rattle.object_ids.specs.IdValues.{Id}
use Rattle.object_ids.specs.Ids.{InRange, lane_of}
use Rattle.object_ids.proofs.IdOrders.{id_order_once, id_order_total}
use Rattle.object_acts.specs.declared.objects.Object.{Object}
use Rattle.object_acts.specs.Objects.{unmarked, IsOfKind, Objects}
use Rattle.chunk_owner.specs.declared.slots.changes.Changes.{Changes}
use Rattle.chunk_owner.specs.declared.slots.slot.Mark.{Mark}
use Rattle.chunk_owner.specs.declared.slots.slot.Mark.TheVariants.{Kept, Changed, Dropped}
use Rattle.chunk_owner.specs.declared.slots.slot.Slot.{Slot}
use Rattle.chunk_owner.specs.Slots.Listed.{AreListed, IsNoted, KeepsListed, Notes, NotesTouched}
use Rattle.chunk_owner.specs.Slots.Settled.{Settles}
use Rattle.chunk_owner.specs.Slots.Slots.{HasSameIds, IsSpelledSlot, IsStillSlot, Slots, object_by, object_of, objects_of}
use Rattle.chunk_owner.specs.Slots.Slots.{AreOfKind as AreSlotsOfKind}
use Rattle.chunk_owner.proofs.OfSlots.Forgotten.{same_domain}
use Rattle.chunk_owner.proofs.OfSlots.Listing.{listed_at, noted_more}
use Rattle.chunk_owner.proofs.OfSlots.Placed.{everywhere}
use Rattle.chunk_owner.proofs.OfSlots.Spelled.{settles_spelled}
use Rattle.chunk_owner.proofs.OfSlots.Standing.{get-objects_of, objects-insert}
use Rattle.chunk_owner.specs.Lanes.{AreOfKind, AreShown, AreSlotsOf, Each, Forgets, IsWhole, LeavesOthers, LeavesUntouched, StandsIn, lane_with, shown}
use Rattle.chunk_owner.specs.Acts.{IsTouchedIn}
use Rattle.chunk_owner.proofs.Eaches.{get-shown, option-unmarked, unmarked_kind}

-- ---- slots stay at home

-- what holds of each id that has a slot
abbrev EachAt : (Id → Type 0) → Slots → Type 0
EachAt P m = (q : Id) (s : Slot) → get m q ≡ Some s → P q

each_others : (P : Id → Type 0) (m n : Slots) (id : Id) → LeavesOthers id m n → P id → EachAt P m → EachAt P n
each_others P m n id others is were q =
    everywhere (λ q o p. ((s : Slot) → o ≡ Some s → P q) → (s : Slot) → p ≡ Some s → P q) m n id others (λ before s e. is) (λ q o before. before) q (were q)

each_still : (P : Id → Type 0) (m n : Slots) → HasSameIds m n → EachAt P m → EachAt P n
each_still P m n same were q s there = at (get m q) refl where
  at : (o : Option Slot) → get m q ≡ o → P q
  at None e = absurd (none-some s (sym (same q e) ∙ there))
  at (Some t) e = were q t e

spelled_others : (m n : Slots) (id : Id) → LeavesOthers id m n → IsSpelledSlot (get n id) → ((q : Id) → IsSpelledSlot (get m q)) → (q : Id) → IsSpelledSlot (get n q)
spelled_others m n id others is were q = everywhere (λ q o p. IsSpelledSlot o → IsSpelledSlot p) m n id others (λ before. is) (λ q o before. before) q (were q)

-- no id more has a slot after a cut
cut_ids : (m n : Slots) → ((q : Id) → (get n q ≡ get m q) ⊎ Settles (get m q) (get n q)) → HasSameIds m n
cut_ids m n each q none = ⊎_elim (λ same. same ∙ none) (λ settles. subst (λ (o : Option Slot). Settles o (get n q)) none settles) (each q)

pub left_at : (t : Option Id) (id : Id) (m n : Slots) → t ≡ Some id → LeavesOthers id m n → LeavesUntouched t m n
left_at t id m n same others = subst (λ (o : Option Id). LeavesUntouched o m n) (sym same) others

-- the slots of an owner, and what the next cut looks at
module _ (lane lanes : ℕ) (m n : Slots) (old new : Changes) where
  -- after a step at an id of the lane
  pub owned_at : (id : Id) → lane_of lanes id ≡ lane → LeavesOthers id m n → Notes id n old new → AreSlotsOfKind n → AreSlotsOf lane lanes m × AreListed old m
      → AreSlotsOf lane lanes n × AreListed new n
  owned_at id is others notes kinds were = (
    record {
      below = were.0.below;
      home = each_others (λ q. lane_of lanes q ≡ lane) m n id others is were.0.home;
      range = each_others InRange m n id others notes.range were.0.range;
      kinds = kinds;
      spelled = spelled_others m n id others notes.here.spelled were.0.spelled;
    },
    listed_at old new m n id others notes were.1,
  )

  pub owned_after : (t : Option Id) → IsTouchedIn lane lanes t → LeavesUntouched t m n → NotesTouched t n old new → AreSlotsOfKind n → AreSlotsOf lane lanes m × AreListed old m
      → AreSlotsOf lane lanes n × AreListed new n
  owned_after None touched stay notes kinds were = absurd touched
  owned_after (Some id) touched stay notes kinds were = owned_at id touched stay notes kinds were

  -- after a domain's objects are removed
  pub owned_without : (number : ℕ) → HasSameIds m n → ((q : Id) → q.domain ≢ number → get n q ≡ get m q) → ((q : Id) → q.domain ≡ number → IsNoted new q (get n q)) → KeepsListed old new
      → AreSlotsOfKind n → AreSlotsOf lane lanes m × AreListed old m → AreSlotsOf lane lanes n × AreListed new n
  owned_without number same others noted more kinds were = (
    record {
      below = were.0.below;
      home = each_still (λ q. lane_of lanes q ≡ lane) m n same were.0.home;
      range = each_still InRange m n same were.0.range;
      kinds = kinds;
      spelled = λ q. (fine q).spelled;
    },
    λ q isnt. (fine q).still isnt,
  ) where
    fine : (q : Id) → IsNoted new q (get n q)
    fine q = at (same_domain q.domain number) where
      at : (q.domain ≡ number) ⊎ (q.domain ≢ number) → IsNoted new q (get n q)
      at (inl is) = noted q is
      at (inr other) = subst (λ (o : Option Slot). IsNoted new q o) (sym (others q other)) (noted_more old new more q (get m q) (record { still = were.1 q; spelled = were.0.spelled q }))

  -- after a cut
  pub owned_cut : ((q : Id) → (get n q ≡ get m q) ⊎ Settles (get m q) (get n q)) → AreSlotsOfKind n → AreListed new n → AreSlotsOf lane lanes m → AreSlotsOf lane lanes n × AreListed new n
  owned_cut each kinds listed were = (
    record {
      below = were.below;
      home = each_still (λ q. lane_of lanes q ≡ lane) m n (cut_ids m n each) were.home;
      range = each_still InRange m n (cut_ids m n each) were.range;
      kinds = kinds;
      spelled = λ q. ⊎_elim (λ same. subst IsSpelledSlot (sym same) (were.spelled q)) (λ settles. settles_spelled (get m q) (get n q) settles (were.spelled q)) (each q);
    },
    listed,
  )

pub owned_none : (lane lanes : ℕ) (m : Slots) (c : Changes) → m ≡ empty → lane < lanes → AreSlotsOf lane lanes m × AreListed c m
owned_none lane lanes m c none small = subst (λ (w : Slots). AreSlotsOf lane lanes w × AreListed c w) (sym none) (
  record {
    below = small;
    home = λ q s e. absurd (none-some s (sym (get-empty id_order q) ∙ e));
    range = λ q s e. absurd (none-some s (sym (get-empty id_order q) ∙ e));
    kinds = λ q s e. absurd (none-some s (sym (get-empty id_order q) ∙ e));
    spelled = λ q. subst IsSpelledSlot (sym (get-empty id_order q)) tt;
  },
  λ q isnt. subst IsStillSlot (sym (get-empty id_order q)) tt,
)

-- ---- the objects in them

-- an object that stands is that of a slot
stands_by : (m : Mark) (x o : Object) → object_by m x ≡ Some o → unmarked x ≡ o
stands_by Kept x o e = cc
stands_by Changed x o e = cc
stands_by Dropped x o e = absurd (let both : None ≡ Some o = e in cc)

module _ (m : Slots) (id : Id) (o : Object) (there : get (objects_of m) id ≡ Some o) where
  pub slot_of : (s : Slot) × (get m id ≡ Some s) × (unmarked s.object ≡ o)
  slot_of = at (get m id) refl (sym (get-objects_of m id) ∙ there) where
    at : (w : Option Slot) → get m id ≡ w → object_of w ≡ Some o → (s : Slot) × (get m id ≡ Some s) × (unmarked s.object ≡ o)
    at None e is = absurd (let both : None ≡ Some o = is in cc)
    at (Some s) e is = (s, e, stands_by s.mark s.object o is)

pub stand : (lane lanes : ℕ) (m : Slots) → AreSlotsOf lane lanes m → Each (StandsIn lane lanes) (objects_of m)
stand lane lanes m were q o e =
    let s = slot_of m q o e in
    record { own = were.home q s.0 s.1; kind = subst (λ (x : Object). IsOfKind q.kind x) s.2 (unmarked_kind q.kind s.0.object (were.kinds q s.0 s.1)) }

pub whole_lane : (lane lanes : ℕ) (m : Slots) → AreSlotsOf lane lanes m → IsWhole (lane_with lane lanes m)
whole_lane lane lanes m were = record { lane = were.below; own = stand lane lanes m were; objects = refl; slots = were }

pub kinds_of : (lane lanes : ℕ) (m : Objects) → Each (StandsIn lane lanes) m → AreOfKind m
kinds_of lane lanes m own = λ q o e. (own q o e).kind

no_object : (w : Option Object) → is_some w ≡ false → w ≡ None
no_object None e = refl
no_object (Some o) e = absurd (let both : true ≡ false = e in cc)

pub none_standing : (m : Slots) (id : Id) → is_some (object_of (get m id)) ≡ false → get (objects_of m) id ≡ None
none_standing m id e = get-objects_of m id ∙ no_object (object_of (get m id)) e

-- ---- as requests see them

shown_by : (m : Mark) (x : Object) → option_map unmarked (object_by m x) ≡ object_by m x
shown_by Kept x = option-unmarked (Some x)
shown_by Changed x = option-unmarked (Some x)
shown_by Dropped x = refl

shown_of : (w : Option Slot) → option_map unmarked (object_of w) ≡ object_of w
shown_of None = refl
shown_of (Some s) = shown_by s.mark s.object

pub slots_shown : (m : Slots) → AreShown (objects_of m)
slots_shown m = same_map id_order_total id_order_once (shown (objects_of m)) (objects_of m) (λ q.
    get-shown (objects_of m) q ∙ ap (option_map unmarked) (get-objects_of m q) ∙ shown_of (get m q) ∙ sym (get-objects_of m q))

pub forgets_objects : (number : ℕ) (m n : Slots) → ((q : Id) → object_of (get n q) ≡ cond (q.domain == number) None (object_of (get m q))) → Forgets number (objects_of m) (objects_of n)
forgets_objects number m n rest q = get-objects_of n q ∙ rest q ∙ ap (λ o. cond (q.domain == number) None o) (sym (get-objects_of m q))

-- ---- an object is put

pub objects_put : {A E : Type 0} (r : Result A E) (m n : Slots) (id : Id) (o : Object) → OnOk r (object_of (get n id) ≡ Some (unmarked o)) → ((q : Id) → q ≢ id → get n q ≡ get m q)
    → OnOk r (objects_of n ≡ insert (objects_of m) id (unmarked o))
objects_put (Ok a) m n id o there others = objects-insert m n id (unmarked o) there others
objects_put (Err e) m n id o there others = tt

pub lane_stays : {A E : Type 0} (r : Result A E) (lane lanes : ℕ) (m n : Slots) → OnErr r (n ≡ m) → OnErr r (lane_with lane lanes n ≡ lane_with lane lanes m)
lane_stays (Ok a) lane lanes m n same = tt
lane_stays (Err e) lane lanes m n same = ap (lane_with lane lanes) same
