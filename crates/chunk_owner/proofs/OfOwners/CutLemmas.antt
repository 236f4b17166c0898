-- Cuts of lanes in turn.
use Rattle.std.proofs.Common.{◌≡◌, ◌≢◌, ℕ, ◌+◌, ◌<◌, List, [], ◌∷◌, ◌++◌, length, take, drop, get_or, Option, Some, Result, Ok, Err, OnErr, refl, sym, ap, subst, ◌∙◌, append-nil, arith}
use Rattle.std.specs.FinMap.{get}
use Rattle.std.specs.List.{AllByRecursion}
use Rattle.std.proofs.lemmas.Grind.{drop_more_same}
use Rattle.std.proofs.lemmas.List.{drop-set-lt, get_or-drop, get_or-set_same, length-set, length-take-le, take_more, take_more_set}
use Rattle.object_ids.specs.IdValues.{Id}
use Rattle.object_ids.specs.Ids.{lane_of}
use Rattle.object_acts.specs.declared.objects.Object.{Object}
use Rattle.object_acts.specs.Objects.{unmarked, Objects}
use Rattle.flush_journal.specs.Records.{Held, Record, put_all}
use Rattle.flush_journal.specs.Cuts.Cuts.{AppendsEach, AreApart, IsCut, IsEither}
use Rattle.flush_journal.proofs.OfCuts.CutLemmas.{all_more, appends_as, appends_more, appends_none, in_turn}
use Rattle.chunk_owner.specs.Slots.Bodies.{IsObjectRecord, IsRecordOf, IsSlotRecord, IsUndropped}
use Rattle.chunk_owner.specs.declared.slots.slot.Mark.{Mark}
use Rattle.chunk_owner.specs.declared.slots.slot.Mark.TheVariants.{Kept, Changed, Dropped}
use Rattle.chunk_owner.specs.declared.slots.slot.Slot.{Slot}
use Rattle.chunk_owner.specs.Slots.Slots.{AreStill, IsMarked, object_by, object_of}
use Rattle.chunk_owner.proofs.OfSlots.LaneCuts.{all_marks}
use Rattle.chunk_owner.proofs.OfSlots.Standing.{get-objects_of}
use Rattle.chunk_owner.specs.Lanes.{IsWhole, Lane}
use Rattle.chunk_owner.specs.Owners.Cutting.{CutsFront, CutsLane, IsStillAt}
use Rattle.chunk_owner.specs.Owners.Joined.{AreLanes, IsLane, whole}
use Rattle.chunk_owner.specs.Owners.Records.{AreStillIn, AreUndropped, IsMarkedIn, IsStandingIn, LanesSay}
use Rattle.chunk_owner.proofs.OfOwners.LaneKeys.{IsKeyOf, apart_below, each_first, each_set, key_of_lane, lanes_first, marked_first, marked_push, said_cut}
use Rattle.chunk_owner.proofs.OfOwners.WholeLemmas.{at_home, lanes_same, this_lane, whole_same}
use Rattle.json_trees.proofs.ListLemmas.{all_at, all_append}

-- what is held after the cut tells the lanes as they are now
abbrev Later : List Lane → List Lane → Held → Held → Type 0
Later old now base held = LanesSay old base → LanesSay now held

-- an object that wasn't removed stands
stands_by : (mark : Mark) (o : Object) → mark ≢ Dropped → (x : Object) × (object_by mark o ≡ Some x)
stands_by Kept o there = (unmarked o, refl)
stands_by Changed o there = (unmarked o, refl)
stands_by Dropped o there = absurd (there refl)

-- the first `k` lanes were cut
pub record IsCutTo (n k : ℕ) (old now : List Lane) (first last : List Record) : Type 0 where
  pub cut : (base : Held) → IsCut (IsMarkedIn (take k old)) base first last (λ held. LanesSay old base → LanesSay now held)
  pub bodies : AppendsEach (IsObjectRecord (whole old)) first last
  pub standing : AppendsEach (IsStandingIn old) first last
  pub count : length now ≡ length old
  pub rest : drop k now ≡ drop k old
  pub lanes : AreLanes n 0 now
  pub objects : whole now ≡ whole old
  pub still : AreStillIn (take k now)
  pub wholes : AllByRecursion IsWhole now

pub cut_begin : (n : ℕ) (ls : List Lane) (records : List Record) → AreLanes n 0 ls → AllByRecursion IsWhole ls → IsCutTo n 0 ls ls records records
cut_begin n ls records lanes wholes = record {
  cut = λ base. record { added = []; appended = sym (append-nil records); changed = tt; once = tt; stands = λ said. said };
  bodies = appends_none (IsObjectRecord (whole ls)) records;
  standing = appends_none (IsStandingIn ls) records;
  count = refl;
  rest = refl;
  lanes = lanes;
  objects = refl;
  still = tt;
  wholes = wholes;
}

module _ (n k : ℕ) (old now after : List Lane) (first mid new : List Record) (lanes : AreLanes n 0 old) (were : AllByRecursion IsWhole old) (few_old : k < length old) (c : IsCutTo n k old now first mid)
    (d : CutsLane k now after mid new) where
  few : k < length now
  few = omega (arith, c.count)

  here_old : get_or old k d.was ≡ d.was
  here_old =
      ap (λ j. get_or old j d.was) (let e : k ≡ k + 0 = omega arith in e) ∙ sym (get_or-drop k old 0 d.was) ∙ ap (λ (ls : List Lane). get_or ls 0 d.was) (sym c.rest)
      ∙ get_or-drop k now 0 d.was ∙ ap (λ j. get_or now j d.was) (let e : k + 0 ≡ k = omega arith in e) ∙ d.here

  is_lane : IsLane n k d.was
  is_lane = this_lane n k now d.was d.left c.lanes few d.here

  was_whole : IsWhole d.was
  was_whole = subst IsWhole d.here (all_at IsWhole now k d.was few c.wholes)

  apart : AreApart (IsMarkedIn (take k old)) (IsMarked d.was.slots)
  apart = apart_below n k (take k old) d.was (lanes_first n 0 k old lanes) (each_first IsWhole k old were) (omega (arith, length-take-le k old (omega (arith, few_old)))) is_lane was_whole

  -- one more cut behind those before
  both_cut : (base : Held) → IsCut (IsEither (IsMarkedIn (take k old)) (IsMarked d.was.slots)) base first new (Later old after base)
  both_cut base = in_turn (IsMarkedIn (take k old)) (IsMarked d.was.slots) apart base first mid new (Later old now base) (Later old after base) (c.cut base)
      (λ held said. let e = d.cut held in record {
        added = e.added;
        appended = e.appended;
        changed = e.changed;
        once = e.once;
        stands = λ was. subst (λ (ls : List Lane). LanesSay ls (put_all e.added held)) (sym d.set) (said_cut n k e.added
            (all_more (λ r. IsMarked d.was.slots r.0) (λ r. IsKeyOf n k r.0) e.added (λ r m. key_of_lane n k d.was is_lane was_whole r.0 m) e.changed)
            held 0 k (omega arith) now d.was d.left c.lanes c.wholes few d.here d.same e.stands (said was));
      })

  taken : take (k + 1) old ≡ take k old ++ d.was ∷ []
  taken = take_more old k d.was few_old ∙ ap (λ l. take k old ++ l ∷ []) here_old

  marks_to : (key : List ℕ) → IsEither (IsMarkedIn (take k old)) (IsMarked d.was.slots) key → IsMarkedIn (take (k + 1) old) key
  marks_to key m = subst (λ (ls : List Lane). IsMarkedIn ls key) (sym taken) (marked_push (take k old) d.was key m)

  cut_to : (base : Held) → IsCut (IsMarkedIn (take (k + 1) old)) base first new (Later old after base)
  cut_to base = all_marks (IsEither (IsMarkedIn (take k old)) (IsMarked d.was.slots)) (IsMarkedIn (take (k + 1) old)) base first new (Later old after base) marks_to (both_cut base)

  -- what has a slot in the lane stands in the whole as there
  in_whole : (id : Id) (s : Slot) → get d.was.slots id ≡ Some s → get (whole old) id ≡ object_of (Some s)
  in_whole id s here =
      at_home n 0 k old d.was lanes id (ap (λ j. lane_of j id) (sym is_lane.lanes) ∙ was_whole.slots.home id s here ∙ is_lane.lane ∙ (let e : k ≡ 0 + k = omega arith in e)) few_old here_old
      ∙ ap (λ (m : Objects). get m id) was_whole.objects ∙ get-objects_of d.was.slots id ∙ ap object_of here

  front_bodies : AppendsEach (IsObjectRecord (whole old)) first new
  front_bodies = appends_more (IsObjectRecord (whole old)) first mid new c.bodies
      (appends_as (IsSlotRecord d.was.slots) (IsObjectRecord (whole old)) mid new
      (λ r h. record { id = h.id; range = h.range; of = subst (λ (o : Option Object). IsRecordOf h.id o r) (sym (in_whole h.id h.slot h.here)) h.of }) d.bodies)

  -- no slot of the lane was dropped
  was_undropped : AreUndropped old → IsUndropped d.was.slots
  was_undropped undropped = subst (λ (l : Lane). IsUndropped l.slots) here_old (all_at (λ l. IsUndropped l.slots) old k d.was few_old undropped)

  slot_stands : (r : Record) → IsSlotRecord d.was.slots r → IsStandingIn old r
  slot_stands r h undropped = let there = stands_by h.slot.mark h.slot.object (was_undropped undropped h.id h.slot h.here) in record {
    id = h.id;
    range = h.range;
    object = there.0;
    here = in_whole h.id h.slot h.here ∙ there.1;
    of = subst (λ (o : Option Object). IsRecordOf h.id o r) there.1 h.of;
  }

  front_standing : AppendsEach (IsStandingIn old) first new
  front_standing = appends_more (IsStandingIn old) first mid new c.standing (appends_as (IsSlotRecord d.was.slots) (IsStandingIn old) mid new slot_stands d.bodies)

  front_lanes : AreLanes n 0 after
  front_lanes = subst (λ (ls : List Lane). AreLanes n 0 ls) (sym d.set) (lanes_same n k now d.was d.left c.lanes few d.here d.same d.objects)

  front_objects : whole after ≡ whole old
  front_objects = ap whole d.set ∙ whole_same k now d.was d.left d.here d.objects ∙ c.objects

  still_here : IsStillAt k after → AreStill d.left.slots
  still_here still = still d.left (ap (λ (ls : List Lane). get_or ls k d.left) d.set ∙ get_or-set_same now k d.left d.left few)

  -- the next lane was cut
  pub cut_more : IsStillAt k after → IsCutTo n (k + 1) old after first new
  cut_more still = record {
    cut = cut_to;
    bodies = front_bodies;
    standing = front_standing;
    count = ap length d.set ∙ length-set now k d.left ∙ c.count;
    rest = ap (drop (k + 1)) d.set ∙ drop-set-lt (k + 1) now k d.left (omega arith) ∙ drop_more_same now old k c.rest;
    lanes = front_lanes;
    objects = front_objects;
    still = subst AreStillIn (sym (ap (take (k + 1)) d.set ∙ take_more_set now k d.left few)) (all_append (λ l. AreStill l.slots) (take k now) (d.left ∷ []) c.still (still_here still, tt));
    wholes = subst (λ (ls : List Lane). AllByRecursion IsWhole ls) (sym d.set) (each_set IsWhole k now d.left d.whole c.wholes);
  }

on_err : {A E : Type 0} (r : Result A E) (P : Type 0) → P → OnErr r P
on_err (Ok a) P p = tt
on_err (Err e) P p = p

-- the first `k` lanes were cut, and no others
module _ (n k : ℕ) (old now after : List Lane) (first mid last : List Record) (few : k < length old) (c : IsCutTo n k old now first mid) (same : after ≡ now) (back : last ≡ mid) where
  abbrev IsFirst : List Lane → List Record → Type 0
  IsFirst ls rs = IsCutTo n k old ls first rs

  at_last : IsFirst after last
  at_last = subst (λ (ls : List Lane). IsFirst ls last) (sym same) (subst (λ (rs : List Record). IsFirst now rs) (sym back) c)

  pub stopped_cut : (base : Held) → IsCut (IsMarkedIn old) base first last (Later old after base)
  stopped_cut base = all_marks (IsMarkedIn (take k old)) (IsMarkedIn old) base first last (Later old after base) (marked_first k old) (at_last.cut base)

  pub stopped_bodies : AppendsEach (IsObjectRecord (whole old)) first last
  stopped_bodies = at_last.bodies

  pub stopped_standing : AppendsEach (IsStandingIn old) first last
  stopped_standing = at_last.standing

  pub stopped_front : {A E : Type 0} (r : Result A E) → OnErr r (CutsFront old after first last)
  stopped_front r = on_err r (CutsFront old after first last) (record { many = k; few = few; cut = at_last.cut; still = at_last.still; rest = at_last.rest })

  pub stopped_objects : whole after ≡ whole old
  stopped_objects = at_last.objects

  pub stopped_lanes : AreLanes n 0 after
  stopped_lanes = at_last.lanes

-- all lanes were cut
module _ (n k : ℕ) (old now : List Lane) (first last : List Record) (c : IsCutTo n k old now first last) where
  pub all_cut : (base : Held) → IsCut (IsMarkedIn old) base first last (λ held. LanesSay old base → LanesSay now held)
  all_cut base = all_marks (IsMarkedIn (take k old)) (IsMarkedIn old) base first last (Later old now base) (marked_first k old) (c.cut base)
