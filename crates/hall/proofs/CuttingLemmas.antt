-- What a turn does in which a lane or the register is cut.
use Rattle.std.proofs.Common.{◌≡◌, inl, ℕ, suc, ◌+◌, ◌<◌, Bool, true, false, List, [], ◌∷◌, ◌++◌, Option, Some, None, Result, Ok, Err, length, slice_index}
use Rattle.std.proofs.Common.{refl, sym, ap, subst, ◌∙◌, arith}
use Rattle.std.specs.Result.{is_ok, OnErr, OnOk}
use Rattle.std.specs.declared.alloc.AllocError.{AllocError}
use Rattle.flush_journal.specs.Cuts.Cuts.{IsCut}
use Rattle.flush_journal.specs.Records.{Held, Record}
use Rattle.chunk_owner.specs.Installs.Records.{IsWholeObject}
use Rattle.chunk_owner.specs.Lanes.{AreWholeObjects, IsSameLane, IsWhole, Lane}
use Rattle.chunk_owner.specs.Slots.Slots.{AreStill, Describes, IsMarked, Says}
use Rattle.object_acts.specs.Objects.{Objects}
use Rattle.object_acts.specs.declared.objects.Object.{Object}
use Rattle.object_ids.specs.IdValues.{Id}
use Rattle.object_ids.specs.Ids.{InRange}
use Rattle.std.specs.FinMap.{get}
use Rattle.object_ops.specs.declared.replies.Reply.{Reply}
use Rattle.register.specs.Decided.{RegisterState, drawn as drawn_register}
use Rattle.register.specs.Installed.Registers.{DescribesRegister}
use Rattle.register.specs.Kept.{IsRegisterMarked, RegisterSays, all_kept}
use Rattle.register.specs.Marks.{no_marks}
use Rattle.register.specs.Tickets.{turns_from}
use Rattle.register.specs.declared.tickets.Turn.{Turn}
use Rattle.register.specs.declared.verdicts.Verdict.{Verdict}
use Rattle.lane_histories.specs.Cuts.{behind_cut, register_cut}
use Rattle.lane_histories.specs.Histories.{drawn, objects_after, places, register_after, register_at}
use Rattle.lane_histories.specs.declared.items.LaneItem.{LaneItem}
use Rattle.lane_histories.specs.declared.items.LaneItem.TheVariants.{WasCut}
use Rattle.lane_histories.specs.declared.items.RegisterItem.TheVariants.{DrawnCut, RegisterCut}
use Rattle.hall_rule.specs.Claims.{claim, count_of, holds}
use Rattle.hall_rule.specs.Queues.{slot_of}
use Rattle.hall_rule.specs.Rule.{HallHand, seeing}
use Rattle.hall_rule.specs.Seen.{SeenLists, at_lane, at_register, lane_of, was_of}
use Rattle.hall_rule.specs.Standing.{HallSlot, IsOwnerOf, IsRegisterOf, MarksLane, MarksRegister, StandsFor}
use Rattle.hall_rule.specs.Steps.{HasPassed, HasTaken, others_of}
use Rattle.hall_rule.specs.Sums.{total}
use Rattle.hall_rule.specs.TurnLaws.{LaneTurns, MachinesStand, RegisterTurnLaws}
use Rattle.hall_rule.specs.WholeTurns.{IsReadyToPass, MayCutLane, MayLook}
use Rattle.hall_rule.specs.declared.queue.Claim.{Claim}
use Rattle.hall_rule.specs.declared.queue.Queue.TheVariants.{OfDesk, OfLane, OfRegister}
use Rattle.hall_rule.specs.declared.slot.LaneNews.TheVariants.{Cuts as CutsLane}
use Rattle.hall_rule.specs.declared.slot.LaneSlot.{LaneSlot}
use Rattle.hall_rule.specs.declared.slot.RegisterNews.TheVariants.{Cuts, Draws}
use Rattle.hall_rule.specs.declared.slot.RegisterSlot.{RegisterSlot}
use Rattle.hall_rule.specs.declared.slot.Slot.TheVariants.{AtLane, AtRegister}
use Rattle.service_histories.specs.ArrayServices.{Asked, KeptPart, array_service, kept_part}
use Rattle.service_histories.specs.Calls.{CutsLeave}
use Rattle.service_histories.specs.Counts.{RegistersCount}
use Rattle.service_histories.specs.declared.tasks.Task.{Task}
use Rattle.service_histories.specs.Cuttings.{CutsOwner, CutsRegister, IsOwnerMarked, IsRegisterSince, KeptRegistersAreParts, no_item, then_item}
use Rattle.service_histories.specs.JournalParts.{IsKeptPart}
use Rattle.service_histories.specs.Markings.{IsOwner}
use Rattle.service_histories.specs.Tellings.{KeptRegistersAreSince, objects_in}
use Rattle.hall.specs.Answers.{ArrayStart, ArrayView}
use Rattle.hall.specs.ArrayMachines.{IsOpened, desk_machines, lanes_in}
use Rattle.hall.specs.Cutting.{AddsOwner, AddsRegister, AreCutTickets, HasCutCatalogue, HasCutOwner, HasDrawnTickets}
use Rattle.hall.specs.declared.desk.AtDesk.{Ghosts}
use Rattle.hall.specs.declared.desk.NotedDesk.{NotedDesk}
use Rattle.hall.proofs.PlainLemmas.{before_drawn, before_lane, before_register, desk_objects}
use Rattle.hall.proofs.RegisterLemmas.{counted_here, place_here, register_here, upward_below}

-- ---- the tickets of a drawn cut

tickets_from : (count : ℕ → ℕ) (lanes lane : ℕ) (ns : List ℕ) → length ns + lane ≡ lanes
    → ((l : ℕ) → l < length ns → slice_index ns l ≡ count (l + lane)) → AreCutTickets count lanes lane (turns_from lane ns)
tickets_from count lanes lane [] whole number = omega arith
tickets_from count lanes lane (n ∷ ns) whole number = (
  refl,
  number 0 (omega arith) ∙ ap count (let e : 0 + lane ≡ lane = omega arith in e),
  omega arith,
  tickets_from count lanes (lane + 1) ns (omega arith)
      (λ l below. number (suc l) (omega arith) ∙ ap count (let e : suc l + lane ≡ l + (lane + 1) = omega arith in e)),
)

-- ---- the register

module _ {D K : Type 0} (met : Ghosts D K) (start : ArrayStart K) (opened : IsOpened start) (stand : MachinesStand (desk_machines met (lanes_in start)))
    (n : ℕ) (others : List Claim) (me after : HallHand (array_service (lanes_in start)) RegisterState Lane (NotedDesk D) K)
    (t : HasTaken (desk_machines met (lanes_in start)) start (claim OfRegister n false) others me after)
    (slot : RegisterSlot RegisterState Asked Verdict) (here : t.slot ≡ AtRegister slot)
    (counts : RegistersCount (lanes_in start)) (leave : CutsLeave (lanes_in start)) (v : ArrayView K)
    (back : HallHand (array_service (lanes_in start)) RegisterState Lane (NotedDesk D) K) where
  -- a cut may be drawn
  pub drawing_here : (new : RegisterState) → RegisterTurnLaws (desk_machines met (lanes_in start)) start v t.seen back slot
      (record { register = new; news = Some Draws })
      → 0 < total (holds OfDesk) v.claims → new ≡ drawn_register slot.register
      → ((c : KeptPart) → IsRegisterSince c slot.register → IsRegisterSince c new)
      → IsReadyToPass (desk_machines met (lanes_in start)) start (at_register (DrawnCut (drawn t.seen.register) (places t.seen.register))) back
  unfolding desk_machines
  drawing_here new laws held is says =
      laws.may_draw_cut refl held (upward_below 0 (lanes_in start) (lanes_in start) (omega arith)) (is ∙ sym (leave slot.register).drawn) says

  -- and behind it it has been
  pub drawn_here : (new : RegisterState) → RegisterTurnLaws (desk_machines met (lanes_in start)) start v t.seen back slot
      (record { register = new; news = Some Draws }) → (place : ℕ) → place ≡ slot.register.places → (w : ArrayView K)
      → HasPassed (desk_machines met (lanes_in start)) start (at_register (DrawnCut (drawn t.seen.register) (places t.seen.register))) back.0 w
      → (tickets : List Turn) → tickets ≡ turns_from 0 slot.register.issued → HasDrawnTickets start place tickets v w
  drawn_here new laws place at w passed tickets are =
      let d = laws.drew_cut place w passed (at ∙ place_here met start opened stand n others me after t slot here counts) in
      let k = before_drawn met (lanes_in start) start place v w d.0 t.seen d.1 in
      let counted = counted_here met start opened stand n others me after t slot here counts in
      let all : length slot.register.issued + 0 ≡ lanes_in start = let e = counted.lanes_are in omega arith in record {
        cut = k.0;
        tickets_are = subst (λ (h : SeenLists (array_service (lanes_in start)) Lane).
            AreCutTickets (count_of (array_service (lanes_in start)) h.register) (lanes_in start) 0 tickets) (sym k.1)
            (subst (AreCutTickets (count_of (array_service (lanes_in start)) t.seen.register) (lanes_in start) 0) (sym are)
            (tickets_from (count_of (array_service (lanes_in start)) t.seen.register) (lanes_in start) 0 slot.register.issued all
            (λ l below.
            let few : l < lanes_in start = let e = counted.lanes_are in omega arith in
            let now = counted.tickets l few in
            let first = opened.register.tickets l in
            let same : l + 0 ≡ l = omega arith in
            let number : slice_index slot.register.issued l ≡ count_of (array_service (lanes_in start)) t.seen.register l = omega (arith, now, first) in
            number ∙ ap (count_of (array_service (lanes_in start)) t.seen.register) (sym same))));
      }

  -- ---- the register's cut

  since_here : IsRegisterSince (kept_part (register_at (array_service (lanes_in start)) (register_cut t.seen.register) start.register t.seen.register))
      slot.register
  unfolding desk_machines
  since_here =
      let is : IsRegisterOf (desk_machines met (lanes_in start)) start t.seen.register slot.register =
      subst (λ (x : HallSlot (array_service (lanes_in start)) RegisterState Lane (NotedDesk D)).
      StandsFor (desk_machines met (lanes_in start)) OfRegister x start t.seen) here t.stands in is.since

  module _ (found : Result (Unit {0}) AllocError) (new : RegisterState) (still : OnOk found (new ≡ all_kept slot.register))
      (err : OnErr found (new ≡ slot.register)) (since : KeptRegistersAreSince) where
    recorded : (r : Result (Unit {0}) AllocError) → OnOk r (new ≡ all_kept slot.register) → OnErr r (new ≡ slot.register)
        → new ≡ (array_service (lanes_in start)).recorded (is_ok r) slot.register
    recorded (Ok x) is none = is ∙ sym (leave slot.register).whole
    recorded (Err e) none is = is ∙ sym (leave slot.register).short

    marks : (r : Result (Unit {0}) AllocError) → OnOk r (new ≡ all_kept slot.register) → OnErr r (new ≡ slot.register)
        → MarksRegister (desk_machines met (lanes_in start)) (RegisterCut (places t.seen.register) (is_ok r)) slot.register new
    unfolding desk_machines
    marks (Ok x) is none = subst (λ (d : RegisterState). IsRegisterSince (kept_part slot.register) d) (sym is) (since (all_kept slot.register) refl)
    marks (Err e) none is = λ c was. subst (λ (d : RegisterState). IsRegisterSince c d) (sym is) was

    -- it may be passed on with its records, or without memory
    pub cutting_here : (noted : Bool) → RegisterTurnLaws (desk_machines met (lanes_in start)) start v t.seen back slot
        (record { register = new; news = Some (Cuts noted) })
        → noted ≡ is_ok found → 0 < total (holds OfDesk) v.claims
        → IsReadyToPass (desk_machines met (lanes_in start)) start (at_register (RegisterCut (places t.seen.register) (is_ok found))) back
    unfolding desk_machines
    cutting_here noted laws is held =
        laws.may_cut (is_ok found) (ap (λ (b : Bool). Some (Cuts b)) is) held (recorded found still err) (marks found still err)

  -- and behind it it has been cut
  pub catalogue_cut_here : (found noted : Bool) (new : RegisterState) (first last : List Record)
      → RegisterTurnLaws (desk_machines met (lanes_in start)) start v t.seen back slot (record { register = new; news = Some (Cuts noted) })
      → (place : ℕ) → place ≡ slot.register.places → (w : ArrayView K)
      → HasPassed (desk_machines met (lanes_in start)) start (at_register (RegisterCut (places t.seen.register) found)) back.0 w
      → AddsRegister found slot.register new first last → HasCutCatalogue start place found first last v w
  unfolding desk_machines
  catalogue_cut_here found noted new first last laws place at w passed adds =
      let d = laws.cut place found w passed (at ∙ place_here met start opened stand n others me after t slot here counts) in
      let k = before_register met (lanes_in start) start place found v w d.0 t.seen d.1 in record {
        old = slot.register;
        new = new;
        turn = k.0;
        now = subst (λ (h : SeenLists (array_service (lanes_in start)) Lane).
            slot.register ≡ register_after (array_service (lanes_in start)) start.register h.register) (sym k.1)
            (register_here met start opened stand n others me after t slot here);
        since = subst (λ (h : SeenLists (array_service (lanes_in start)) Lane). IsRegisterSince (kept_part (register_at (array_service (lanes_in start))
            (register_cut h.register) start.register h.register)) slot.register) (sym k.1) since_here;
        adds = adds;
      }

-- what a cut of the register adds
pub adds_register : (old new : RegisterState) (found : Result (Unit {0}) AllocError) (first last : List Record)
    → (OnOk found ((base : Held) → CutsRegister old new base first last)) → OnErr found (new ≡ old) → OnErr found (last ≡ first)
    → AddsRegister (is_ok found) old new first last
adds_register old new (Ok x) first last cuts same none = cuts
adds_register old new (Err e) first last cuts same none = (same, none)

-- nothing is marked behind it, so what is said of it describes it
pub register_cuts : (old new : RegisterState) (found : Result (Unit {0}) AllocError) (first last : List Record)
    → ((base : Held) → IsCut (IsRegisterMarked old) base first last (λ held. RegisterSays old base → RegisterSays new held))
    → OnOk found (new ≡ all_kept old)
    → (new.marks ≡ no_marks → (held : Held) → RegisterSays new held → DescribesRegister held new.run new.catalogue)
    → KeptRegistersAreParts → OnOk found ((base : Held) → CutsRegister old new base first last)
register_cuts old new (Err e) first last cut still described parts = tt
register_cuts old new (Ok x) first last cut still described parts =
    let marks : new.marks ≡ no_marks = ap (λ (d : RegisterState). d.marks) still in
    let sound : IsKeptPart (kept_part old) = subst (λ (d : RegisterState). IsKeptPart (kept_part d)) still (parts new marks (described marks)) in
    λ base. record { cut = cut base; sound = sound; still = still }

-- ---- a lane

whole_part : (m : Objects) (each : AreWholeObjects m) (id : Id) (o : Option Object) → get m id ≡ o → IsWholeObject o
whole_part m each id None is = tt
whole_part m each id (Some o) is = (each id o is).1

-- what is true of every owner
pub owner_of : (l : Lane) → IsWhole l → AreWholeObjects l.objects
    → (AreStill l.slots → (id : Id) (held : Held) → Says (get l.slots id) id held → Describes held id (get l.objects id)) → IsOwner l
owner_of l whole each described =
    record { whole = whole; parts = λ id. whole_part l.objects each id (get l.objects id) refl; described = described }

module _ {D K : Type 0} (met : Ghosts D K) {start : ArrayStart K} {lane n : ℕ}
    {first taken : HallHand (array_service (lanes_in start)) RegisterState Lane (NotedDesk D) K} where
  -- the ticket's turn was waited for
  pub took_cut : {cut place : ℕ} → LaneTurns (desk_machines met (lanes_in start)) → MayCutLane (array_service (lanes_in start)) start lane n cut place first.0
      → ((others : List Claim) → MayLook start (OfLane lane) n others first.0
      → HasTaken (desk_machines met (lanes_in start)) start (claim (OfLane lane) n false) others first taken)
      → HasTaken (desk_machines met (lanes_in start)) start (claim (OfLane lane) n false) (others_of first.0.claims) first taken
  took_cut {cut = cut} {place = place} laws may wait = wait (others_of first.0.claims) (laws.may_look_cut start lane n cut place first.0 may)

module _ {D K : Type 0} (met : Ghosts D K) {start : ArrayStart K} {lane n : ℕ}
    {first taken : HallHand (array_service (lanes_in start)) RegisterState Lane (NotedDesk D) K}
    (t : HasTaken (desk_machines met (lanes_in start)) start (claim (OfLane lane) n false) (others_of first.0.claims) first taken)
    {d : LaneSlot Lane Reply} (here : t.slot ≡ AtLane d) where
  owner_here : IsOwnerOf (desk_machines met (lanes_in start)) start t.seen lane d.owner
  owner_here = subst (λ (x : HallSlot (array_service (lanes_in start)) RegisterState Lane (NotedDesk D)).
      StandsFor (desk_machines met (lanes_in start)) (OfLane lane) x start t.seen) here t.stands

  -- where memory was found nothing of it is marked
  owner_marks : (new : Lane) (cut place : ℕ) (found : Result (Unit {0}) AllocError) → IsSameLane d.owner new → OnErr found (new ≡ d.owner)
      → OnOk found (AreStill new.slots) → MarksLane (desk_machines met (lanes_in start)) lane (WasCut cut place (is_ok found)) d.owner new
  unfolding desk_machines
  owner_marks new cut place (Ok x) same none still = let was = owner_here.since.owner in record {
    owner = record {
      lane_is = same.lane ∙ was.lane_is;
      lanes_are = same.lanes ∙ was.lanes_are;
      same = record { lane = refl; lanes = refl };
      still = still;
      since = λ held said. said;
    };
    alone = no_item;
  }
  owner_marks new cut place (Err e) same is none = λ items was since.
      let i : LaneItem Task Reply = WasCut cut place false in
      subst (λ (o : Lane). IsOwnerMarked (lanes_in start) lane (items ++ i ∷ []) was o) (sym is)
      (record { owner = since.owner; alone = then_item items i d.owner d.owner since.alone refl (λ key marked. inl marked) })

  module _ {back : HallHand (array_service (lanes_in start)) RegisterState Lane (NotedDesk D) K} {new : LaneSlot Lane Reply}
      (laws : LaneTurns (desk_machines met (lanes_in start)))
      (mine : back ≡ (
        seeing first.0 (claim (OfLane lane) n true ∷ others_of first.0.claims) t.seen,
        (slot_of (OfLane lane), AtLane new) ∷ first.1,
      ))
      {cut place : ℕ} (may : MayCutLane (array_service (lanes_in start)) start lane n cut place first.0) where
    pub may_pass_cut : (found : Result (Unit {0}) AllocError) (noted : Bool) → new.news ≡ Some (CutsLane noted) → noted ≡ is_ok found
        → new.owner.objects ≡ d.owner.objects
        → IsSameLane d.owner new.owner → OnErr found (new.owner ≡ d.owner) → OnOk found (AreStill new.owner.slots)
        → IsReadyToPass (desk_machines met (lanes_in start)) start (at_lane lane (WasCut cut place (is_ok found)) new.owner) back
    unfolding desk_machines
    may_pass_cut found noted news is objects same err still =
        (laws.turn start lane n first taken back d new t here mine).may_cut cut place (is_ok found) may (news ∙ ap (λ (b : Bool). Some (CutsLane b)) is)
        objects (owner_marks new.owner cut place found same err still)

    pub owner_is_cut : {w : ArrayView K} (found : Bool) (before after : List Record)
        → HasPassed (desk_machines met (lanes_in start)) start (at_lane lane (WasCut cut place found) new.owner) back.0 w
        → AddsOwner found d.owner new.owner before after → HasCutOwner start lane cut place found before after first.0 w
    unfolding desk_machines
    owner_is_cut {w = w} found before after passed adds =
        let k = (laws.turn start lane n first taken back d new t here mine).cut cut place found w may passed in
        let p = before_lane met (lanes_in start) start lane cut place found new.owner first.0 w k.0 t.seen k.1 in record {
          old = d.owner;
          new = new.owner;
          turn = p.0;
          now = owner_here.now ∙ ap (λ (m : Objects). objects_after (array_service (lanes_in start)) m (lane_of t.seen.lanes lane))
              (desk_objects met (lanes_in start) start.owners lane)
              ∙ ap (λ (h : SeenLists (array_service (lanes_in start)) Lane).
              objects_after (array_service (lanes_in start)) (objects_in start.owners lane) (lane_of h.lanes lane)) (sym p.1);
          was = owner_here.was;
          was_is = ap (λ (h : SeenLists (array_service (lanes_in start)) Lane). was_of h lane) p.1 ∙ owner_here.was_is;
          since = subst (λ (h : SeenLists (array_service (lanes_in start)) Lane). IsOwnerMarked (lanes_in start) lane (behind_cut (lane_of h.lanes lane))
              owner_here.was d.owner) (sym p.1) owner_here.since;
          adds = adds;
        }

-- what a cut of an owner adds
pub adds_owner : (old new : Lane) (found : Result (Unit {0}) AllocError) (first last : List Record)
    → (OnOk found ((base : Held) → CutsOwner old new base first last)) → OnErr found (new ≡ old) → OnErr found (last ≡ first)
    → AddsOwner (is_ok found) old new first last
adds_owner old new (Ok x) first last cuts same none = cuts
adds_owner old new (Err e) first last cuts same none = (same, none)

pub owner_cuts : (old new : Lane) (found : Result (Unit {0}) AllocError) (first last : List Record)
    → ((base : Held) → IsCut (IsMarked old.slots) base first last
    (λ held. (id : Id) → InRange id → Says (get old.slots id) id base → Says (get new.slots id) id held))
    → OnOk found (AreStill new.slots) → new.objects ≡ old.objects → IsSameLane old new → IsOwner old → IsOwner new
    → OnOk found ((base : Held) → CutsOwner old new base first last)
owner_cuts old new (Err e) first last cut still objects same owner after = tt
owner_cuts old new (Ok x) first last cut still objects same owner after = λ base. record {
  cut = cut base;
  owner = owner;
  still = record { owner = after; still = still };
  objects = objects;
  same = same;
}
