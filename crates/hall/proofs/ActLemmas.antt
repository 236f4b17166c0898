-- A lane's turn: its owner is ready for it, and what the owner does is what the turn's item says.
use Rattle.std.proofs.Common.{◌≡◌, ℕ, Bool, true, false, true≢false, List, [], ◌∷◌, ◌++◌, Option, Some, None, sym, ap, ◌∙◌, subst}
use Rattle.std.specs.declared.snapshot.Snapshot.{Snapshot}
use Rattle.object_acts.specs.Objects.{Objects}
use Rattle.object_ops.specs.declared.grants.Grant.{Grant}
use Rattle.object_ops.specs.declared.grants.Step.{Step}
use Rattle.object_ops.specs.declared.ops.Op.{Op}
use Rattle.object_ops.specs.declared.replies.Reply.{Reply}
use Rattle.chunk_owner.specs.Acts.{IsTouchedIn, touched}
use Rattle.chunk_owner.specs.Lanes.{IsSameLane, Lane}
use Rattle.chunk_owner.specs.Slots.Slots.{StillSays}
use Rattle.register.specs.Decided.{RegisterState}
use Rattle.lane_histories.specs.Histories.{History, LaneList, objects_left, part_of}
use Rattle.lane_histories.specs.Legal.{IsLegalOutcome, IsNext, is_skipped}
use Rattle.lane_histories.specs.Services.{Service}
use Rattle.lane_histories.specs.Since.{TurnsStaySince}
use Rattle.lane_histories.specs.declared.items.LaneItem.TheVariants.{Passed}
use Rattle.lane_histories.specs.declared.items.Outcome.{Outcome}
use Rattle.lane_histories.specs.declared.items.Outcome.TheVariants.{Done, Short, Skipped}
use Rattle.lane_histories.specs.declared.items.Part.{Part}
use Rattle.lane_histories.specs.declared.items.Part.TheVariants.{First, Only, Second}
use Rattle.hall_rule.specs.declared.queue.Claim.{Claim}
use Rattle.hall_rule.specs.declared.queue.Queue.TheVariants.{OfLane}
use Rattle.hall_rule.specs.declared.slot.LaneNews.TheVariants.{Acts}
use Rattle.hall_rule.specs.declared.slot.LaneSlot.{LaneSlot}
use Rattle.hall_rule.specs.declared.slot.Slot.TheVariants.{AtLane}
use Rattle.hall_rule.specs.Claims.{claim}
use Rattle.hall_rule.specs.Machines.{Machines, world_of}
use Rattle.hall_rule.specs.Queues.{slot_of}
use Rattle.hall_rule.specs.Rule.{HallHand, seeing}
use Rattle.hall_rule.specs.Seen.{at_lane, history_of}
use Rattle.hall_rule.specs.Standing.{HallSlot, IsOwnerOf, StandsFor}
use Rattle.hall_rule.specs.StepLaws.{HandLaws, HandsHold}
use Rattle.hall_rule.specs.Steps.{HasPassed, HasTaken, others_of, plain_outcome}
use Rattle.hall_rule.specs.TurnLaws.{LaneTurns}
use Rattle.hall_rule.specs.WholeTurns.{HasActed, IsReadyToPass, IsToSkip, MayAct, MayLook}
use Rattle.service_histories.specs.ArrayServices.{array_service, task_of}
use Rattle.service_histories.specs.Calls.{TurnsAreAtHome}
use Rattle.service_histories.specs.Cuttings.{MarksOnly, OwnersMark, then_item}
use Rattle.service_histories.specs.Markings.{array_marking}
use Rattle.service_histories.specs.Readies.{IsGivenIn, Needs, TurnsFindWhatTheyNeed}
use Rattle.service_histories.specs.declared.tasks.Task.{Task}
use Rattle.hall.specs.declared.desk.NotedDesk.{NotedDesk}
use Rattle.hall.specs.Answers.{ArrayStart, ArrayView}
use Rattle.hall.specs.ArrayMachines.{IsOpened, desk_machines, lanes_in, machines}
use Rattle.hall.specs.declared.desk.AtDesk.{Ghosts}
use Rattle.hall.proofs.PlainLemmas.{acted_so, desk_objects}
use Rattle.hall.specs.Turns.{IsReadyFor, Performs}

-- ---- what an owner did

module _ (n : ℕ) where
  legal_by : (h : History (array_service n)) (place : ℕ) (part : Part) (task : Task) (skip : Bool) (old new : Objects) (y : Outcome Reply)
      → IsToSkip (array_service n) h place part skip → Performs task old y new → is_skipped y ≡ skip
      → IsLegalOutcome (array_service n) old part task y
  legal_by h place part task skip old new (Done reply) told did same = ap (λ (p : Reply × Objects). p.0) did
  legal_by h place part task skip old new Short told did same = did.0
  legal_by h place Only task skip old new Skipped told did same = absurd (true≢false (same ∙ told))
  legal_by h place First task skip old new Skipped told did same = absurd (true≢false (same ∙ told))
  legal_by h place (Second a) task skip old new Skipped told did same = tt

  left_by : (task : Task) (old new : Objects) (y : Outcome Reply) → Performs task old y new
      → new ≡ objects_left (array_service n) task y old
  left_by task old new (Done reply) did = ap (λ (p : Reply × Objects). p.1) did
  left_by task old new Short did = did.1
  left_by task old new Skipped did = did

module _ {K : Type 0} (start : ArrayStart K) where
  abbrev service : Service
  service = array_service (lanes_in start)

module _ {D K : Type 0} (met : Ghosts D K) (start : ArrayStart K) where
  abbrev machines_of : Machines (service start) RegisterState Lane (NotedDesk D) K
  machines_of = desk_machines met (lanes_in start)

  abbrev Hand : Type 0
  Hand = HallHand (service start) RegisterState Lane (NotedDesk D) K

  -- what was changed is marked, and nothing else
  marks : ((lanes : ℕ) → OwnersMark lanes) → ((lanes : ℕ) → TurnsStaySince (array_marking lanes)) → (lane : ℕ) (old new : Lane)
      → IsSameLane old new → StillSays old.slots new.slots → (place : ℕ) (part : Part) (task : Task) (y : Outcome Reply) → MarksOnly task y old new
      → new.objects ≡ objects_left (service start) task y old.objects
      → (items : LaneList (service start)) (was : Lane) → machines_of.OwnerIsSince old lane items was
      → machines_of.OwnerIsSince new lane (items ++ Passed place part task y ∷ []) was
  unfolding desk_machines
  marks mark stay lane old new same says place part task y alone went items was is = record {
    owner = record {
      lane_is = same.lane ∙ is.owner.lane_is;
      lanes_are = same.lanes ∙ is.owner.lanes_are;
      same = record { lane = same.lane ∙ is.owner.same.lane; lanes = same.lanes ∙ is.owner.same.lanes };
      still = is.owner.still;
      since = stay (lanes_in start) lane was old new is.owner.since (mark (lanes_in start) lane old new same says);
    };
    alone = then_item items (Passed place part task y) old new is.alone went alone;
  }

module _ {D K : Type 0} (met : Ghosts D K) {start : ArrayStart K} where
  module _ {lane n : ℕ} {first taken : Hand met start} where
    -- the ticket's turn was waited for
    pub took : {place : ℕ} {part : Part} {task : Task} {skip : Bool} → LaneTurns (machines_of met start)
        → MayAct (service start) start lane n place part task skip first.0
        → ((others : List Claim) → MayLook start (OfLane lane) n others first.0
        → HasTaken (machines_of met start) start (claim (OfLane lane) n false) others first taken)
        → HasTaken (machines_of met start) start (claim (OfLane lane) n false) (others_of first.0.claims) first taken
    took {place = place} {part = part} {task = task} {skip = skip} laws may wait =
        wait (others_of first.0.claims) (laws.may_look start lane n place part task skip first.0 may)

    module _ (t : HasTaken (machines_of met start) start (claim (OfLane lane) n false) (others_of first.0.claims) first taken) where
      pub in_hand : {home : ℕ} → HandsHold (machines_of met start) → home ≡ slot_of (OfLane lane)
          → HandLaws taken home (slot_of (OfLane lane)) (seeing first.0 (claim (OfLane lane) n true ∷ others_of first.0.claims) t.seen)
          t.slot first.1
      in_hand {home = home} hands at = hands taken home (slot_of (OfLane lane))
          (seeing first.0 (claim (OfLane lane) n true ∷ others_of first.0.claims) t.seen) t.slot first.1 t.is at

      module _ {d : LaneSlot Lane Reply} (here : t.slot ≡ AtLane d) where
        -- the owner stands for its list
        stands : IsOwnerOf (machines_of met start) start t.seen lane d.owner
        stands = subst (λ (x : HallSlot (service start) RegisterState Lane (NotedDesk D)).
            StandsFor (machines_of met start) (OfLane lane) x start t.seen) here t.stands

        module _ (opened : IsOpened start) (place : ℕ) (part : Part) where
          -- the next turn of the lane finds what its task needs
          finds : (task : Task) → ((lanes : ℕ) → TurnsFindWhatTheyNeed lanes)
              → IsNext (service start) (history_of (service start) t.seen) lane (part_of place part task) → Needs task d.owner.objects
          unfolding desk_machines
          finds task ready next = subst (Needs task) (sym stands.now)
              (ready (lanes_in start) (world_of (machines_of met start) start) (history_of (service start) t.seen) t.grown.legal
              (λ l. subst (IsGivenIn (lanes_in start) start.register) (sym (desk_objects met (lanes_in start) start.owners l)) (opened.given l))
              lane place part task next)

          -- and touches an object of the lane
          touches : (g : Grant) (op : Op) (step : Step) → ((lanes : ℕ) → TurnsAreAtHome lanes)
              → IsNext (service start) (history_of (service start) t.seen) lane (part_of place part (task_of g op (Some step)))
              → IsTouchedIn d.owner.lane d.owner.lanes (touched g op step)
          unfolding desk_machines
          touches g op step home next =
              let own : IsTouchedIn lane (lanes_in start) (touched g op step) =
              home (lanes_in start) (world_of (machines_of met start) start) (history_of (service start) t.seen)
              (record { some = opened.some_lane; count = opened.lanes })
              t.grown.legal lane place part g op step next in
              subst (λ (k : ℕ). IsTouchedIn k d.owner.lanes (touched g op step)) (sym stands.since.owner.lane_is)
              (subst (λ (k : ℕ). IsTouchedIn lane k (touched g op step)) (sym stands.since.owner.lanes_are) own)

        pub ready_for : {place : ℕ} {part : Part} {skip : Bool} → IsOpened start → LaneTurns (machines_of met start)
            → ((lanes : ℕ) → TurnsFindWhatTheyNeed lanes) → ((lanes : ℕ) → TurnsAreAtHome lanes) → (g : Grant) (op : Op) (step : Option Step)
            → MayAct (service start) start lane n place part (task_of g op step) skip first.0 → IsReadyFor d.owner g op step
        ready_for opened laws ready home g op None may = tt
        ready_for {place = place} {part = part} {skip = skip} opened laws ready home g op (Some step) may =
            let task = task_of g op (Some step) in
            let next = laws.next start lane n place part task skip first taken may t in
            (finds opened place part task ready next, touches opened place part g op step home next)

        module _ {back : Hand met start} {new : LaneSlot Lane Reply} {outcome : Outcome Reply} (laws : LaneTurns (machines_of met start))
            (mine : back ≡ (
              seeing first.0 (claim (OfLane lane) n true ∷ others_of first.0.claims) t.seen,
              (slot_of (OfLane lane), AtLane new) ∷ first.1,
            ))
            {place : ℕ} {part : Part} {task : Task} {skip : Bool} (may : MayAct (service start) start lane n place part task skip first.0) where
          -- it may be passed once the owner is in its slot again
          pub may_pass : ((lanes : ℕ) → OwnersMark lanes) → ((lanes : ℕ) → TurnsStaySince (array_marking lanes))
              → (noted : Outcome (Snapshot Reply)) → new.news ≡ Some (Acts noted) → plain_outcome noted ≡ outcome
              → Performs task d.owner.objects outcome new.owner.objects → is_skipped outcome ≡ skip
              → IsSameLane d.owner new.owner → StillSays d.owner.slots new.owner.slots → MarksOnly task outcome d.owner new.owner
              → IsReadyToPass (machines_of met start) start (at_lane lane (Passed place part task outcome) new.owner) back
          unfolding desk_machines
          may_pass mark stay noted news same did skips alike says alone =
              let old = d.owner.objects in
              subst (λ (y : Outcome Reply). IsReadyToPass (machines_of met start) start (at_lane lane (Passed place part task y) new.owner) back) same
              ((laws.turn start lane n first taken back d new t here mine).may_act place part task skip noted may news
              (subst (λ (y : Outcome Reply). IsLegalOutcome (service start) old part task y) (sym same)
              (legal_by (lanes_in start) (history_of (service start) first.0.seen) place part task skip old new.owner.objects outcome
              may.to_skip did skips))
              (subst (λ (y : Outcome Reply). new.owner.objects ≡ objects_left (service start) task y old) (sym same)
              (left_by (lanes_in start) task old new.owner.objects outcome did))
              (ap (λ (y : Outcome Reply). is_skipped y) same ∙ skips)
              (subst (λ (y : Outcome Reply). (items : LaneList (service start)) (was : Lane) → (machines_of met start).OwnerIsSince d.owner lane items was
              → (machines_of met start).OwnerIsSince new.owner lane (items ++ Passed place part task y ∷ []) was) (sym same)
              (marks met start mark stay lane d.owner new.owner alike says place part task outcome alone
              (left_by (lanes_in start) task old new.owner.objects outcome did))))

          pub has_acted : {w : ArrayView K} → HasPassed (machines_of met start) start (at_lane lane (Passed place part task outcome) new.owner) back.0 w
              → HasActed (machines (lanes_in start)) start lane place part task outcome first.0 w
          has_acted {w = w} passed =
              acted_so met (lanes_in start) start lane place part task outcome first.0 w
              ((laws.turn start lane n first taken back d new t here mine).acted place part task skip outcome w may passed).0
