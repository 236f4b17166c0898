-- A world that is put together from what a history leaves.
use Rattle.std.proofs.Common.{◌≡◌, ℕ, zero, suc, ◌+◌, ◌<◌, ◌≤◌, List, [], ◌∷◌, length, take, Option, Some, None, refl, sym, ap, subst, ◌∙◌, arith}
use Rattle.std.specs.Prelude.{slice_get}
use Rattle.std.specs.FinMap.{get}
use Rattle.std.specs.List.{AllByRecursion}
use Rattle.std.proofs.Math.Nat.{mod-lt}
use Rattle.std.proofs.lemmas.List.{take_all}
use Rattle.std.proofs.lemmas.Option.{slice_get_read}
use Rattle.object_ids.specs.IdValues.{Id}
use Rattle.object_ids.specs.Ids.{lane_of}
use Rattle.object_acts.specs.Objects.{Objects}
use Rattle.object_acts.specs.declared.objects.Object.{Object}
use Rattle.chunk_owner.specs.Lanes.{Lane}
use Rattle.chunk_owner.specs.Owners.Joined.{AreLanes, IsLane, whole}
use Rattle.register.specs.Decided.{RegisterState}
use Rattle.service_core.specs.Steps.{IsGiven}
use Rattle.service_core.specs.Worlds.{IsBuilt, seen}
use Rattle.lane_histories.specs.Histories.{History, LaneList, RegisterList, objects_after, places, register_after, register_at}
use Rattle.lane_histories.specs.Kept.{IsBelow}
use Rattle.lane_histories.specs.Legal.{IsLegal}
use Rattle.lane_histories.specs.Ready.{GivesOut, KeptIsGiven}
use Rattle.lane_histories.specs.Services.{World}
use Rattle.lane_histories.specs.declared.items.LaneItem.TheVariants.{Passed, WasCut}
use Rattle.lane_histories.specs.declared.items.RegisterItem.TheVariants.{Entered, DrawnCut, RegisterCut}
use Rattle.service_histories.specs.ArrayServices.{array_service, cut_drawn, cut_recorded, left_by}
use Rattle.service_histories.specs.Closings.{AreOwnersAfter, WorldsClose, WorldsCloseSeen, closed}
use Rattle.service_histories.specs.PlainSteps.{IsSeen, world_after}
use Rattle.service_histories.specs.Readies.{IsGivenIn, array_readiness}
use Rattle.service_histories.proofs.OpeningLemmas.{lane_at, looked_up}

-- ---- the whole of a lane's list

-- above all places of a list
abbrev past : (lanes : ℕ) → LaneList (array_service lanes) → ℕ
past lanes [] = 0
past lanes (Passed place part task outcome ∷ items) = suc place + past lanes items
past lanes (WasCut number c found ∷ items) = past lanes items

all_below : (lanes n : ℕ) (items : LaneList (array_service lanes)) → past lanes items ≤ n → AllByRecursion (IsBelow n) items
all_below lanes n [] few = tt
all_below lanes n (Passed place part task outcome ∷ items) few = (omega arith, all_below lanes n items (omega arith))
all_below lanes n (WasCut number c found ∷ items) few = (tt, all_below lanes n items few)

module _ (lanes : ℕ) where
  -- the register at a place that is past its list is the one behind it
  at_past : (n : ℕ) (d : RegisterState) (items : RegisterList (array_service lanes)) → places items ≤ n
      → register_at (array_service lanes) n d items ≡ register_after (array_service lanes) d items
  at_past n d [] few = refl
  at_past zero d (Entered e ∷ items) few = absurd (omega arith)
  at_past (suc n) d (Entered e ∷ items) few = at_past n (left_by d e.asked e.verdict) items (omega arith)
  at_past n d (DrawnCut number at ∷ items) few = at_past n (cut_drawn d) items few
  at_past n d (RegisterCut at found ∷ items) few = at_past n (cut_recorded found d) items few

  -- ---- owners

  at_home : (l : Lane) (id : Id) (o : Option Object) → ((x : Object) → o ≡ Some x → lane_of l.lanes id ≡ l.lane)
      → (lane_of l.lanes id ≡ l.lane → ⊥) → o ≡ None
  at_home l id None own far = refl
  at_home l id (Some x) own far = absurd (far (own x refl))

  are_lanes : (k : ℕ) (ls : List Lane) → ((i : ℕ) (l : Lane) → slice_get ls i ≡ Some l → IsLane lanes (k + i) l) → AreLanes lanes k ls
  are_lanes k [] each = tt
  are_lanes k (l ∷ ls) each = (
    subst (λ (n : ℕ). IsLane lanes n l) (let e : k + 0 ≡ k = omega arith in e) (each 0 l refl),
    are_lanes (suc k) ls (λ i x at. subst (λ (n : ℕ). IsLane lanes n x) (let e : k + suc i ≡ suc k + i = omega arith in e) (each (suc i) x at)),
  )

  module _ (start : World (array_service lanes)) (h : History (array_service lanes)) (owners : List Lane)
      (first : (l : ℕ) → IsGivenIn lanes start.register (start.objects l)) (after : AreOwnersAfter lanes start h owners) where
    some : 0 < lanes
    some = (first 0).some_lane

    is_lane : (i : ℕ) (l : Lane) → slice_get owners i ≡ Some l → IsLane lanes i l
    is_lane i l at =
        let that = after.each i l at in
        record {
          lane = that.lane_is;
          lanes = that.lanes_are;
          own = λ id far. at_home l id (get l.objects id) (λ x there. (that.whole.own id x there).own)
              (λ here. far (ap (λ (n : ℕ). lane_of n id) (sym that.lanes_are) ∙ here ∙ that.lane_is));
        }

    are : AreLanes lanes 0 owners
    are = are_lanes 0 owners (λ i l at. subst (λ (n : ℕ). IsLane lanes n l) (let e : i ≡ 0 + i = omega arith in e) (is_lane i l at))

    -- what stands at an id is what the list of its lane leaves there
    left_at : (id : Id) → get (whole owners) id ≡ get (objects_after (array_service lanes) (start.objects (lane_of lanes id)) (h.lane (lane_of lanes id))) id
    left_at id =
        let l = lane_of lanes id in
        let below : l < lanes = mod-lt id.serial some in
        let few : l < length owners = subst (λ (n : ℕ). l < n) (sym after.count) below in
        let found = lane_at owners l few in
        let own = after.each l found.lane (slice_get_read owners lanes l found.lane (sym after.count) below (sym found.here)) in
        looked_up lanes owners after.count some are id ∙ ap (λ (m : Objects). get m id) (found.objects ∙ own.objects)

    pub closed_seen : IsSeen lanes (world_after lanes start h) (seen (closed lanes start h owners))
    closed_seen = record { register = refl; objects = left_at }

    module _ (kept : KeptIsGiven (array_service lanes) (array_readiness lanes)) (gives : GivesOut (array_service lanes) (array_readiness lanes))
        (legal : IsLegal (array_service lanes) start h) where
      abbrev now : RegisterState
      now = register_after (array_service lanes) start.register h.register

      given_now : (l : ℕ) → IsGivenIn lanes now (objects_after (array_service lanes) (start.objects l) (h.lane l))
      given_now l =
          let n : ℕ = places h.register + past lanes (h.lane l) in
          let all : take (length (h.lane l)) (h.lane l) ≡ h.lane l = take_all (length (h.lane l)) (h.lane l) (omega arith) in
          let given = kept gives start h legal first l (length (h.lane l)) n
          (subst (AllByRecursion (IsBelow n)) (sym all) (all_below lanes n (h.lane l) (omega arith))) in
          subst (λ (d : RegisterState). IsGivenIn lanes d (objects_after (array_service lanes) (start.objects l) (h.lane l)))
          (at_past n start.register h.register (omega arith))
          (subst (λ (items : LaneList (array_service lanes)). IsGivenIn lanes (register_at (array_service lanes) n start.register h.register) (objects_after (array_service lanes) (start.objects l) items)) all given)

      id_given : (id : Id) (o : Object) → get (whole owners) id ≡ Some o → IsGiven now id
      id_given id o at = (given_now (lane_of lanes id)).objects id o (sym (left_at id) ∙ at)

      pub closed_built : IsBuilt now owners
      closed_built = record {
        count = after.count ∙ sym (given_now 0).lanes_are;
        lanes = subst (λ (n : ℕ). AreLanes n 0 owners) (sym after.count) are;
        given = id_given;
      }

  pub worlds_close : KeptIsGiven (array_service lanes) (array_readiness lanes) → GivesOut (array_service lanes) (array_readiness lanes) → WorldsClose lanes
  worlds_close kept gives start h owners legal first after = closed_built start h owners first after kept gives legal

  pub worlds_close_seen : WorldsCloseSeen lanes
  worlds_close_seen start h owners first after = closed_seen start h owners first after
