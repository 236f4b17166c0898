-- What a whole turn does, from the slot that was taken to the item that joined its list.
--     MachinesStand m     the machine that a look took stands for its list
--     ListsAreHistories   the lists seen, as histories of the service
--     RegisterTurns m     a request is decided, a cut is drawn, or the register is cut
--     LaneTurns m         a part of a request is done, or the lane is cut
--     DeskTurns m         the desk's turn, with all that the pass does in it
use Rattle.std.specs.Prelude.{◌≡◌, ℕ, ◌<◌, ◌^◌, Bool, true, false, List, [], ◌∷◌, ◌++◌, length, Some}
use Rattle.std.specs.Prelude.{slice_get}
use Rattle.std.specs.List.{AllByRecursion}
use Rattle.std.specs.declared.snapshot.Snapshot.{Snapshot}
use Rattle.lane_histories.specs.Cuts.{GoesOn}
use Rattle.lane_histories.specs.KeptContents.{IsAsFar}
use Rattle.lane_histories.specs.Histories.{LaneList, cut_of, drawn, issued, objects_step, own, part_of, places}
use Rattle.lane_histories.specs.declared.items.LaneItem.{LaneItem}
use Rattle.lane_histories.specs.declared.items.RegisterItem.{RegisterItem}
use Rattle.lane_histories.specs.Legal.{IsLegalOutcome, IsNext, IsPrefix, is_skipped}
use Rattle.lane_histories.specs.Legal.{with_keeping, with_lane_item, with_register_item}
use Rattle.lane_histories.specs.declared.items.Answer.TheVariants.{Kept}
use Rattle.lane_histories.specs.declared.items.Keeping.{Keeping}
use Rattle.lane_histories.specs.declared.items.LaneItem.TheVariants.{Passed, WasCut}
use Rattle.lane_histories.specs.declared.items.Outcome.{Outcome}
use Rattle.lane_histories.specs.declared.items.Outcome.TheVariants.{Done, Short, Skipped}
use Rattle.lane_histories.specs.declared.items.Part.{Part}
use Rattle.lane_histories.specs.declared.items.RegisterItem.TheVariants.{DrawnCut, Entered}
use Rattle.lane_histories.specs.declared.items.RegisterItem.TheVariants.{RegisterCut}
use Rattle.lane_histories.specs.Services.{Service}
use Rattle.hall_rule.specs.declared.queue.Queue.TheVariants.{OfRegister, OfDesk, OfLane}
use Rattle.hall_rule.specs.declared.queue.Claim.{Claim}
use Rattle.hall_rule.specs.declared.view.Start.{Start}
use Rattle.hall_rule.specs.Machines.{Machines}
use Rattle.hall_rule.specs.Standing.{HallSlot, IsDeskOf, IsOwnerOf, IsRegisterOf}
use Rattle.hall_rule.specs.Standing.{MarksLane, MarksRegister}
use Rattle.hall_rule.specs.Rule.{HallHand, HallView, names, seeing}
use Rattle.hall_rule.specs.declared.slot.LaneSlot.{LaneSlot}
use Rattle.hall_rule.specs.declared.slot.LaneNews.TheVariants.{Acts, Cuts as CutsLane}
use Rattle.hall_rule.specs.declared.slot.RegisterSlot.{RegisterSlot}
use Rattle.hall_rule.specs.declared.slot.RegisterNews.TheVariants.{Asks, Cuts, Draws}
use Rattle.hall_rule.specs.declared.slot.Slot.TheVariants.{AtDesk, AtLane, AtRegister}
use Rattle.hall_rule.specs.Sums.{times, total, upward}
use Rattle.hall_rule.specs.Queues.{limit_of, slot_of}
use Rattle.hall_rule.specs.Claims.{claim, count_of, holds}
use Rattle.hall_rule.specs.Seen.{GrowsFrom, GrowsUncut, SeenLists, at_desk, at_lane, at_register}
use Rattle.hall_rule.specs.Seen.{history_of, lanes_of, pushed}
use Rattle.hall_rule.specs.Steps.{HasPassed, HasTaken, lane_slot, news_of, others_of}
use Rattle.hall_rule.specs.Steps.{plain_outcome}
use Rattle.hall_rule.specs.WholeTurns.{HasActed, HasCutLane, HasCutRegister, HasDecided}
use Rattle.hall_rule.specs.WholeTurns.{HasDrawnCut, HasKept, IsPass, IsReadyToPass, MayAct}
use Rattle.hall_rule.specs.WholeTurns.{MayCutLane, MayDraw, MayDrawDesk, MayLook, entry_behind}

-- ---- what was taken

pub record MachinesStand {service : Service} {M N P E : Type 0} (m : Machines service M N P E)
    : Type 0 where
  pub register : (start : Start M N E) (n : ℕ) (others : List Claim)
      (me after : HallHand service M N P E)
      → (t : HasTaken m start (claim OfRegister n false) others me after)
      → (d : RegisterSlot M service.Asked service.Verdict) × (t.slot ≡ AtRegister d)
      × IsRegisterOf m start t.seen.register d.register
  -- so many places were given at most, and no ticket of a lane waits without end
  pub room : (start : Start M N E) (n : ℕ) (others : List Claim)
      (me after : HallHand service M N P E)
      → (t : HasTaken m start (claim OfRegister n false) others me after)
      → (places t.seen.register < 2 ^ 61)
      × ((l : ℕ) → count_of service t.seen.register l < limit_of (OfLane l))
  pub owner : (start : Start M N E) (lane n : ℕ) (others : List Claim)
      (me after : HallHand service M N P E)
      → (t : HasTaken m start (claim (OfLane lane) n false) others me after)
      → (d : LaneSlot N service.Reply) × (t.slot ≡ AtLane d)
      × IsOwnerOf m start t.seen lane d.owner
  pub desk : (start : Start M N E) (n : ℕ) (others : List Claim)
      (me after : HallHand service M N P E)
      → (t : HasTaken m start (claim OfDesk n false) others me after)
      → (d : P) × (t.slot ≡ AtDesk d) × IsDeskOf m start t.seen d

-- ---- lists as histories

pub record ListsAreHistories (service : Service) (N : Type 0) : Type 0 where
  pub longer : (h g : SeenLists service N) → GrowsFrom h g
      → IsPrefix (history_of service g) (history_of service h)
  -- where nobody cut
  pub uncut : (h g : SeenLists service N) → GrowsUncut h g
      → GoesOn (history_of service g) (history_of service h)
  -- with one item more
  pub register : (h : SeenLists service N) (i : RegisterItem service.Asked service.Verdict)
      → history_of service (pushed h (at_register i))
      ≡ with_register_item (history_of service h) i
  pub lane : (h : SeenLists service N) (l : ℕ) (i : LaneItem service.Task service.Reply) (owner : N)
      → l < length h.lanes → history_of service (pushed h (at_lane l i owner))
      ≡ with_lane_item (history_of service h) l i
  pub keepings : (h : SeenLists service N) (k : Keeping)
      → history_of service (pushed h (at_desk k)) ≡ with_keeping (history_of service h) k

-- ---- the register

pub record RegisterTurnLaws {service : Service} {M N P E : Type 0} (m : Machines service M N P E)
    (start : Start M N E) (v : HallView service M N E) (seen : SeenLists service N)
    (back : HallHand service M N P E) (d new : RegisterSlot M service.Asked service.Verdict)
    : Type 0 where
  -- before the turn is passed
  pub may_decide : (asked : Snapshot service.Asked) (verdict : Snapshot service.Verdict)
      → new.news ≡ Some (Asks asked verdict)
      → service.MayAnswer (m.register d.register) asked.value verdict.value
      → AllByRecursion (λ l. l < length start.owners)
      (lanes_of service.lanes (service.turns asked.value verdict.value))
      → m.register new.register
      ≡ service.decided (m.register d.register) asked.value verdict.value
      → ((c : service.Catalogue) → m.RegisterIsSince d.register c
      → m.RegisterIsSince new.register c)
      → IsReadyToPass m start (at_register
      (Entered (entry_behind seen.register v.number asked.value verdict.value))) back
  pub may_draw_cut : new.news ≡ Some Draws → 0 < total (holds OfDesk) v.claims
      → AllByRecursion (λ l. l < length start.owners) (upward 0 service.lanes)
      → m.register new.register ≡ service.drawn (m.register d.register)
      → ((c : service.Catalogue) → m.RegisterIsSince d.register c
      → m.RegisterIsSince new.register c)
      → IsReadyToPass m start
      (at_register (DrawnCut (drawn seen.register) (places seen.register))) back
  pub may_cut : (found : Bool) → new.news ≡ Some (Cuts found) → 0 < total (holds OfDesk) v.claims
      → m.register new.register ≡ service.recorded found (m.register d.register)
      → MarksRegister m (RegisterCut (places seen.register) found) d.register new.register
      → IsReadyToPass m start (at_register (RegisterCut (places seen.register) found)) back
  -- and behind, with the lists as they were when it was taken
  pub decided : (place : ℕ) (asked : service.Asked) (verdict : service.Verdict)
      (w : HallView service M N E) → HasPassed m start (at_register
      (Entered (entry_behind seen.register v.number asked verdict))) back.0 w
      → place ≡ places seen.register → service.MayAnswer (m.register d.register) asked verdict
      → (k : HasDecided m start place asked verdict v w) × (k.before ≡ seen)
  pub drew_cut : (place : ℕ) (w : HallView service M N E) → HasPassed m start
      (at_register (DrawnCut (drawn seen.register) (places seen.register))) back.0 w
      → place ≡ places seen.register
      → (k : HasDrawnCut m start place v w) × (k.before ≡ seen)
  pub cut : (place : ℕ) (found : Bool) (w : HallView service M N E)
      → HasPassed m start (at_register (RegisterCut (places seen.register) found)) back.0 w
      → place ≡ places seen.register
      → (k : HasCutRegister m start place found v w) × (k.before ≡ seen)

pub record RegisterTurns {service : Service} {M N P E : Type 0} (m : Machines service M N P E)
    : Type 0 where
  -- a number was drawn, its turn came, and the register is in its slot again
  pub turn : (start : Start M N E) (n : ℕ) (v : HallView service M N E)
      (first taken back : HallHand service M N P E)
      (d new : RegisterSlot M service.Asked service.Verdict)
      → MayDraw start v → first.0 ≡ record v { claims = claim OfRegister n false ∷ v.claims }
      → (t : HasTaken m start (claim OfRegister n false) v.claims first taken)
      → t.slot ≡ AtRegister d
      → back ≡ (
        seeing first.0 (claim OfRegister n true ∷ v.claims) t.seen,
        (slot_of OfRegister, AtRegister new) ∷ first.1,
      )
      → RegisterTurnLaws m start v t.seen back d new
  pub may_look : (start : Start M N E) (n : ℕ) (v w : HallView service M N E) → MayDraw start v
      → w ≡ record v { claims = claim OfRegister n false ∷ v.claims }
      → MayLook start OfRegister n v.claims w

-- ---- lanes

-- The item that an owner's slot tells, with the ticket in hand of a part: the reply as it was given,
-- that memory was wanting, or that the turn was passed over. With that of a cut it tells the cut.
pub record SlotsTell {service : Service} {M N P E : Type 0} (m : Machines service M N P E)
    (seen : SeenLists service N) (by lane n : ℕ) (owner : N) : Type 0 where
  pub done : (place : ℕ) (part : Part) (task : service.Task) (reply : Snapshot service.Reply)
      → slice_get (issued service lane seen.register) n ≡ Some (part_of place part task)
      → news_of m seen by (OfLane lane) n (lane_slot m owner (Acts (Done reply)))
      ≡ Some (at_lane lane (Passed place part task (Done reply.value)) owner)
  pub short : (place : ℕ) (part : Part) (task : service.Task)
      → slice_get (issued service lane seen.register) n ≡ Some (part_of place part task)
      → news_of m seen by (OfLane lane) n (lane_slot m owner (Acts Short))
      ≡ Some (at_lane lane (Passed place part task Short) owner)
  pub skipped : (place : ℕ) (part : Part) (task : service.Task)
      → slice_get (issued service lane seen.register) n ≡ Some (part_of place part task)
      → news_of m seen by (OfLane lane) n (lane_slot m owner (Acts Skipped))
      ≡ Some (at_lane lane (Passed place part task Skipped) owner)
  pub cut : (number place : ℕ) (found : Bool)
      → slice_get (issued service lane seen.register) n ≡ Some (cut_of number place)
      → news_of m seen by (OfLane lane) n (lane_slot m owner (CutsLane found))
      ≡ Some (at_lane lane (WasCut number place found) owner)

pub record LaneTurnLaws {service : Service} {M N P E : Type 0} (m : Machines service M N P E)
    (start : Start M N E) (lane n : ℕ) (seen : SeenLists service N)
    (first back : HallHand service M N P E) (d new : LaneSlot N service.Reply) : Type 0 where
  -- before the turn is passed
  pub may_act : (place : ℕ) (part : Part) (task : service.Task) (skip : Bool)
      (outcome : Outcome (Snapshot service.Reply))
      → MayAct service start lane n place part task skip first.0
      → new.news ≡ Some (Acts outcome)
      → IsLegalOutcome service (m.owner d.owner) part task (plain_outcome outcome)
      → m.owner new.owner
      ≡ objects_step service (m.owner d.owner) (Passed place part task (plain_outcome outcome))
      → is_skipped (plain_outcome outcome) ≡ skip
      → ((since : LaneList service) (was : N) → m.OwnerIsSince d.owner lane since was
      → m.OwnerIsSince new.owner lane (since ++ Passed place part task (plain_outcome outcome) ∷ []) was)
      → IsReadyToPass m start
      (at_lane lane (Passed place part task (plain_outcome outcome)) new.owner) back
  pub may_cut : (cut place : ℕ) (found : Bool) → MayCutLane service start lane n cut place first.0
      → new.news ≡ Some (CutsLane found) → m.owner new.owner ≡ m.owner d.owner
      → MarksLane m lane (WasCut cut place found) d.owner new.owner
      → IsReadyToPass m start (at_lane lane (WasCut cut place found) new.owner) back
  -- and behind, with the lists as they were when it was taken
  pub acted : (place : ℕ) (part : Part) (task : service.Task) (skip : Bool)
      (outcome : Outcome service.Reply) (w : HallView service M N E)
      → MayAct service start lane n place part task skip first.0
      → HasPassed m start (at_lane lane (Passed place part task outcome) new.owner) back.0 w
      → (k : HasActed m start lane place part task outcome first.0 w) × (k.turned.before ≡ seen)
  pub cut : (cut place : ℕ) (found : Bool) (w : HallView service M N E)
      → MayCutLane service start lane n cut place first.0
      → HasPassed m start (at_lane lane (WasCut cut place found) new.owner) back.0 w
      → (k : HasCutLane m start lane cut place found new.owner first.0 w)
      × (k.turned.before ≡ seen)

pub record LaneTurns {service : Service} {M N P E : Type 0} (m : Machines service M N P E)
    : Type 0 where
  -- what lies beside the owner is what its turn adds to the list
  pub news : (seen : SeenLists service N) (by lane n : ℕ) (owner : N)
      → SlotsTell m seen by lane n owner
  -- a ticket's turn came, and the owner is in its slot again
  pub turn : (start : Start M N E) (lane n : ℕ) (first taken back : HallHand service M N P E)
      (d new : LaneSlot N service.Reply)
      → (t : HasTaken m start (claim (OfLane lane) n false) (others_of first.0.claims) first taken)
      → t.slot ≡ AtLane d
      → back ≡ (
        seeing first.0 (claim (OfLane lane) n true ∷ others_of first.0.claims) t.seen,
        (slot_of (OfLane lane), AtLane new) ∷ first.1,
      )
      → LaneTurnLaws m start lane n t.seen first back d new
  -- the ticket is the lane's next, by the lists as they are when its turn has come
  pub next : (start : Start M N E) (lane n place : ℕ) (part : Part) (task : service.Task)
      (skip : Bool) (first taken : HallHand service M N P E)
      → MayAct service start lane n place part task skip first.0
      → (t : HasTaken m start (claim (OfLane lane) n false) (others_of first.0.claims) first taken)
      → IsNext service (history_of service t.seen) lane (part_of place part task)
  pub may_look : (start : Start M N E) (lane n place : ℕ) (part : Part) (task : service.Task)
      (skip : Bool) (v : HallView service M N E)
      → MayAct service start lane n place part task skip v
      → MayLook start (OfLane lane) n (others_of v.claims) v
  pub may_look_cut : (start : Start M N E) (lane n cut place : ℕ) (v : HallView service M N E)
      → MayCutLane service start lane n cut place v
      → MayLook start (OfLane lane) n (others_of v.claims) v

-- ---- the desk

pub record DeskTurns {service : Service} {M N P E : Type 0} (m : Machines service M N P E)
    : Type 0 where
  pub may_look : (start : Start M N E) (n : ℕ) (v w : HallView service M N E)
      → MayDrawDesk start v → w ≡ record v { claims = claim OfDesk n false ∷ v.claims }
      → MayLook start OfDesk n v.claims w
  -- others asked and took turns since
  pub stays : (start : Start M N E) (h g : SeenLists service N) (d : P) → GrowsUncut h g
      → h.keepings ≡ g.keepings → IsDeskOf m start g d → IsDeskOf m start h d
  -- Its note was brought up in its turn, it reaches no less far, and it told this keeping behind all
  -- others, which reaches no farther; one that is answered Ok is its own.
  pub keeps : (start : Start M N E) (h g : SeenLists service N) (old new : P) (k : Keeping)
      → IsDeskOf m start g old → h.keepings ≡ g.keepings
      → ((first : E) → m.DeskIsSince old first → m.DeskIsSince new first)
      → m.noted_register new ≡ m.noted_register old → m.noted_owners new ≡ m.noted_owners old
      → GrowsUncut h (m.note new)
      → (m.note new).keepings ≡ h.keepings → IsAsFar (m.reach old) (m.reach new)
      → IsAsFar k.own (m.reach new)
      → (m.HasTold old start.desk g.keepings → m.HasTold new start.desk (g.keepings ++ k ∷ []))
      → (k.answer ≡ Kept → (k.own ≡ m.reach new) × (k.moment ≡ m.moment new))
      → IsDeskOf m start (pushed h (at_desk k)) new
  pub may_pass : (start : Start M N E) (me : HallHand service M N P E) (n : ℕ)
      (others : List Claim) (more : List (ℕ × HallSlot service M N P)) (d : P) (k : Keeping)
      → IsPass start me.0 → me.0.claims ≡ claim OfDesk n true ∷ others
      → me.1 ≡ (slot_of OfDesk, AtDesk d) ∷ more → m.news d ≡ Some k
      → IsDeskOf m start (pushed me.0.seen (at_desk k)) d → IsReadyToPass m start (at_desk k) me
  -- A number was drawn and its turn came; then the pass went on to longer lists, with no entry of
  -- its own, and passed the turn.
  pub kept : (start : Start M N E) (n : ℕ) (k : Keeping) (v : HallView service M N E)
      (first taken back : HallHand service M N P E) (w : HallView service M N E)
      → MayDrawDesk start v → first.0 ≡ record v { claims = claim OfDesk n false ∷ v.claims }
      → (t : HasTaken m start (claim OfDesk n false) v.claims first taken)
      → back.0 ≡ seeing taken.0 taken.0.claims back.0.seen → GrowsFrom back.0.seen t.seen
      → back.0.seen.keepings ≡ t.seen.keepings
      → ((x : ℕ) → 0 < times x (names v)
      → own x back.0.seen.register ≡ own x t.seen.register)
      → HasPassed m start (at_desk k) back.0 w
      → (kept : HasKept m start k v.claims v w) × (kept.before ≡ t.seen)
