-- Whole turns: what a pass needs for one, and what it leaves.
--     MayDraw, MayDrawDesk, MayLook, MayAct, MayCutLane    what a pass has before a step
--     IsReadyToPass ..    it holds a turn, and its slot has an item and a machine that stands so
--     HasTurned ..        from a look to the step that passed the turn
--     HasDecided, HasDrawnCut, HasCutRegister, HasActed, HasCutLane, HasKept    what was done in it
use Rattle.std.specs.Prelude.{◌≡◌, ◌≢◌, ℕ, ◌+◌, ◌<◌, ◌≤◌, ◌^◌, cond, List, [], ◌∷◌, ◌++◌, length}
use Rattle.std.specs.Prelude.{Bool, true, false, Some, slice_get, not}
use Rattle.std.specs.List.{AllByRecursion}
use Rattle.lane_histories.specs.Services.{Service, World}
use Rattle.lane_histories.specs.Histories.{History, ticket_of, own, places, drawn, issued}
use Rattle.lane_histories.specs.Histories.{register_after, objects_after}
use Rattle.lane_histories.specs.declared.items.RegisterItem.{RegisterItem}
use Rattle.lane_histories.specs.declared.items.LaneItem.TheVariants.{Passed, WasCut}
use Rattle.lane_histories.specs.Histories.{IsIn, cut_of, part_of}
use Rattle.lane_histories.specs.declared.items.Entry.{Entry}
use Rattle.lane_histories.specs.declared.items.Keeping.{Keeping}
use Rattle.lane_histories.specs.declared.items.Part.{Part}
use Rattle.lane_histories.specs.declared.items.Outcome.{Outcome}
use Rattle.lane_histories.specs.declared.items.Part.TheVariants.{Only, First, Second}
use Rattle.lane_histories.specs.declared.items.RegisterItem.TheVariants.{Entered, DrawnCut}
use Rattle.lane_histories.specs.declared.items.RegisterItem.TheVariants.{RegisterCut}
use Rattle.lane_histories.specs.Legal.{IsLegalRegisterItem, IsLegalLaneItem, IsLegal}
use Rattle.lane_histories.specs.Legal.{IsReachedBy, is_well}
use Rattle.hall_rule.specs.declared.queue.Queue.{Queue}
use Rattle.hall_rule.specs.declared.queue.Queue.TheVariants.{OfRegister, OfDesk, OfLane}
use Rattle.hall_rule.specs.declared.queue.Claim.{Claim}
use Rattle.hall_rule.specs.declared.view.View.{View}
use Rattle.hall_rule.specs.declared.view.Start.{Start}
use Rattle.hall_rule.specs.declared.view.Lists.{Lists}
use Rattle.hall_rule.specs.Sums.{total, times, upward}
use Rattle.hall_rule.specs.Queues.{slot_of, IsQueue}
use Rattle.hall_rule.specs.Machines.{Machines, world_of}
use Rattle.hall_rule.specs.Seen.{GrowsFrom, GrowsUncut, SameList, SeenLists, history_of, lane_of}
use Rattle.hall_rule.specs.Seen.{lanes_issued}
use Rattle.hall_rule.specs.Seen.{Item, at_register, at_desk, at_lane, queue_of, is_cut, pushed}
use Rattle.hall_rule.specs.Claims.{claim, claims_of, count_of, is_desk, numbers, holds, busy}
use Rattle.hall_rule.specs.Claims.{issued_by}
use Rattle.hall_rule.specs.Standing.{HallSlot, StandsFor}
use Rattle.hall_rule.specs.Rule.{names, HallView, HallHand, seeing}
use Rattle.hall_rule.specs.Steps.{WasAdded, others_of, news_of}

-- the item has no entry of another pass than this one
pub record IsBy {Q V T R N : Type 0} (number : ℕ) (item : Item Q V T R N) : Type 0 where
  pub of_others : (x : ℕ) → number ≢ x → (h : Lists Q V T R N)
      → own x (pushed h item).register ≡ own x h.register

-- The item may come next: at the register its verdict is one that may be, and its tickets are of
-- lanes that are there; in a lane it is for the ticket in hand, and its outcome one that may be.
abbrev pub MayJoinList : (service : Service) {N : Type 0} → World service → ℕ → ℕ → SeenLists service N
    → Item service.Asked service.Verdict service.Task service.Reply N → Type 0
MayJoinList service world lanes n seen (at_register e) =
    IsLegalRegisterItem service (register_after service world.register seen.register)
    (places seen.register) (drawn seen.register) e
    × AllByRecursion (λ l. l < lanes) (lanes_issued service e)
MayJoinList service world lanes n seen (at_desk k) = Unit {0}
MayJoinList service world lanes n seen (at_lane lane i owner) =
    (slice_get (issued service lane seen.register) n ≡ Some (ticket_of i))
    × IsReachedBy service (history_of service seen) i
    × IsLegalLaneItem service (objects_after service (world.objects lane)
    (lane_of seen.lanes lane)) i

-- a pass that is in use, of a hall that began so
pub record IsPass {Q V T R N X : Type 0} (start : X) (v : View Q V T R N X) : Type 0 where
  pub live : v.live ≡ true
  pub no_guests : v.guests ≡ []
  pub begun : v.start ≡ Some start

-- the pass may draw a number of the register, and wait for its turn
pub record MayDraw {Q V T R N X : Type 0} (start : X) (v : View Q V T R N X) : Type 0 where
  pub pass : IsPass start v
  pub no_register : total (numbers OfRegister) v.claims ≡ 0
  pub no_turn : total busy v.claims ≡ 0

-- and one of the desk
pub record MayDrawDesk {Q V T R N X : Type 0} (start : X) (v : View Q V T R N X) : Type 0 where
  pub pass : IsPass start v
  pub no_desk : total (numbers OfDesk) v.claims ≡ 0
  pub no_turn : total busy v.claims ≡ 0

-- the newest claim waits under this number
pub record MayLook {Q V T R M N E : Type 0} (start : Start M N E) (q : Queue) (n : ℕ)
    (others : List Claim) (v : View Q V T R N (Start M N E)) : Type 0 where
  pub live : v.live ≡ true
  pub begun : v.start ≡ Some start
  pub there : IsQueue (length start.owners) q
  pub is_claim : v.claims ≡ claim q n false ∷ others
  pub one_turn : cond (is_desk q) 0 1 + total busy others ≤ 1

-- the pass holds a turn, and the slot that it took has the item and a machine that stands for the
-- list with it
pub record IsReadyToPass {service : Service} {M N P E : Type 0} (m : Machines service M N P E)
    (start : Start M N E) (item : Item service.Asked service.Verdict service.Task service.Reply N)
    (me : HallHand service M N P E) : Type 0 where
  pub number : ℕ
  pub others : List Claim
  pub slot : HallSlot service M N P
  pub more : List (ℕ × HallSlot service M N P)
  pub live : me.0.live ≡ true
  pub begun : me.0.start ≡ Some start
  pub no_guests : me.0.guests ≡ []
  pub there : IsQueue (length start.owners) (queue_of item)
  pub is_claim : me.0.claims ≡ claim (queue_of item) number true ∷ others
  pub is_slot : me.1 ≡ (slot_of (queue_of item), slot) ∷ more
  pub news : news_of m me.0.seen me.0.number (queue_of item) number slot ≡ Some item
  pub by : IsBy me.0.number item
  pub next : MayJoinList service (world_of m start) (length start.owners) number me.0.seen item
  pub stands : StandsFor m (queue_of item) slot start (pushed me.0.seen item)
  -- only who holds the desk's turn cuts
  pub cuts : is_cut item ≡ true → 0 < total (holds OfDesk) others

-- A whole turn: all lists as they were when the turn was taken, and as they are when it was passed.
-- The item joined its list, and each entry that is new and isn't the item's is of another pass.
pub record HasTurned {service : Service} {M N P E : Type 0} (m : Machines service M N P E)
    (start : Start M N E) (item : Item service.Asked service.Verdict service.Task service.Reply N)
    (others : List Claim) (v w : HallView service M N E) : Type 0 where
  pub before : SeenLists service N
  pub seen : SeenLists service N
  pub is : w ≡ seeing v (issued_by service before item ++ others) seen
  pub begins : GrowsFrom before v.seen
  pub own_before : (x : ℕ) → 0 < times x (names v) → own x before.register ≡ own x v.seen.register
  pub same : SameList (queue_of item) (pushed before item) seen
  pub longer : GrowsFrom seen (pushed before item)
  pub own_after : (x : ℕ) → 0 < times x (names v)
      → own x seen.register ≡ own x (pushed before item).register
  pub legal : IsLegal service (world_of m start) (history_of service seen)
  pub unused : (x : ℕ) → 0 < times x v.spare → own x seen.register ≡ []
  pub kept : (q : Queue) → 0 < total (holds q) others → SameList q v.seen seen
  -- the item joined lists in which its own was as it was when the turn was taken, and which the
  -- others had not cut where the pass holds the desk's turn
  pub added : WasAdded m start item v.seen seen
  pub alone : SameList (queue_of item) before added.mid
  pub uncut : 0 < total (holds OfDesk) others → GrowsUncut added.mid v.seen

-- the entry of this pass behind these items
abbrev pub entry_behind : {Q V : Type 0} → List (RegisterItem Q V) → ℕ → Q → V → Entry Q V
entry_behind register by asked verdict =
    record { place = places register; by = by; asked = asked; verdict = verdict }

-- a turn of the register in which the register decided a request
pub record HasDecided {service : Service} {M N P E : Type 0} (m : Machines service M N P E)
    (start : Start M N E) (place : ℕ) (asked : service.Asked) (verdict : service.Verdict)
    (v w : HallView service M N E) : Type 0 where
  pub before : SeenLists service N
  pub turned : HasTurned m start (at_register
      (Entered (entry_behind before.register v.number asked verdict))) v.claims v w
  pub before_is : turned.before ≡ before
  pub place_is : place ≡ places before.register
  pub early : place < 2 ^ 61
  -- its verdict is the one that the lists before it give
  pub may : service.MayAnswer (register_after service (world_of m start).register before.register)
      asked verdict
  pub legal : IsLegal service (world_of m start) (history_of service before)

-- whether a turn is to be skipped: exactly where it is a second, and the first didn't go well
abbrev pub IsToSkip : (service : Service) → History service → ℕ → Part → Bool → Type 0
IsToSkip service h place Only skip = skip ≡ false
IsToSkip service h place First skip = skip ≡ false
IsToSkip service h place (Second a) skip = (task : service.Task) × (x : Outcome service.Reply)
    × IsIn (h.lane a) (Passed place First task x) × (skip ≡ not (is_well service x))

-- the newest claim is the ticket of this part
pub record MayAct (service : Service) {M N E : Type 0} (start : Start M N E) (lane number place : ℕ)
    (part : Part) (task : service.Task) (skip : Bool) (v : HallView service M N E) : Type 0 where
  pub pass : IsPass start v
  pub there : lane < length start.owners
  pub is_claim : v.claims ≡ claim (OfLane lane) number false ∷ others_of v.claims
  pub no_turn : total busy (others_of v.claims) ≡ 0
  pub ticket : slice_get (issued service lane v.seen.register) number
      ≡ Some (part_of place part task)
  pub to_skip : IsToSkip service (history_of service v.seen) place part skip

-- a turn of a lane with this outcome, whose item is in the lane's list, and which left the owner so
pub record HasActed {service : Service} {M N P E : Type 0} (m : Machines service M N P E)
    (start : Start M N E) (lane place : ℕ) (part : Part) (task : service.Task)
    (outcome : Outcome service.Reply) (v w : HallView service M N E) : Type 0 where
  pub owner : N
  pub turned : HasTurned m start (at_lane lane (Passed place part task outcome) owner)
      (others_of v.claims) v w
  pub longer : GrowsFrom w.seen v.seen
  pub here : IsIn (lane_of w.seen.lanes lane) (Passed place part task outcome)

-- A turn of the register in which a cut was drawn, behind so many places. Its tickets, one in each
-- lane, have the lanes' next numbers, and are in hand.
pub record HasDrawnCut {service : Service} {M N P E : Type 0} (m : Machines service M N P E)
    (start : Start M N E) (place : ℕ) (v w : HallView service M N E) : Type 0 where
  pub before : SeenLists service N
  pub turned : HasTurned m start (at_register
      (DrawnCut (drawn before.register) (places before.register))) v.claims v w
  pub before_is : turned.before ≡ before
  pub place_is : place ≡ places before.register
  pub is_claims : w.claims
      ≡ claims_of (count_of service before.register) (upward 0 service.lanes) ++ v.claims

-- a turn of the register in which it was cut, behind so many places
pub record HasCutRegister {service : Service} {M N P E : Type 0} (m : Machines service M N P E)
    (start : Start M N E) (place : ℕ) (found : Bool) (v w : HallView service M N E) : Type 0 where
  pub before : SeenLists service N
  pub turned : HasTurned m start (at_register (RegisterCut (places before.register) found))
      v.claims v w
  pub before_is : turned.before ≡ before
  pub place_is : place ≡ places before.register
  pub is_claims : w.claims ≡ v.claims

-- the newest claim is a lane's ticket of a drawn cut, and the pass holds the desk's turn
pub record MayCutLane (service : Service) {M N E : Type 0} (start : Start M N E)
    (lane number cut place : ℕ) (v : HallView service M N E) : Type 0 where
  pub pass : IsPass start v
  pub there : lane < length start.owners
  pub is_claim : v.claims ≡ claim (OfLane lane) number false ∷ others_of v.claims
  pub no_turn : total busy (others_of v.claims) ≡ 0
  pub ticket : slice_get (issued service lane v.seen.register) number ≡ Some (cut_of cut place)
  pub desk : 0 < total (holds OfDesk) (others_of v.claims)

-- a turn of a lane in which it was cut, with or without memory, and which left the owner so
pub record HasCutLane {service : Service} {M N P E : Type 0} (m : Machines service M N P E)
    (start : Start M N E) (lane cut place : ℕ) (found : Bool) (owner : N)
    (v w : HallView service M N E) : Type 0 where
  pub turned : HasTurned m start (at_lane lane (WasCut cut place found) owner)
      (others_of v.claims) v w
  pub longer : GrowsFrom w.seen v.seen
  pub here : IsIn (lane_of w.seen.lanes lane) (WasCut cut place found)

-- A whole turn of the desk, with all that the pass did in it. No entry of it is the pass's own.
pub record HasKept {service : Service} {M N P E : Type 0} (m : Machines service M N P E)
    (start : Start M N E) (k : Keeping) (others : List Claim) (v w : HallView service M N E)
    : Type 0 where
  pub before : SeenLists service N
  pub seen : SeenLists service N
  pub is : w ≡ seeing v others seen
  pub begins : GrowsFrom before v.seen
  pub longer : GrowsFrom seen before
  pub keepings : seen.keepings ≡ before.keepings ++ k ∷ []
  pub own_same : (x : ℕ) → 0 < times x (names v) → own x seen.register ≡ own x v.seen.register
  pub legal : IsLegal service (world_of m start) (history_of service seen)
  pub unused : (x : ℕ) → 0 < times x v.spare → own x seen.register ≡ []
