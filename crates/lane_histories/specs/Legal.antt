-- When a history is one that the service can have.
--     IsLegal s start h     each verdict, ticket and outcome is one that may come there
--     IsNext s h l ticket   the lane's next ticket
--     IsPrefix h g          each list of g begins with that of h
use Rattle.std.specs.Prelude.{◌≡◌, ℕ, suc, ◌≤◌, Bool, true, false, not, [], ◌∷◌, ◌++◌, length}
use Rattle.lane_histories.specs.Services.{Service, World}
use Rattle.lane_histories.specs.Histories.{RegisterItem, Entered, DrawnCut, RegisterCut, Keeping, Part, Only, First, Second, Ticket, Outcome, Done, Short, Skipped, LaneItem, Passed, WasCut, LaneList, RegisterList, TicketList, History, IsIn, StartsWith, changed_at, tickets, issued, register_step, objects_step}

-- ---- the register's list

-- the item may come after so many places and drawn cuts
abbrev pub IsLegalRegisterItem : (s : Service) → s.Register → ℕ → ℕ → RegisterItem s.Asked s.Verdict → Type 0
IsLegalRegisterItem s d places cuts (Entered e) = (e.place ≡ places) × s.MayAnswer d e.asked e.verdict
IsLegalRegisterItem s d places cuts (DrawnCut number c) = (number ≡ cuts) × (c ≡ places)
IsLegalRegisterItem s d places cuts (RegisterCut p found) = p ≡ places

abbrev pub places_on : {Q V : Type 0} → ℕ → RegisterItem Q V → ℕ
places_on places (Entered e) = suc places
places_on places (DrawnCut number c) = places
places_on places (RegisterCut p found) = places

abbrev pub cuts_on : {Q V : Type 0} → ℕ → RegisterItem Q V → ℕ
cuts_on cuts (Entered e) = cuts
cuts_on cuts (DrawnCut number c) = suc cuts
cuts_on cuts (RegisterCut p found) = cuts

abbrev pub IsLegalRegister : (s : Service) → s.Register → ℕ → ℕ → RegisterList s → Type 0
IsLegalRegister s d places cuts [] = Unit {0}
IsLegalRegister s d places cuts (i ∷ items) =
    IsLegalRegisterItem s d places cuts i × IsLegalRegister s (register_step s d i) (places_on places i) (cuts_on cuts i) items

-- ---- a lane's list

abbrev pub is_skipped : {R : Type 0} → Outcome R → Bool
is_skipped (Done reply) = false
is_skipped Short = false
is_skipped Skipped = true

-- done, and a second turn follows
abbrev pub is_well : (s : Service) → Outcome s.Reply → Bool
is_well s (Done reply) = s.went_well reply
is_well s Short = false
is_well s Skipped = false

-- a reply is that of the task at the objects as they are; only a second turn is skipped
abbrev pub IsLegalOutcome : (s : Service) → s.Objects → Part → s.Task → Outcome s.Reply → Type 0
IsLegalOutcome s o part task (Done reply) = reply ≡ (s.acted task o).0
IsLegalOutcome s o part task Short = s.MayBeShort task
IsLegalOutcome s o Only task Skipped = ⊥
IsLegalOutcome s o First task Skipped = ⊥
IsLegalOutcome s o (Second a) task Skipped = Unit {0}

abbrev pub IsLegalLaneItem : (s : Service) → s.Objects → LaneItem s.Task s.Reply → Type 0
IsLegalLaneItem s o (Passed place part task outcome) = IsLegalOutcome s o part task outcome
IsLegalLaneItem s o (WasCut number c found) = Unit {0}

abbrev pub IsLegalLane : (s : Service) → s.Objects → LaneList s → Type 0
IsLegalLane s o [] = Unit {0}
IsLegalLane s o (i ∷ items) = IsLegalLaneItem s o i × IsLegalLane s (objects_step s o i) items

-- ---- all lists

-- where both turns of a request were taken, the second is skipped exactly where the first didn't go well
abbrev pub PairsAgree : (s : Service) → (ℕ → LaneList s) → Type 0
PairsAgree s lane =
    (a b place : ℕ) (task next : s.Task) (x y : Outcome s.Reply)
    → IsIn (lane a) (Passed place First task x) → IsIn (lane b) (Passed place (Second a) next y) → is_skipped y ≡ not (is_well s x)

pub record IsLegal (s : Service) (start : World s) (h : History s) : Type 0 where
  pub register : IsLegalRegister s start.register 0 0 h.register
  pub lanes : (l : ℕ) → IsLegalLane s (start.objects l) (h.lane l)
  -- the tickets of a lane are passed in order of issue
  pub in_order : (l : ℕ) → StartsWith (issued s l h.register) (tickets (h.lane l))
  pub pairs : PairsAgree s h.lane

-- ---- one item more

-- the next ticket of the lane
abbrev pub IsNext : (s : Service) → History s → ℕ → Ticket s.Task → Type 0
IsNext s h l ticket = (rest : TicketList s) × (issued s l h.register ≡ tickets (h.lane l) ++ ticket ∷ rest)

-- a second turn comes after the first, and is skipped exactly where that didn't go well
abbrev pub IsReached : (s : Service) → History s → ℕ → Part → Outcome s.Reply → Type 0
IsReached s h place Only y = Unit {0}
IsReached s h place First y = Unit {0}
IsReached s h place (Second a) y =
    (task : s.Task) × (x : Outcome s.Reply) × IsIn (h.lane a) (Passed place First task x) × (is_skipped y ≡ not (is_well s x))

-- what an item says of the turns before it
abbrev pub IsReachedBy : (s : Service) → History s → LaneItem s.Task s.Reply → Type 0
IsReachedBy s h (Passed place part task y) = IsReached s h place part y
IsReachedBy s h (WasCut number c found) = Unit {0}

-- so have all second turns come; of the lists as a pass has seen them it need not be true
abbrev pub SecondsFollow : (s : Service) → (ℕ → LaneList s) → Type 0
SecondsFollow s lane = (a b place : ℕ) (next : s.Task) (y : Outcome s.Reply) → IsIn (lane b) (Passed place (Second a) next y)
    → (task : s.Task) × (x : Outcome s.Reply) × IsIn (lane a) (Passed place First task x)

abbrev pub with_register_item : {s : Service} → History s → RegisterItem s.Asked s.Verdict → History s
with_register_item h item = record h { register = h.register ++ item ∷ [] }

abbrev pub with_lane_item : {s : Service} → History s → ℕ → LaneItem s.Task s.Reply → History s
with_lane_item h l item = record h { lane = changed_at l (h.lane l ++ item ∷ []) h.lane }

abbrev pub with_keeping : {s : Service} → History s → Keeping → History s
with_keeping h keeping = record h { keepings = h.keepings ++ keeping ∷ [] }

-- ---- longer histories

pub record IsPrefix {s : Service} (h g : History s) : Type 0 where
  pub register : StartsWith g.register h.register
  pub lane : (l : ℕ) → StartsWith (g.lane l) (h.lane l)
  pub keepings : StartsWith g.keepings h.keepings

-- no lane passed more tickets than were issued
abbrev pub HasTickets : (s : Service) → History s → Type 0
HasTickets s h = (l : ℕ) → length (h.lane l) ≤ length (issued s l h.register)
