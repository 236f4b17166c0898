-- The lists as a table's views hold them, what a turn adds, and how they grow.
--     GrowsFrom h g      each list of h begins with that of g
--     GrowsUncut h g     and what is more has no cut, so each lane was the same at its last one
--     Item               what a turn adds to a list, with its queue; of a lane's, with the owner as it is left
--     pushed h item      the lists with it
--     history_of s h     the lists as a history of the service
use Rattle.std.specs.Prelude.{◌≡◌, ℕ, Bool, true, false, List, [], ◌∷◌, ◌++◌, length, replicate}
use Rattle.std.specs.Prelude.{get_or, set}
use mathlib.Core.Option as maybe
use lib.ListN.{get_elem?}
use Rattle.std.specs.List.{AllByRecursion}
use Rattle.lane_histories.specs.Services.{Service, Turns, no_turn, one_turn, two_turns, each_lane}
use Rattle.lane_histories.specs.Histories.{History, StartsWith}
use Rattle.lane_histories.specs.declared.items.RegisterItem.{RegisterItem}
use Rattle.lane_histories.specs.declared.items.Keeping.{Keeping}
use Rattle.lane_histories.specs.declared.items.LaneItem.{LaneItem}
use Rattle.lane_histories.specs.declared.items.RegisterItem.TheVariants.{Entered, DrawnCut}
use Rattle.lane_histories.specs.declared.items.RegisterItem.TheVariants.{RegisterCut}
use Rattle.lane_histories.specs.declared.items.LaneItem.TheVariants.{Passed, WasCut}
use Rattle.hall_rule.specs.declared.queue.Queue.{Queue}
use Rattle.hall_rule.specs.declared.queue.Queue.TheVariants.{OfRegister, OfDesk, OfLane}
use Rattle.hall_rule.specs.declared.view.Lists.{Lists}
use Rattle.hall_rule.specs.Sums.{upward}

abbrev pub lane_of : {E : Type 0} → List (List E) → ℕ → List E
lane_of lanes lane = get_or lanes lane []

-- the list goes on by elements of this kind
abbrev pub GrowsBy : {X : Type 0} → (X → Type 0) → List X → List X → Type 0
GrowsBy {X} P xs front = (more : List X) × (xs ≡ front ++ more) × AllByRecursion P more

abbrev pub is_cut_of_register : {Q V : Type 0} → RegisterItem Q V → Bool
is_cut_of_register (Entered e) = false
is_cut_of_register (DrawnCut number at) = true
is_cut_of_register (RegisterCut at found) = true

abbrev pub is_cut_of_lane : {T R : Type 0} → LaneItem T R → Bool
is_cut_of_lane (Passed place part task outcome) = false
is_cut_of_lane (WasCut number at found) = true

abbrev pub IsNoRegisterCut : {Q V : Type 0} → RegisterItem Q V → Type 0
IsNoRegisterCut i = is_cut_of_register i ≡ false

abbrev pub IsNoLaneCut : {T R : Type 0} → LaneItem T R → Type 0
IsNoLaneCut i = is_cut_of_lane i ≡ false

module _ {Q V T R N : Type 0} where
  -- list by list, the one goes on from the other
  pub record GrowsFrom (h g : Lists Q V T R N) : Type 0 where
    pub sized : length h.lanes ≡ length g.lanes
    pub register : StartsWith h.register g.register
    pub lanes : (lane : ℕ) → StartsWith (lane_of h.lanes lane) (lane_of g.lanes lane)
    pub keepings : StartsWith h.keepings g.keepings

  -- the register's and the lanes' by entries and turns alone, and no cut
  pub record GrowsUncut (h g : Lists Q V T R N) : Type 0 where
    pub longer : GrowsFrom h g
    pub register : GrowsBy IsNoRegisterCut h.register g.register
    pub lanes : (lane : ℕ) → GrowsBy IsNoLaneCut (lane_of h.lanes lane) (lane_of g.lanes lane)
    pub was : h.was ≡ g.was

  -- the lists of lanes with these owners before anything was done
  abbrev pub nothing : List N → Lists Q V T R N
  nothing owners = record {
    register = [];
    lanes = replicate (length owners) [];
    keepings = [];
    was = owners;
  }

  abbrev pub len_of : Lists Q V T R N → Queue → ℕ
  len_of h OfRegister = length h.register
  len_of h OfDesk = length h.keepings
  len_of h (OfLane lane) = length (lane_of h.lanes lane)

  -- the owner of a lane as it was at the lane's last cut
  abbrev pub was_of : Lists Q V T R N → ℕ → maybe.Option N
  was_of h lane = get_elem? h.was lane

  -- the two have the same list of this queue; and of a lane, the same owner at its last cut
  abbrev pub SameList : Queue → Lists Q V T R N → Lists Q V T R N → Type 0
  SameList OfRegister g h = g.register ≡ h.register
  SameList OfDesk g h = g.keepings ≡ h.keepings
  SameList (OfLane lane) g h =
      (lane_of g.lanes lane ≡ lane_of h.lanes lane) × (was_of g lane ≡ was_of h lane)

-- the owners at the last cuts: one that found memory is its lane's last
abbrev pub cut_with : {T R N : Type 0} → List N → ℕ → LaneItem T R → N → List N
cut_with was lane (Passed place part task outcome) owner = was
cut_with was lane (WasCut number at true) owner = set was lane owner
cut_with was lane (WasCut number at false) owner = was

-- what a turn adds to the lists; in a lane, with the owner as the turn left it
pub data Item (Q V T R N : Type 0) : Type 0 where
  at_register : RegisterItem Q V → Item Q V T R N
  at_desk : Keeping → Item Q V T R N
  at_lane : ℕ → LaneItem T R → N → Item Q V T R N

module _ {Q V T R N : Type 0} where
  abbrev pub queue_of : Item Q V T R N → Queue
  queue_of (at_register e) = OfRegister
  queue_of (at_desk k) = OfDesk
  queue_of (at_lane lane i owner) = OfLane lane

  abbrev pub is_cut : Item Q V T R N → Bool
  is_cut (at_register e) = is_cut_of_register e
  is_cut (at_desk k) = false
  is_cut (at_lane lane i owner) = is_cut_of_lane i

  -- the item joins its list
  abbrev pub pushed : Lists Q V T R N → Item Q V T R N → Lists Q V T R N
  pushed h (at_register e) = record h { register = h.register ++ e ∷ [] }
  pushed h (at_desk k) = record h { keepings = h.keepings ++ k ∷ [] }
  pushed h (at_lane lane i owner) = record h {
    lanes = set h.lanes lane (lane_of h.lanes lane ++ i ∷ []);
    was = cut_with h.was lane i owner;
  }

-- the lists as the service's items
abbrev pub SeenLists : Service → Type 0 → Type 0
SeenLists service N = Lists service.Asked service.Verdict service.Task service.Reply N

abbrev pub history_of : (service : Service) {N : Type 0} → SeenLists service N → History service
history_of service h = record {
  register = h.register;
  lane = λ l. lane_of h.lanes l;
  keepings = h.keepings;
}

-- ---- the lanes whose tickets are issued

abbrev pub lanes_of : {T : Type 0} → ℕ → Turns T → List ℕ
lanes_of lanes no_turn = []
lanes_of lanes (one_turn a task) = a ∷ []
lanes_of lanes (two_turns a task b next) = a ∷ b ∷ []
lanes_of lanes (each_lane task) = upward 0 lanes

abbrev pub lanes_issued : (service : Service) → RegisterItem service.Asked service.Verdict → List ℕ
lanes_issued service (Entered e) = lanes_of service.lanes (service.turns e.asked e.verdict)
lanes_issued service (DrawnCut number at) = upward 0 service.lanes
lanes_issued service (RegisterCut at found) = []
