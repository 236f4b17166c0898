-- An object that is linked from the group 0 in the lane 0, and made with the id 1 in the lane 1.
use Rattle.std.specs.Prelude.{ℕ, zero, suc, Bool, true, false, [], ◌∷◌, None}
use Rattle.lane_histories.specs.Services.{World}
use Rattle.lane_histories.specs.Histories.{History, LaneList, RegisterList}
use Rattle.lane_histories.specs.declared.items.RegisterItem.TheVariants.{Entered}
use Rattle.lane_histories.specs.declared.items.LaneItem.TheVariants.{Passed}
use Rattle.lane_histories.specs.declared.items.Outcome.{Outcome}
use Rattle.lane_histories.specs.declared.items.Outcome.TheVariants.{Done, Short, Skipped}
use Rattle.lane_histories.specs.declared.items.Part.TheVariants.{First, Second}
use Rattle.lane_histories.specs.Desks.{nowhere}
use Rattle.lane_histories.specs.Core.{Core}
use Rattle.lane_tests.specs.Examples.Links.{Objects, contents, Register, link_to, links, make_at, make_in, verdict_of}

-- the next serial, where no ticket was given yet
abbrev pub next_serial : ℕ → Register
next_serial serial = record { serial = serial; issued = λ l. 0 }

-- whether the group is there
abbrev pub group_in : Bool → ℕ → Objects
group_in true zero = (0, []) ∷ []
group_in false zero = []
group_in linked (suc l) = []

abbrev pub with_group : Bool → World links
with_group linked = record { register = next_serial 1; objects = group_in linked }

-- one object is to be made in the group 0, with this serial
abbrev pub asked_for : ℕ → RegisterList links
asked_for serial = Entered (record { place = 0; by = 0; asked = make_in 0; verdict = (verdict_of (next_serial serial) (make_in 0)).0 }) ∷ []

abbrev pub asked_alone : History links
asked_alone = record { register = asked_for 1; lane = λ l. []; keepings = [] }

-- what came of the link, and the lane 1
abbrev pub two_lanes : Outcome Bool → LaneList links → ℕ → LaneList links
two_lanes linked second zero = Passed 0 First (link_to 0 1) linked ∷ []
two_lanes linked second (suc zero) = second
two_lanes linked second (suc (suc l)) = []

abbrev pub make_turn : Outcome Bool → LaneList links
make_turn made = Passed 0 (Second 0) (make_at 1) made ∷ []

-- the link was done where the group is there
abbrev pub made_with : Bool → Outcome Bool → History links
made_with linked made = record { register = asked_for 1; lane = two_lanes (Done linked) (make_turn made); keepings = [] }

-- the link found no memory
abbrev pub link_short : History links
link_short = record { register = asked_for 1; lane = two_lanes Short (make_turn Skipped); keepings = [] }

-- the turn in which it is made isn't there yet
abbrev pub linked_alone : History links
linked_alone = record { register = asked_for 1; lane = two_lanes (Done true) []; keepings = [] }

-- with the id 2 both turns are in the lane 0
abbrev pub made_in_one_lane : RegisterList links
made_in_one_lane = asked_for 2

-- both turns are out
abbrev pub both_out : Core links contents
both_out = record {
  list = asked_for 1;
  items = λ l. [];
  register = (verdict_of (next_serial 1) (make_in 0)).1;
  objects = group_in true;
  torn = λ l. false;
  desk = record { held = group_in true; own = nowhere; pending = None; built = group_in true };
  keepings = [];
  crashed = false;
}
