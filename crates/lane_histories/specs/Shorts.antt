-- What a place is answered, by what came of its turns.
--     IsShortAt h place     a turn of the place found no memory
--     IsToldOf s h e what   it is told so, and only then
--     ShortsAreTold s       so is every place
use Rattle.std.specs.Prelude.{◌≡◌, ◌⊎◌, ℕ, Some}
use Rattle.lane_histories.specs.Services.{Service, World, each_lane, no_turn}
use Rattle.lane_histories.specs.Histories.{Entry, Entered, History, IsIn, Part, Passed, Short}
use Rattle.lane_histories.specs.Legal.{IsLegal}
use Rattle.lane_histories.specs.Replies.{What, by_register, no_memory, reply}

-- a turn of the place found no memory
pub record IsShortAt {s : Service} (h : History s) (place : ℕ) : Type 0 where
  pub lane : ℕ
  pub part : Part
  pub task : s.Task
  pub here : IsIn (h.lane lane) (Passed place part task Short)

-- this is what the entry's place is answered
pub record IsToldOf (s : Service) (h : History s) (e : Entry s.Asked s.Verdict) (what : What s.Verdict s.Reply) : Type 0 where
  -- by the register with the entry's verdict alone, and so where it asks for no turn
  pub by_verdict : (v : s.Verdict) → what ≡ by_register v → v ≡ e.verdict
  pub without_turn : s.turns e.asked e.verdict ≡ no_turn → what ≡ by_register e.verdict
  -- that memory was wanting only where a turn found none, and wherever one did; but for turns in each lane, which the register answers
  pub only : what ≡ no_memory → IsShortAt h e.place
  pub short : IsShortAt h e.place → (what ≡ no_memory) ⊎ ((task : s.Task) × (s.turns e.asked e.verdict ≡ each_lane task) × s.MayBeShort task)

abbrev pub ShortsAreTold : Service → Type 0
ShortsAreTold s =
    (start : World s) (h : History s) (e : Entry s.Asked s.Verdict) (what : What s.Verdict s.Reply)
    → IsLegal s start h → IsIn h.register (Entered e) → reply s h e.place ≡ Some what → IsToldOf s h e what
