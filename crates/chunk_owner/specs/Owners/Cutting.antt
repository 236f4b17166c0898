-- What the cut of one lane leaves, and what one of all lanes does that found no memory.
use Rattle.std.specs.Prelude.{◌≡◌, ℕ, ◌<◌, List, length, take, drop, get_or, slice_set}
use Rattle.std.specs.FinMap.{get}
use Rattle.object_ids.specs.IdValues.{Id}
use Rattle.object_ids.specs.Ids.{InRange}
use Rattle.flush_journal.specs.Records.{Held, Record}
use Rattle.flush_journal.specs.Cuts.Cuts.{AppendsEach, IsCut}
use Rattle.chunk_owner.specs.Slots.Bodies.{IsSlotRecord}
use Rattle.chunk_owner.specs.Slots.Slots.{AreStill, IsMarked, Says}
use Rattle.chunk_owner.specs.Lanes.{IsSameLane, IsWhole, Lane}
use Rattle.chunk_owner.specs.Owners.Records.{AreStillIn, IsMarkedIn, LanesSay}

-- the lane of a number was cut, and all others stay
pub record CutsLane (lane : ℕ) (old new : List Lane) (first last : List Record) : Type 0 where
  pub was : Lane
  pub left : Lane
  pub here : get_or old lane was ≡ was
  pub set : new ≡ slice_set old lane left
  pub cut : (base : Held) → IsCut (IsMarked was.slots) base first last (λ held. (id : Id) → InRange id → Says (get was.slots id) id base → Says (get left.slots id) id held)
  pub bodies : AppendsEach (IsSlotRecord was.slots) first last
  pub objects : left.objects ≡ was.objects
  pub same : IsSameLane was left
  pub whole : IsWhole left

-- nothing of that lane changed since
abbrev pub IsStillAt : ℕ → List Lane → Type 0
IsStillAt lane lanes = (l : Lane) → get_or lanes lane l ≡ l → AreStill l.slots

-- so many first lanes are cut whole; all later ones stay, and no other records were added
pub record CutsFront (old new : List Lane) (first last : List Record) : Type 0 where
  pub many : ℕ
  pub few : many < length old
  pub cut : (base : Held) → IsCut (IsMarkedIn (take many old)) base first last (λ held. LanesSay old base → LanesSay new held)
  pub still : AreStillIn (take many new)
  pub rest : drop many new ≡ drop many old
