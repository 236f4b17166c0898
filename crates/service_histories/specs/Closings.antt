-- A world that is put together from what a history leaves.
--     IsOwnerAfter lanes start h l owner     the owner of a lane, with the objects that its list leaves
--     AreOwnersAfter lanes start h owners    those of all lanes, in order
--     WorldsClose lanes                      with the register of its list they are a world
--     WorldsCloseSeen lanes                  which is seen as the history leaves it
--     IsWorldSince lanes first last          each change of a world since another one is marked
--     LeftWorldsAreSaid lanes                so where all of that was kept, what is held of it says the world still
use Rattle.std.specs.Prelude.{◌≡◌, ℕ, List, length, Some, slice_get}
use Rattle.chunk_owner.specs.Lanes.{IsWhole, Lane}
use Rattle.service_core.specs.Records.{IsKept, WorldStillSays}
use Rattle.service_core.specs.Worlds.{IsBuilt, State, seen}
use Rattle.lane_histories.specs.Histories.{History, objects_after, register_after}
use Rattle.lane_histories.specs.Legal.{IsLegal}
use Rattle.lane_histories.specs.Services.{World}
use Rattle.service_histories.specs.ArrayServices.{array_service, kept_part}
use Rattle.service_histories.specs.Cuttings.{IsOwnerSince, IsRegisterSince}
use Rattle.service_histories.specs.PlainSteps.{IsSeen, world_after}
use Rattle.service_histories.specs.Readies.{IsGivenIn}

-- the owner of a lane, whole as every owner is, with the objects that the lane's list leaves
pub record IsOwnerAfter (lanes : ℕ) (start : World (array_service lanes)) (h : History (array_service lanes)) (l : ℕ) (owner : Lane) : Type 0 where
  pub lane_is : owner.lane ≡ l
  pub lanes_are : owner.lanes ≡ lanes
  pub whole : IsWhole owner
  pub objects : owner.objects ≡ objects_after (array_service lanes) (start.objects l) (h.lane l)

-- one for each lane, in order
pub record AreOwnersAfter (lanes : ℕ) (start : World (array_service lanes)) (h : History (array_service lanes)) (owners : List Lane) : Type 0 where
  pub count : length owners ≡ lanes
  pub each : (l : ℕ) (owner : Lane) → slice_get owners l ≡ Some owner → IsOwnerAfter lanes start h l owner

-- the register that a history's list leaves, and these owners
abbrev pub closed : (lanes : ℕ) → World (array_service lanes) → History (array_service lanes) → List Lane → State
closed lanes start h owners = record { register = register_after (array_service lanes) start.register h.register; lanes = owners }

abbrev pub WorldsClose : ℕ → Type 0
WorldsClose lanes =
    (start : World (array_service lanes)) (h : History (array_service lanes)) (owners : List Lane)
    → IsLegal (array_service lanes) start h → ((l : ℕ) → IsGivenIn lanes start.register (start.objects l))
    → AreOwnersAfter lanes start h owners
    → IsBuilt (register_after (array_service lanes) start.register h.register) owners

-- each object is the one that the list of its lane leaves
abbrev pub WorldsCloseSeen : ℕ → Type 0
WorldsCloseSeen lanes =
    (start : World (array_service lanes)) (h : History (array_service lanes)) (owners : List Lane)
    → ((l : ℕ) → IsGivenIn lanes start.register (start.objects l)) → AreOwnersAfter lanes start h owners
    → IsSeen lanes (world_after lanes start h) (seen (closed lanes start h owners))

-- ---- what is held of a world that is left

-- the register is since that of the first world, and each owner since that of its lane
pub record IsWorldSince (lanes : ℕ) (first last : State) : Type 0 where
  pub register : IsRegisterSince (kept_part first.register) last.register
  pub count : length last.lanes ≡ length first.lanes
  pub owners : (l : ℕ) (was now : Lane) → slice_get first.lanes l ≡ Some was → slice_get last.lanes l ≡ Some now → IsOwnerSince lanes l was now

abbrev pub LeftWorldsAreSaid : ℕ → Type 0
LeftWorldsAreSaid lanes = (first last : State) → IsKept first → IsWorldSince lanes first last → WorldStillSays first last
