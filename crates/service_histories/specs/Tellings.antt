-- What a world, of which all is kept or which was installed, has to do with what is held.
--     objects_in lanes l     the objects of a lane
--     told_by s              what a journal tells of a world
--     opening lanes s        a world as histories begin with it
--     KeptWorldsAreTold      what is held of a world of which all is kept tells it
--     KeptWorldsAreDescribed  what tells a world that is kept describes it, so that it opens again
--     InstallsAreTold        a world that is installed from what tells a world is that, at the begin of the next run
--     WorldsToldAreOne       what is held tells one world
use Rattle.std.specs.Prelude.{◌≡◌, ℕ, zero, suc, ◌+◌, ◌<◌, List, [], ◌∷◌, length, Some, slice_get}
use Rattle.std.specs.FinMap.{empty, get}
use Rattle.std.specs.List.{AllByRecursion}
use Rattle.domains.specs.Contents.{IsCatalogue}
use Rattle.flush_journal.specs.Records.{Held}
use Rattle.object_ids.specs.IdValues.{Id}
use Rattle.object_ids.specs.Ids.{InRange, lane_of}
use Rattle.object_acts.specs.Objects.{Objects}
use Rattle.chunk_owner.specs.Lanes.{Lane}
use Rattle.chunk_owner.specs.Owners.Joined.{whole}
use Rattle.register.specs.Decided.{IsRegister, RegisterState}
use Rattle.register.specs.Kept.{all_kept}
use Rattle.service_core.specs.Described.Told.{AreWhole}
use Rattle.service_core.specs.Records.{DescribesWorld, IsWorldOf, WorldSays}
use Rattle.service_core.specs.Records.{IsKept as IsAllKept}
use Rattle.service_core.specs.Steps.{World}
use Rattle.service_core.specs.Worlds.{IsBuilt, State, seen}
use Rattle.lane_histories.specs.JournalContents.{TellsAll}
use Rattle.lane_histories.specs.Histories.{History}
use Rattle.lane_histories.specs.Kept.{IsKept, ToldWorld}
use Rattle.lane_histories.specs.Legal.{IsLegal}
use Rattle.lane_histories.specs.declared.items.Reach.{Reach}
use Rattle.lane_histories.specs.Services.{World as LaneWorld}
use Rattle.service_histories.specs.ArrayServices.{array_service, kept_part}
use Rattle.service_histories.specs.JournalParts.{IsKeptPart, array_contents}
use Rattle.service_histories.specs.Cuttings.{IsRegisterSince}
use Rattle.service_histories.specs.Markings.{IsOwner, SaysOwner}
use Rattle.service_histories.specs.PlainSteps.{IsSeen}
use Rattle.service_histories.specs.Readies.{IsGivenIn}

-- none where there is no such lane
abbrev pub objects_in : List Lane → ℕ → Objects
objects_in [] l = empty
objects_in (x ∷ xs) zero = x.objects
objects_in (x ∷ xs) (suc l) = objects_in xs l

abbrev pub told_by : (lanes : ℕ) → State → ToldWorld (array_service lanes)
told_by lanes s = record { catalogue = kept_part s.register; objects = objects_in s.lanes }

-- ---- a world of which all is kept

pub record IsSoundWorld (lanes : ℕ) (s : State) : Type 0 where
  pub count : length s.register.issued ≡ lanes
  pub built : IsBuilt s.register s.lanes
  pub register : IsKeptPart (kept_part s.register)
  pub owners : AllByRecursion IsOwner s.lanes

abbrev pub KeptWorldsAreTold : ℕ → Type 0
KeptWorldsAreTold lanes =
    (s : State) (held : Held) → IsSoundWorld lanes s → IsAllKept s → WorldSays s held
    → TellsAll (array_contents lanes) held (told_by lanes s)

-- ---- a world that is installed

-- the same folders, domains and objects, in the next run
pub record IsInstalledAs (lanes : ℕ) (w : ToldWorld (array_service lanes)) (s : State) : Type 0 where
  pub catalogue : s.register.catalogue ≡ w.catalogue.contents
  pub run : s.register.run ≡ w.catalogue.run + 1
  pub objects : (id : Id) → InRange id → get (whole s.lanes) id ≡ get (w.objects (lane_of lanes id)) id

abbrev pub InstallsAreTold : ℕ → Type 0
InstallsAreTold lanes =
    (held : Held) (w : ToldWorld (array_service lanes)) (s : State) → 0 < lanes → TellsAll (array_contents lanes) held w
    → AreWhole (whole s.lanes) → IsWorldOf held lanes s → IsInstalledAs lanes w s

-- ---- one world is told

-- the same run, folders and domains; and of each lane the same objects, at each id that a key may have
pub record IsSameTold (lanes : ℕ) (w v : ToldWorld (array_service lanes)) : Type 0 where
  pub catalogue : v.catalogue ≡ w.catalogue
  pub objects : (l : ℕ) → l < lanes → (id : Id) → InRange id → get (v.objects l) id ≡ get (w.objects l) id

abbrev pub WorldsToldAreOne : ℕ → Type 0
WorldsToldAreOne lanes =
    (held : Held) (w v : ToldWorld (array_service lanes)) → TellsAll (array_contents lanes) held w
    → TellsAll (array_contents lanes) held v → IsSameTold lanes w v

-- ---- a world that is kept

-- a world with the folders and domains that are told, and with the objects of each lane
pub record IsWorldOfTold (lanes : ℕ) (w : ToldWorld (array_service lanes)) (v : World) : Type 0 where
  pub catalogue : v.register.catalogue ≡ w.catalogue.contents
  pub objects : (id : Id) → get v.objects id ≡ get (w.objects (lane_of lanes id)) id

-- what tells a world that is kept from a legal history describes it: each record keeps to the rules, so that it opens again
abbrev pub KeptWorldsAreDescribed : ℕ → Type 0
KeptWorldsAreDescribed lanes =
    (start : LaneWorld (array_service lanes)) (h : History (array_service lanes)) (held : Held)
    (w : ToldWorld (array_service lanes)) (v : World) (reach : Reach)
    → IsLegal (array_service lanes) start h → ((l : ℕ) → IsGivenIn lanes start.register (start.objects l)) → 0 < lanes
    → TellsAll (array_contents lanes) held w → IsKept (array_service lanes) start h w reach → IsWorldOfTold lanes w v
    → DescribesWorld held w.catalogue.run v

-- ---- a world before its first request

-- the register, and the objects of each lane
abbrev pub opening : (lanes : ℕ) → State → LaneWorld (array_service lanes)
opening lanes s = record { register = s.register; objects = objects_in s.lanes }

-- the ids of its objects were given, and each object stands in the lane of its id
pub record IsOpening (lanes : ℕ) (s : State) : Type 0 where
  pub given : (l : ℕ) → IsGivenIn lanes s.register (objects_in s.lanes l)
  pub seen : IsSeen lanes (opening lanes s) (seen s)

abbrev pub WorldsOpen : ℕ → Type 0
WorldsOpen lanes =
    (s : State) → length s.register.issued ≡ lanes → IsBuilt s.register s.lanes → IsRegister s.register
    → IsCatalogue s.register.catalogue → IsOpening lanes s

-- what is held says each of its owners, but for what is to be written
abbrev pub OwnersAreSaid : ℕ → Type 0
OwnersAreSaid lanes =
    (s : State) (held : Held) → length s.register.issued ≡ lanes → IsBuilt s.register s.lanes → WorldSays s held
    → (l : ℕ) (owner : Lane) → slice_get s.lanes l ≡ Some owner → SaysOwner lanes l held owner

-- a register of which all is kept is since itself
abbrev pub KeptRegistersAreSince : Type 0
KeptRegistersAreSince = (d : RegisterState) → d ≡ all_kept d → IsRegisterSince (kept_part d) d
