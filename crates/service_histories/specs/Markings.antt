-- What the owner of a lane marks for the next cut.
--     IsOwner l              what is true of every owner
--     SaysOwner lanes ..     what is held says an owner of the lane, but for what changed since its last cut
--     array_marking lanes    owners, and what is held of them
use Rattle.std.specs.Prelude.{◌≡◌, ℕ}
use Rattle.std.specs.FinMap.{get}
use Rattle.flush_journal.specs.Records.{Held}
use Rattle.object_ids.specs.IdValues.{Id}
use Rattle.chunk_owner.specs.Installs.Records.{IsWholeObject}
use Rattle.chunk_owner.specs.Lanes.{IsWhole, Lane}
use Rattle.chunk_owner.specs.Owners.Records.{LaneSays}
use Rattle.chunk_owner.specs.Slots.Slots.{AreStill, Describes, Says}
use Rattle.lane_histories.specs.Since.{Marking}
use Rattle.service_histories.specs.ArrayServices.{array_service}
use Rattle.service_histories.specs.JournalParts.{array_contents}

-- each object can be spelled, and where nothing changed since the last cut, what is held describes it
pub record IsOwner (l : Lane) : Type 0 where
  pub whole : IsWhole l
  pub parts : (id : Id) → IsWholeObject (get l.objects id)
  pub described : AreStill l.slots → (id : Id) (held : Held)
      → Says (get l.slots id) id held → Describes held id (get l.objects id)

-- it is the owner of this lane, of so many
pub record SaysOwner (lanes lane : ℕ) (held : Held) (l : Lane) : Type 0 where
  pub lane_is : l.lane ≡ lane
  pub lanes_are : l.lanes ≡ lanes
  pub says : LaneSays held l

-- nothing is marked of an owner
pub record IsStillOwner (l : Lane) : Type 0 where
  pub owner : IsOwner l
  pub still : AreStill l.slots

abbrev pub array_marking : (lanes : ℕ) → Marking (array_service lanes) (array_contents lanes)
array_marking lanes = record {
  Marked = Lane;
  objects = λ l. l.objects;
  Says = λ held lane l. SaysOwner lanes lane held l;
  IsStill = IsStillOwner;
}
