-- What a journal holds of the array service, part by part.
--     kept_register c          the register of what a journal keeps, of which all is held
--     IsKeptPart c             whatever holds the records of what a journal keeps of a register describes it
--     TellsRegister held c     what is held tells it, and has no record of no part
--     TellsLane lanes l held m  what is held tells the objects of a lane
--     array_contents lanes     the contents of a journal, and what they tell
use Rattle.std.specs.Prelude.{◌≡◌, ℕ, [], Some}
use Rattle.std.specs.FinMap.{get}
use Rattle.flush_journal.specs.Records.{Held}
use Rattle.object_ids.specs.IdValues.{Id}
use Rattle.object_ids.specs.Ids.{InRange, lane_of}
use Rattle.object_acts.specs.Objects.{Objects}
use Rattle.object_acts.specs.declared.objects.Object.{Object}
use Rattle.chunk_owner.specs.Installs.Records.{IsWholeObject}
use Rattle.chunk_owner.specs.Slots.Slots.{Describes}
use Rattle.register.specs.Decided.{RegisterState}
use Rattle.register.specs.Installed.Registers.{DescribesRegister}
use Rattle.register.specs.Kept.{RegisterSays}
use Rattle.register.specs.Marks.{no_marks}
use Rattle.service_core.specs.Strays.Strays.{HasNoStrays}
use Rattle.lane_histories.specs.JournalContents.{JournalContents}
use Rattle.service_histories.specs.ArrayServices.{KeptPart, array_service}

-- ---- the register

abbrev pub kept_register : KeptPart → RegisterState
kept_register c = record { catalogue = c.contents; run = c.run; serial = 0; places = 0; issued = []; marks = no_marks }

-- as it does of every register
abbrev pub IsKeptPart : KeptPart → Type 0
IsKeptPart c = (held : Held) → RegisterSays (kept_register c) held → DescribesRegister held c.run c.contents

pub record TellsRegister (held : Held) (c : KeptPart) : Type 0 where
  pub says : RegisterSays (kept_register c) held
  pub strays : HasNoStrays held
  pub sound : IsKeptPart c

-- ---- a lane

-- each object of the lane, and no other; each can be spelled, and is as requests see it
pub record TellsLane (lanes lane : ℕ) (held : Held) (m : Objects) : Type 0 where
  pub described : (id : Id) → InRange id → lane_of lanes id ≡ lane → Describes held id (get m id)
  pub home : (id : Id) (o : Object) → get m id ≡ Some o → lane_of lanes id ≡ lane
  pub parts : (id : Id) → IsWholeObject (get m id)

-- ---- the whole

abbrev pub array_contents : (lanes : ℕ) → JournalContents (array_service lanes)
array_contents lanes = record { Content = Held; TellsCatalogue = TellsRegister; TellsLane = λ held l m. TellsLane lanes l held m }
